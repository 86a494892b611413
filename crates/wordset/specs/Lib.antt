pub mod Sets
pub mod Decoding
pub mod Laws
