-- `Laws`: how far the next line with a wanted first byte is, over lists of bytes. `Places`: the same from a place of a slice on.
pub mod Laws
pub mod Places
