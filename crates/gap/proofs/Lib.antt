-- `Laws`: bytes that are cleared, and bytes moved over a gap of zeros.
pub mod Laws
