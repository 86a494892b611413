-- `Bits`: the bits of words. `Setting`: a set with bytes added to it. `Naming`: the names of WORD's string, one at a time. `Reading`: the string read up to a place.
-- `BytesBefore`: the byte before a place.
pub mod Bits
pub mod Setting
pub mod Naming
pub mod Reading
pub mod BytesBefore
