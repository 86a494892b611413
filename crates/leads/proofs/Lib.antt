-- `Beginning`: what a sweep from no marks on says of the first byte. `Ranging`: the first and the last byte that a match can begin with.
pub mod Beginning
pub mod Ranging
