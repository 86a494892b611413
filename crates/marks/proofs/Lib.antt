-- `Places`: the bytes of the string. `Reading`: what the reader reads stands there. `Standing`: that taken apart. `Naming`, `Singles`, `Parts`: one byte, parts, items.
-- `Flowing`: what flows through a pattern, by its parts. `Looping`: rows and alternatives, swept up to a place. `Whole`: the whole string.
pub mod Places
pub mod Reading
pub mod Standing
pub mod Naming
pub mod Flowing
pub mod Singles
pub mod Parts
pub mod Looping
pub mod Whole
