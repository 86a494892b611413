-- `Same`: laws of bytes that are all the same. `Digits`: of hexadecimal digits, and of what is written over a buffer. `Places`: of lines, fields and numbers.
pub mod Same
pub mod Digits
pub mod Places
pub mod Reading
