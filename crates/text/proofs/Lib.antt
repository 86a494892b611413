-- `Lines`: laws of lines over byte lists. `Texts`: how many bytes are text. `Words`: the test of eight bytes at once. `Ends`: what a line's end found in
-- a slice says. `LineFeeds`: from line feed to line feed. `Forms`: tables, scripts and comparing. `Buffer`, `Pastes`: bytes written into a buffer, and
-- over others. `Pieces`: the same a piece at a time. `Cases`: bytes in upper case. `Parts`: the bytes from one place up to another. `Cursors`: the cursor at a place.
pub mod Lines
pub mod Texts
pub mod Words
pub mod Ends
pub mod LineFeeds
pub mod Forms
pub mod Buffer
pub mod Pastes
pub mod Pieces
pub mod Cases
pub mod Parts
pub mod Cursors
