-- `Texts`: the search on the current line's text. `Looking`: what a program comes to, as an answer. `Tests`: tests, and the beginning of a search.
-- `Carrying`: what a step carries on. `Finding`: a search on one line. `Seeking`: over lines. `Runs`: the run's steps of a search.
pub mod Texts
pub mod Looking
pub mod Tests
pub mod Carrying
pub mod Finding
pub mod Seeking
pub mod Runs
