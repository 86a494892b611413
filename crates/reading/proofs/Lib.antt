-- `Stands`: what is known of globals that stand. `Text`: a kept record's text, and a changed record in its place. `Line`: one line that is read. `Going`: one
-- after the other. `Back`: the gap goes back. `To`: up to a source line, and up to EOF.
pub mod Stands
pub mod Text
pub mod Line
pub mod Going
pub mod Back
pub mod To
