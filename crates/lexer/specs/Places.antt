-- A place of the script, as the definitions' cursor.
pub use Rattle.text.specs.Cursors.{cursor_at}
