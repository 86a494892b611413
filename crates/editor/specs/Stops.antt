-- What a command's function answers, and the documents' numbers of stops. Assumes nothing.
use Rattle.std.specs.Prelude.{ℕ, Result, Err}
use Rattle.editor.specs.declared.State.{State}
use Rattle.editor.specs.declared.Stop.{Stop}
use Rattle.editor.specs.declared.Stop.TheVariants.{Quit, AtEof, MetEof, NoPrevious, LineDeleted, NoMatch, LineLong, JournalFull, PointAtEnd, LineBefore, BudgetSpent, NoNext, GlobalsFull}
use Rattle.editor.specs.declared.Stopped.{Stopped}

-- a stop's number
abbrev pub numbered : Stop → ℕ
numbered Quit = 0
numbered AtEof = 20
numbered MetEof = 21
numbered NoPrevious = 22
numbered LineDeleted = 23
numbered NoMatch = 24
numbered LineLong = 25
numbered JournalFull = 26
numbered PointAtEnd = 27
numbered LineBefore = 28
numbered BudgetSpent = 29
numbered NoNext = 30
numbered GlobalsFull = 31

-- the buffer's numbers where the run goes on; or why it stops, and the numbers then
abbrev pub Moved : Type 0
Moved = Result State Stopped

-- the answer of a function that stops
abbrev pub stopping : {A : Type 0} → Stop → State → Result A Stopped
stopping k s = Err (record { stop = k; st = s })
