-- The lines of I and R as a part of the script.
use Rattle.std.specs.Prelude.{◌≡◌, Bool, cond, List, ℕ, suc, ◌≤◌, drop, Result}
use Rattle.definitions.specs.Bytes.{Line, lines_of}
use Rattle.definitions.specs.Reader.{got}
use Rattle.definitions.specs.Commands.{end_of_line, lines_up_to_z, lines_after}
use Rattle.text.specs.Lines.{part}
use Rattle.answers.specs.declared.Fault.TheVariants.{Bracket, NoZ}
use Rattle.answers.specs.declared.Part.{Part}
use Rattle.answers.specs.declared.Read.{Read}
use Rattle.answers.specs.declared.Refusal.{Refusal}
use Rattle.lexer.specs.Places.{cursor_at}
use Rattle.lexer.specs.Answers.{ValueRead}

-- the lines from `at` up to the line Z at `z`
unfoldable pub lines_to : List ℕ → ℕ → ℕ → List Line
lines_to s at z = lines_of (part at z s)

-- the same of a part of the script
abbrev pub lines_in : List ℕ → Part → List Line
lines_in s p = lines_to s p.start p.end

-- a line Z was found from `at` on
abbrev pub ToZ : ℕ → ℕ → ℕ → Type 0
ToZ at z next = (at ≤ z) × (next ≡ suc z)

-- the lines from `at` on were read up to the line Z, in a group or not
abbrev pub ZRead : Bool → List ℕ → ℕ → Result (Read ℕ) Refusal → Type 0
ZRead inGroup s at = ValueRead s (lines_to s at) (ToZ at) (lines_after inGroup (cursor_at s at) (lines_up_to_z (lines_of (drop at s))))

-- no Z up to the script's end
unfoldable pub no_z_at : Bool → ℕ → Refusal
no_z_at inGroup at = record { fault = cond inGroup Bracket NoZ; place = at }

-- where the lines start, and that they lie within the script
abbrev pub LinesRead : List ℕ → ℕ → Part → ℕ → Type 0
LinesRead s at p next = (end_of_line (cursor_at s at) ≡ got tt (cursor_at s p.start)) × (at ≤ p.start) × (p.start ≤ p.end) × (next ≡ suc p.end)
