-- Reading: how source lines come into the text (document 01, "A source line is read when it becomes current, is passed or deleted, or is reached by a
-- search"). Each goes through the standing globals when it is first read, and they may stop (document 02, wish 2).
use Rattle.std.specs.Prelude.{Bool, true, cond, List, [], ◌∷◌, ◌++◌, ℕ, zero, suc, ◌-◌, length, leb}
use Rattle.definitions.specs.Bytes.{Line, eq_line}
use Rattle.definitions.specs.Journal.{Record, kept, changed, journal_length}
use Rattle.definitions.specs.Tape.{unread, ended, rest_lines, Reads, ret, bind}
use Rattle.definitions.specs.Given.{bytes, boundless, Given, given, Carried}
use Rattle.definitions.specs.Editor.{Ed, ed, records, journal, sources, Stop, n26, Got, got, stop, Target, here, line, eof}
use Rattle.definitions.specs.Globals.{left_by}

-- what a part of a step comes to: a value, or a stop; with the text, which differs from the one before only by what was read and by moves
pub data Ran (A : Type 0) : Type 0 where
  gave : A → Ed → Ran A
  stopped : Stop → Ed → Ran A

-- to go on with what was read
unfoldable pub once_read : {A : Type 0} → (Ed → Reads (Ran A)) → Ran (Unit {0}) → Reads (Ran A)
once_read go (gave u e) = go e
once_read go (stopped n e) = ret (stopped n e)

-- what is read comes after the other records
unfoldable pub seen : Record → Ed → Ed
seen r (ed before after p) = ed before (after ++ (r ∷ [])) p

-- does a journal fit the buffer
unfoldable pub has_room : Given → List Record → Bool
has_room (given (bytes size)) j = leb (journal_length j) size
has_room (given boundless) j = true

-- the line `l` is changed to `new` as it is read: 26 is tested "after the last" global, on the journal with this record (W2.7)
unfoldable pub read_changed : Given → Line → Line → Ed → Reads (Ran (Unit {0}))
read_changed g l new e t =
    cond (has_room g (journal (seen (changed l new) e) t)) (gave tt (seen (changed l new) e), t) (stopped n26 (seen (kept l) e), t)

-- the line `l` is read as the globals leave it: "A text equal to the old line makes a kept record" (W2.6); "a line on which they would stop keeps its
-- text", and counts as read (W2.8)
unfoldable pub read_as : Given → Line → Ed → Got Line → Reads (Ran (Unit {0}))
read_as g l e (got new) = cond (eq_line l new) (ret (gave tt (seen (kept l) e))) (read_changed g l new e)
read_as g l e (stop n) = ret (stopped n (seen (kept l) e))

-- the next line is read, or EOF
unfoldable pub read_line : Given → Carried → Ed → Reads (Ran (Unit {0}))
read_line g c e (unread (l ∷ ls)) = read_as g l e (left_by c l) (unread ls)
read_line g c e (unread []) = (gave tt e, ended)
read_line g c e ended = (gave tt e, ended)

unfoldable pub read_lines : Given → Carried → ℕ → Ed → Reads (Ran (Unit {0}))
read_lines g c zero e = ret (gave tt e)
read_lines g c (suc n) e = bind (read_line g c e) (once_read (λ e'. read_lines g c n e'))

-- the lines up to a target are read, fewer where EOF is met: "EOF .. read as soon as a search, a line number or `*` meets it"
unfoldable pub read_to : Given → Carried → Target → Ed → Reads (Ran (Unit {0}))
read_to g c here e t = (gave tt e, t)
read_to g c (line n) e t = read_lines g c (n - sources (records e)) e t
read_to g c eof e t = read_lines g c (suc (length (rest_lines t))) e t

-- "A run begins with every source line kept, the first line (or EOF) current and read"
unfoldable pub opening : Reads Ed
opening (unread (l ∷ ls)) = (ed [] (kept l ∷ []) 0, unread ls)
opening (unread []) = (ed [] [] 0, ended)
opening ended = (ed [] [] 0, ended)
