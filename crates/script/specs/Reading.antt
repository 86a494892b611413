-- The reader's state: numbers, and the last words of the work area, which hold the open groups.
use Rattle.std.specs.Prelude.{◌≡◌, Bool, true, false, cond, List, [], ◌∷◌, ℕ, zero, suc, ◌+◌, ◌-◌, ◌*◌, ◌/◌, ◌%◌, ◌≤◌, ◌<◌, length, get_or, eqb, leb, Option, Some, None, Result}
use Rattle.definitions.specs.Bytes.{is_digit}
use Rattle.definitions.specs.Control.{times, Item, opens}
use Rattle.definitions.specs.Table.{is_script}
use Rattle.definitions.specs.Reader.{Got, got, refused, Token, token}
use Rattle.definitions.specs.Commands.{Decoded as Command-read, whole, prefix}
use Rattle.definitions.specs.Script.{Due, nothing, body, Group, group, Reading, reading, Script, items, refused_at, AfterRound, more, done, decoded}
use Rattle.answers.specs.declared.Command.{Command}
use Rattle.answers.specs.declared.Follow.{Follow}
use Rattle.answers.specs.declared.Read.{Read}
use Rattle.answers.specs.declared.Refusal.{Refusal}
use Rattle.answers.specs.declared.State.{State}
use Rattle.answers.specs.Answers.{AnswerOr, ReadOr}
use Rattle.lexer.specs.Places.{cursor_at}
use Rattle.lexer.specs.Answers.{Refuses}
use Rattle.items.specs.Words.{ItemAt}
use Rattle.items.specs.Reserve.{ItemsReady}
use Rattle.script.specs.Gathered.{Gathered, open_in, most_in}
use Rattle.items.specs.Depth.{open_after}

-- ---- what the numbers stand for

-- 0 bodies are due: nothing must follow
unfoldable pub due_of : ℕ → Bool → Due
due_of zero e = nothing
due_of (suc k) e = body (suc k) e

-- the word of an open group: twice its bodies, and 1 where ELSE may follow it
unfoldable pub group_in : ℕ → Group
group_in x = group (x / 2) (eqb (x % 2) 1)

-- the open groups, innermost first: the outermost one stands in the last word
unfoldable pub groups_in : List ℕ → ℕ → List Group
groups_in w zero = []
groups_in w (suc d) = group_in (get_or w (length w - suc d) 0) ∷ groups_in w d

-- how many bodies they will close
unfoldable pub bodies_in : List ℕ → ℕ → ℕ
bodies_in w zero = 0
bodies_in w (suc d) = get_or w (length w - suc d) 0 / 2 + bodies_in w d

-- the reading from a place on
unfoldable pub reading_of : List ℕ → List ℕ → State → ℕ → List Item → Reading
reading_of s w st at acc = reading (cursor_at s at) (due_of st.due st.elses) (groups_in w st.depth) acc

-- ---- the work area

-- the script has its form, and the work area is large enough
pub record Fits (s w : List ℕ) : Type 0 where
  pub work : 2 * length s + 64 ≤ length w
  pub small : length s ≤ 16384
  pub form : is_script s ≡ true

-- Two words a byte that was read, and two an open group, afford the k words written, the close of each open body (`due`, and `others` in groups) and,
-- while the script runs, one word for each body that can be open at once: `most` of these, or one more. Where a body is due a count takes three
-- words: before a digit one is to spare. No digit stands behind a count.
pub record Affords (s : List ℕ) (at k due others depth : ℕ) (acc : List Item) : Type 0 where
  pub opened : open_in acc ≡ due + others
  pub most : ℕ
  pub so_far : most_in acc ≤ suc most
  pub in_groups : others ≤ most
  pub in_all : due + others ≤ suc most
  pub room : k + due + others + most ≤ 2 * at + 2 * depth
  pub spare : 0 < due → is_digit (get_or s at 0) ≡ true → suc (k + due + others + most) ≤ 2 * at + 2 * depth

-- the state stands for the reading from the place `at` on, with the items `acc`
pub record ReadSoFar (s w : List ℕ) (st : State) (at : ℕ) (acc : List Item) : Type 0 where
  pub inside : at ≤ length s
  pub deep : st.depth ≤ 16
  pub no_body : st.due ≡ 0 → st.elses ≡ false
  pub gathered : Gathered s w st.k acc
  pub affords : Affords s at st.k st.due (bodies_in w st.depth) st.depth acc
  pub fits : Fits s w

-- the words below k and the last d stay
pub record Unwritten (k d : ℕ) (w w' : List ℕ) : Type 0 where
  pub same_length : length w' ≡ length w
  pub below : (j : ℕ) → j < k → get_or w' j 0 ≡ get_or w j 0
  pub top : (j : ℕ) → length w ≤ j + d → get_or w' j 0 ≡ get_or w j 0

-- ---- one command

-- a command whose name stands at `place`, the next byte at `at`: its words go to k and on
pub record CommandRoom (s w : List ℕ) (place at k : ℕ) : Type 0 where
  pub named : place < at
  pub inside : at ≤ length s
  pub room : k + 2 * (length s - place) ≤ 2 * length s + 32
  pub fits : Fits s w

-- the command's item lies in the words from k up to m; `due` is 1 where a close will belong to it
pub record Laid (s w : List ℕ) (place k next m due : ℕ) (i : Item) : Type 0 where
  pub passed : place < next
  pub inside : next ≤ length s
  pub forth : k ≤ m
  pub two : m + due ≤ k + 2 * (next - place)
  pub opening : (n : ℕ) → open_after n i ≡ n + due
  pub item : ItemAt s w k m i

-- a prefix that is no count takes a word less, and two less where a digit follows, which is never behind a count
pub record Apart (s : List ℕ) (place k next m : ℕ) : Type 0 where
  pub named : is_digit (get_or s place 0) ≡ false → m + 2 ≤ k + 2 * (next - place)
  pub followed : is_digit (get_or s next 0) ≡ true → m + 3 ≤ k + 2 * (next - place)

-- the item of a whole command; of one that a command or group must follow
abbrev pub WholeIs : List ℕ → List ℕ → ℕ → ℕ → Got Command-read → ℕ → ℕ → Type 0
WholeIs s w place k x next m = (i : Item) × (x ≡ got (whole i) (cursor_at s next)) × Laid s w place k next m 0 i

abbrev pub PrefixIs : List ℕ → List ℕ → ℕ → ℕ → Got Command-read → Bool → ℕ → ℕ → Type 0
PrefixIs s w place k x e next m = (i : Item) × (x ≡ got (prefix e i) (cursor_at s next)) × Laid s w place k next m 1 i × Apart s place k next m

unfoldable pub CommandIs : List ℕ → List ℕ → ℕ → ℕ → Got Command-read → Follow → ℕ → ℕ → Type 0
CommandIs s w place k x Follow.Nothing next m = WholeIs s w place k x next m
CommandIs s w place k x (Follow.Body e) next m = PrefixIs s w place k x e next m

-- a command was read up to `next`, with the words before and after: those before it, and those of the groups, stay
abbrev pub CommandAt : List ℕ → List ℕ → List ℕ → ℕ → ℕ → Got Command-read → Command → ℕ → Type 0
CommandAt s w w' place k x c next = Unwritten k 16 w w' × CommandIs s w' place k x c.follow next c.free

-- what the reader of a command answers
abbrev pub CommandRead : List ℕ → List ℕ → List ℕ → ℕ → ℕ → Got Command-read → Result (Read Command) Refusal → Type 0
CommandRead s w w' place k x = ReadOr (CommandAt s w w' place k x) (Refuses x)

-- a repeat count at `place`
unfoldable pub counted : ℕ → Token → Got Command-read
counted place (token n c) = cond (leb n 65535) (got (prefix false (opens place (times n))) c) (refused 3 place)

-- ---- one round

-- reading goes on at `next`, beyond the place `at` where the round began; the items end at n
abbrev pub Onward : List ℕ → List ℕ → ℕ → AfterRound → State → ℕ → Type 0
Onward s w at x st next = (acc : List Item) × (x ≡ more (reading_of s w st next acc)) × ReadSoFar s w st next acc × (at < next)

abbrev pub Finished : List ℕ → List ℕ → AfterRound → ℕ → Type 0
Finished s w x n = (is : List Item) × (x ≡ done (items is)) × ItemsReady s w n is

-- the answer of a round that began at place `at` and does not end the script, with the words after it
abbrev pub OnwardRead : List ℕ → List ℕ → ℕ → AfterRound → Result (Read State) Refusal → Type 0
OnwardRead s w at x = ReadOr (Onward s w at x) (λ n p. x ≡ done (refused_at n p))

-- the answer of a round from the state st, with the words after it: the state after it, or none at the script's end
abbrev pub StepIs : List ℕ → List ℕ → State → ℕ → AfterRound → Option (Read State) → Type 0
StepIs s w st at x (Some r) = Onward s w at x r.value r.next
StepIs s w st at x None = Finished s w x st.k

abbrev pub RoundRead : List ℕ → List ℕ → State → ℕ → AfterRound → Result (Option (Read State)) Refusal → Type 0
RoundRead s w st at x = AnswerOr (StepIs s w st at x) (λ n p. x ≡ done (refused_at n p))

-- ---- the whole script

-- the answer r of the reader, with the words after it: the items lie in the words from 0 on, and leave one word for each body open at once, and the reserve
abbrev pub ScriptRead : List ℕ → List ℕ → Script → Result ℕ Refusal → Type 0
ScriptRead s w x = AnswerOr (λ n. (is : List Item) × (x ≡ items is) × ItemsReady s w n is) (λ n p. x ≡ refused_at n p)

-- ---- what the functions of a round are handed, and what they answer

-- the state stands for a reading of the script from a place on; of some script, before its end
abbrev pub Halfway : List ℕ → List ℕ → State → ℕ → Type 0
Halfway s w st at = (acc : List Item) × ReadSoFar s w st at acc

abbrev pub HalfwayIn : List ℕ → State → ℕ → Type 0
HalfwayIn w st at = (s : List ℕ) × (acc : List Item) × ReadSoFar s w st at acc × (at < length s)

-- a round from the state st and the place `at` on, in which the words w become w', answers `next` of what is due, of the open groups and of the items: of one script, or of any
abbrev pub RoundOf : List ℕ → List ℕ → List ℕ → State → ℕ → (Due → List Group → List Item → AfterRound) → Result (Read State) Refusal → Type 0
RoundOf s w w' st at next r = (acc : List Item) → ReadSoFar s w st at acc → OnwardRead s w' at (next (due_of st.due st.elses) (groups_in w st.depth) acc) r

abbrev pub RoundIn : List ℕ → List ℕ → State → ℕ → (List ℕ → Due → List Group → List Item → AfterRound) → Result (Read State) Refusal → Type 0
RoundIn w w' st at next r =
    (s : List ℕ) (acc : List Item) → ReadSoFar s w st at acc → at < length s → OnwardRead s w' at (next s (due_of st.due st.elses) (groups_in w st.depth) acc) r

-- the same of one script, where it may end
abbrev pub StepOf : List ℕ → List ℕ → List ℕ → State → ℕ → (Due → List Group → List Item → AfterRound) → Result (Option (Read State)) Refusal → Type 0
StepOf s w w' st at next r = (acc : List Item) → ReadSoFar s w st at acc → RoundRead s w' st at (next (due_of st.due st.elses) (groups_in w st.depth) acc) r

-- reading goes on at a place, nothing due
abbrev pub goes_on : List ℕ → ℕ → List Group → List Item → AfterRound
goes_on s at groups acc = more (reading (cursor_at s at) nothing groups acc)

-- the groups around the innermost one
abbrev pub outer_groups : List ℕ → State → List Group
outer_groups w st = groups_in w (st.depth - 1)

-- the bodies of the innermost of d open groups
abbrev pub bodies_at : List ℕ → ℕ → ℕ
bodies_at w d = get_or w (length w - d) 0 / 2

-- the command that was read leads on from the state st, wherever it began, or its refusal is the round's
abbrev pub Finishes : List ℕ → List ℕ → State → Result (Read Command) Refusal → Result (Read State) Refusal → Type 0
Finishes w w' st c r =
    (s before : List ℕ) (at : ℕ) (acc : List Item) (x : Got Command-read) → ReadSoFar s before st at acc → CommandRead s before w at st.k x c
    → OnwardRead s w' at (decoded (due_of st.due st.elses) (groups_in before st.depth) acc x) r
