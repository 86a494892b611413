-- Marked cases K1 to K12 of document 01, some more, and cases of document 02's wishes, computed from the bytes of tables and scripts.
use Rattle.std.specs.Prelude.{◌≡◌, refl, List, [], ◌∷◌, map, ℕ}
use Prim.Native.String.{String}
use Rattle.definitions.specs.Bytes.{bytes, upper}
use Rattle.definitions.specs.Journal.{Record, kept, changed, deleted, inserted}
use Rattle.definitions.specs.Listing.{Written, written}
use Rattle.definitions.specs.Joining.{join_to, turn_to}
use Rattle.definitions.specs.Run.{Answer, answer, refusal, work_length, run_answer}
use Rattle.definitions.specs.Program.{printed, program_prints}
use Rattle.definitions.specs.Everything.{everything}

-- A case: the budget, the table, the script, and the answer: number, steps, furthest, place, records. Or the journal buffer's length in place of the
-- budget. Or a table, a script, and what the test program prints of them.
pub data Case : Type 0 where
  case : ℕ → String → String → Answer → Case
  fits : ℕ → String → String → Answer → Case
  prints : String → String → String → Case

-- what is compared: an answer, or printed bytes
pub data Shown : Type 0 where
  ends : Answer → Shown
  shows : List ℕ → Shown

-- the largest budget
unfoldable pub largest : ℕ
largest = 4294967295

-- by the definitions, with the least work area; where not stated, a journal buffer of 65,536 bytes and the largest budget
unfoldable pub computed : Case → Shown
computed (case budget table script a) = ends (run_answer (bytes table) (bytes script) budget (work_length (bytes script)) 65536)
computed (fits size table script a) = ends (run_answer (bytes table) (bytes script) largest (work_length (bytes script)) size)
computed (prints table script out) = shows (program_prints (bytes table) (bytes script))

-- as document 01 has it
unfoldable pub stated : Case → Shown
stated (case budget table script a) = ends a
stated (fits size table script a) = ends a
stated (prints table script out) = shows (bytes out)

unfoldable pub k1_table : String
k1_table = "R01 open 06:10 90\nR02 open 06:25 90\nR03 open 07:00 60\n"

unfoldable pub k1_script : String
k1_script = "F B/R02/; E/90/120/\nF B/R03/; D\nIS/R04 open 07:15 60/\nW\n"

unfoldable pub same : String → Record
same s = kept (bytes s)

unfoldable pub cases : List Case
cases =
    -- K1, as it is printed and as an answer
    prints k1_table k1_script
    "    1  R01 open 06:10 90\n    2 +R02 open 06:25 120\n ****  R04 open 07:15 60\nend 0 steps 10 read 4 at 0\n"
    ∷ case largest k1_table k1_script
    (answer 0 10 4 0 (same "R01 open 06:10 90" ∷ changed (bytes "R02 open 06:25 90") (bytes "R02 open 06:25 120")
    ∷ deleted (bytes "R03 open 07:00 60") ∷ inserted (bytes "R04 open 07:15 60") ∷ []))
    -- K2
    ∷ case 0 "" "" (answer 0 0 1 0 [])
    -- K3, K4
    ∷ case largest "aaa\n" "E/aa/b/\n" (answer 0 1 1 0 (changed (bytes "aaa") (bytes "ba") ∷ []))
    ∷ case largest "aaa\n" "E L/aa/b/\n" (answer 0 1 1 0 (changed (bytes "aaa") (bytes "ab") ∷ []))
    -- K5, K6
    ∷ case largest "aaa\n" "F 2/aa/\n" (answer 21 2 2 0 (same "aaa" ∷ []))
    ∷ case largest "aaaa\n" "F 2/aa/\n" (answer 0 2 1 0 (same "aaaa" ∷ []))
    -- K7, K8
    ∷ case largest "a\nb\nc\n" "4N\n" (answer 20 8 4 1 (same "a" ∷ same "b" ∷ same "c" ∷ []))
    ∷ case 7 "a\nb\nc\n" "4N\n" (answer 29 7 4 1 (same "a" ∷ same "b" ∷ same "c" ∷ []))
    -- K9
    ∷ case 3 "b\n" "RPT ()\n" (answer 29 3 1 0 (same "b" ∷ []))
    -- K10, K11, K12
    ∷ case largest "b\n" "IS/a/; P; D\n" (answer 0 3 1 0 (same "b" ∷ []))
    ∷ case largest "b\n" "D; IS/x/\n" (answer 0 2 2 0 (deleted (bytes "b") ∷ inserted (bytes "x") ∷ []))
    ∷ case largest "b\n" "E/b/c/; E/c/b/\n" (answer 0 2 1 0 (same "b" ∷ []))
    ∷ []

-- document 01's marked cases: "gathered in a single list with a single theorem"
pub K1-to-K12 : map computed cases ≡ map stated cases
unfolding everything printed program_prints computed stated largest k1_table k1_script same cases
K1-to-K12 = refl

-- ---- more

unfoldable pub more_cases : List Case
more_cases =
    -- K7 with a budget that is just enough
    case 8 "a\nb\nc\n" "4N\n" (answer 20 8 4 1 (same "a" ∷ same "b" ∷ same "c" ∷ []))
    -- W looks at the whole line, not only inside T
    ∷ case largest "ab b\n" "PA/a/; E W/b/x/\n" (answer 0 2 1 0 (changed (bytes "ab b") (bytes "ab x") ∷ []))
    -- D over lines, and an insertion before the line moved to
    ∷ case largest "a\nb\nc\nd\n" "D 2 3; M 1; IS/x/\n"
    (answer 0 3 4 0 (inserted (bytes "x") ∷ same "a" ∷ deleted (bytes "b") ∷ deleted (bytes "c") ∷ same "d" ∷ []))
    -- DF deletes what it passed; a deleted line has no number to move to
    ∷ case largest "a\nb\nc\nd\n" "DF /c/; M 2\n" (answer 23 5 3 8 (deleted (bytes "a") ∷ deleted (bytes "b") ∷ same "c" ∷ same "d" ∷ []))
    -- UT, IFEOF, AGP out of RPT
    ∷ case largest "a\nb\nc\n" "UT /c/ (E//x/; N); IFEOF W; RPT (D; IFEOF AGP)\nIS/z/\n"
    (answer 0 13 4 0 (changed (bytes "a") (bytes "xa") ∷ changed (bytes "b") (bytes "xb") ∷ deleted (bytes "c") ∷ inserted (bytes "z") ∷ []))
    -- ELSE belongs to the innermost IF; BF finds the current line first
    ∷ case largest "a\nb\n" "N; BF (/b/ | /a/); IF /a/ (D) ELSE (E/b/c/)\n" (answer 0 5 2 0 (same "a" ∷ changed (bytes "b") (bytes "c") ∷ []))
    -- R, and lines up to Z
    ∷ case largest "a\nb\n" "R 1\nx\ny\nZ\nEP/b/bb/; A//!/\n"
    (answer 0 3 2 0 (deleted (bytes "a") ∷ inserted (bytes "x") ∷ inserted (bytes "y") ∷ changed (bytes "b") (bytes "bb!") ∷ []))
    -- a refused script: the ninth search bracket, the seventeenth group, a missing Z line
    ∷ case largest "" "F (((((((((/a/)))))))))\n" (refusal 5 10)
    ∷ case largest "" "(((((((((((((((((N)))))))))))))))))\n" (refusal 5 16)
    ∷ case largest "" "I\nx\n" (refusal 6 4)
    ∷ []

pub more-cases : map computed more_cases ≡ map stated more_cases
unfolding everything printed program_prints computed stated largest same more_cases
more-cases = refl

-- ---- document 02, wish 1: SA, SB, CL

unfoldable pub wish_one_cases : List Case
wish_one_cases =
    -- the left part is inserted before, the rest is the current line's text; where that is the old text, the record is kept (W1.2, W1.3)
    case largest "ab12\n" "SA/ab/\n" (answer 0 1 1 0 (inserted (bytes "ab") ∷ changed (bytes "ab12") (bytes "12") ∷ []))
    ∷ case largest "ab12\n" "SB/ab/\n" (answer 0 1 1 0 (inserted (bytes "") ∷ same "ab12" ∷ []))
    -- the bytes before p belong to the left part, and p is 0 afterwards
    ∷ case largest "ab12\n" "PA/ab/; SB/12/; A//x/\n" (answer 0 3 1 0 (inserted (bytes "ab") ∷ changed (bytes "ab12") (bytes "x12") ∷ []))
    -- CL leaves p (W1.9)
    ∷ case largest "ab\ncd\n" "PA/ab/; CL/-/; A//!/\n" (answer 0 3 2 0 (changed (bytes "ab") (bytes "ab!-cd") ∷ deleted (bytes "cd") ∷ []))
    -- it passes over deleted lines, and stops on the last live one, having read EOF (W1.8)
    ∷ case largest "a\nb\nc\n" "D 2; BF/a/; CL//\n" (answer 0 5 3 0 (changed (bytes "a") (bytes "ac") ∷ deleted (bytes "b") ∷ deleted (bytes "c") ∷ []))
    ∷ case largest "ab\ncd\n" "N; D; BF/a/; CL//\n" (answer 30 5 3 13 (same "ab" ∷ deleted (bytes "cd") ∷ []))
    -- a changed line is deleted with its old text, an inserted one leaves no record (W1.6)
    ∷ case largest "a\nb\n" "N; E/b/c/; P; CL//\n" (answer 0 4 2 0 (changed (bytes "a") (bytes "ac") ∷ deleted (bytes "b") ∷ []))
    ∷ case largest "a\n" "N; IS/b/; P; P; CL//\n" (answer 0 5 2 0 (changed (bytes "a") (bytes "ab") ∷ []))
    -- the joined text is the old one again
    ∷ case largest "ab\nb\n" "E/b//; CL//\n" (answer 0 2 2 0 (same "ab" ∷ deleted (bytes "b") ∷ []))
    -- at EOF: 20, and nothing is read; a qualifier is 3 at it (W0.5)
    ∷ case largest "a\n" "N; CL//\n" (answer 20 2 2 3 (same "a" ∷ []))
    ∷ case largest "a\n" "CL B/x/\n" (refusal 3 3)
    ∷ []

pub wish-one : map computed wish_one_cases ≡ map stated wish_one_cases
unfolding everything printed program_prints computed stated largest same wish_one_cases
wish-one = refl

-- ---- document 02, wish 2: GE, GA, GB, CG

unfoldable pub wish_two_cases : List Case
wish_two_cases =
    -- a line is changed when it is first read, not the one that is current when GE is given; CG cancels (W2.4)
    case largest "a\na\na\n" "GE/a/b/; N; CG\n" (answer 0 3 2 0 (same "a" ∷ changed (bytes "a") (bytes "b") ∷ same "a" ∷ []))
    -- a done run's unread lines go through the globals, without counting as read (W2.11)
    ∷ case largest "a\na\na\n" "GE/a/b/; N\n" (answer 0 2 2 0 (same "a" ∷ changed (bytes "a") (bytes "b") ∷ changed (bytes "a") (bytes "b") ∷ []))
    -- the changes stay where the reading command then stops, with 21 or 29 (W2.5, W2.10)
    ∷ case largest "a\na\na\n" "GE/a/b/; M 9\n" (answer 21 2 4 9 (same "a" ∷ changed (bytes "a") (bytes "b") ∷ changed (bytes "a") (bytes "b") ∷ []))
    ∷ case 3 "a\na\n" "GE/a/b/; F/z/\n" (answer 29 3 2 9 (same "a" ∷ changed (bytes "a") (bytes "b") ∷ []))
    -- in the order given, all occurrences, in the text as it then stands (W2.6)
    ∷ case largest "a\nab\n" "GA/a/1/; GB/a/2/; GE/1/11/; N\n" (answer 0 4 2 0 (same "a" ∷ changed (bytes "ab") (bytes "2a11b") ∷ []))
    ∷ case largest "\naaa\n" "GE/aa/b/; GE/ba/a/; N\n" (answer 0 3 2 0 (same "" ∷ changed (bytes "aaa") (bytes "a") ∷ []))
    -- a text equal to the old line makes a kept record; F tests, and CL joins, the text after the globals (W2.6, W2.9)
    ∷ case largest "a\nb\n" "GE/b/c/; GE/c/b/; N\n" (answer 0 3 2 0 (same "a" ∷ same "b" ∷ []))
    ∷ case largest "a\nb\n" "GE/b/c/; F/c/\n" (answer 0 4 2 0 (same "a" ∷ changed (bytes "b") (bytes "c") ∷ []))
    ∷ case largest "a\nb\n" "GE/b/cc/; CL//\n" (answer 0 2 2 0 (changed (bytes "a") (bytes "acc") ∷ deleted (bytes "b") ∷ []))
    -- D has read the next line before it deletes (W2.9); inserted lines are not acted on (W2.4)
    ∷ case largest "a\na\na\n" "GE/a/b/; IS/a/; D\n" (answer 0 3 2 0 (deleted (bytes "a") ∷ inserted (bytes "a") ∷ changed (bytes "a") (bytes "b") ∷ changed (bytes "a") (bytes "b") ∷ []))
    -- a stop among the unread lines leaves all of them kept, and has the script's length as place (W2.12)
    ∷ case largest "a\na\nb\n" "GE/a/c/; 4 GE/b/bbbb/\n" (answer 25 9 1 22 (same "a" ∷ same "a" ∷ same "b" ∷ []))
    ∷ fits 14 "a\na\na\n" "GE/a/b/; N\n" (answer 26 2 2 11 (same "a" ∷ changed (bytes "a") (bytes "b") ∷ same "a" ∷ []))
    -- 26 is tested after the last global, on the journal with the line's record: 11 bytes here; the line keeps its text and counts as read (W2.7, W2.8)
    ∷ fits 11 "a\na\n" "GE/a/b/; GE/b/cc/; N\n" (answer 0 3 2 0 (same "a" ∷ changed (bytes "a") (bytes "cc") ∷ []))
    ∷ fits 10 "a\na\n" "GE/a/b/; GE/b/cc/; N\n" (answer 26 3 2 19 (same "a" ∷ same "a" ∷ []))
    -- sixteen may stand, and after CG sixteen more (W2.3)
    ∷ case largest "a\n" "16 GE/a/a/; CG; 17 GE/a/a/\n" (answer 31 67 1 19 (same "a" ∷ []))
    -- the two strings are read as E's; the first may not be empty, and takes no qualifier (W2.1, W2.2)
    ∷ case largest "\na\n" "GE/a\nN; CG 2P\n" (answer 22 7 2 12 (same "" ∷ changed (bytes "a") (bytes "") ∷ []))
    ∷ case largest "a\n" "GE//b/\n" (refusal 4 2)
    ∷ case largest "a\n" "GE B/a/b/\n" (refusal 3 3)
    ∷ []

pub wish-two : map computed wish_two_cases ≡ map stated wish_two_cases
unfolding everything printed program_prints computed stated largest same wish_two_cases
wish-two = refl

-- ---- document 02, wish 3: upper case

-- 97 to 122 become the byte less 32; every other byte, those over 126 too, is itself (W3.2)
pub upper-ends : map upper (0 ∷ 96 ∷ 97 ∷ 122 ∷ 123 ∷ 225 ∷ 255 ∷ []) ≡ (0 ∷ 96 ∷ 65 ∷ 90 ∷ 123 ∷ 225 ∷ 255 ∷ [])
unfolding everything
upper-ends = refl

unfoldable pub wish_three_cases : List Case
wish_three_cases =
    -- in % and in U; $ is as it was (W3.1)
    case largest "az{\n" "3%\n" (answer 0 6 1 0 (changed (bytes "az{") (bytes "AZ{") ∷ []))
    ∷ case largest "@[a~\n" "F U/@[A~/; 4%\n" (answer 0 10 1 0 (changed (bytes "@[a~") (bytes "@[A~") ∷ []))
    ∷ case largest "[A]\n" "3$\n" (answer 0 6 1 0 (changed (bytes "[A]") (bytes "[a]") ∷ []))
    -- the bytes beside the letters are not taken for one another: ` and @, { and [
    ∷ case largest "`{\n" "IF U/@[/ (D)\n" (answer 0 1 1 0 (same "`{" ∷ []))
    ∷ []

pub wish-three : map computed wish_three_cases ≡ map stated wish_three_cases
unfolding everything printed program_prints computed stated largest same wish_three_cases
wish-three = refl

-- ---- document 02, wish 4: N at EOF

unfoldable pub wish_four_cases : List Case
wish_four_cases =
    -- IF, WH, UT, UL: a string with N is true at EOF (W4.1, W4.2)
    case largest "a\n" "N; IF N/x/ IS/y/\n" (answer 0 3 2 0 (same "a" ∷ inserted (bytes "y") ∷ []))
    ∷ case largest "a\n" "WH N/x/ (N)\n" (answer 20 4 2 9 (same "a" ∷ []))
    ∷ case largest "x\n" "UT N/x/ N\n" (answer 0 3 2 0 (same "x" ∷ []))
    ∷ case largest "a\n" "N; UL N/x/ IS/y/\n" (answer 0 2 2 0 (same "a" ∷ []))
    -- through &, | and brackets
    ∷ case largest "" "IF (N/a/ & /b/) IS/1/; IF (N/a/ | /b/) IS/2/\n" (answer 0 3 1 0 (inserted (bytes "2") ∷ []))
    ∷ case largest "" "IF ((N/a/ | /b/) & (/c/ | N/d/)) IS/1/; IF ((/a/ | /b/) & N/c/) IS/2/\n" (answer 0 3 1 0 (inserted (bytes "1") ∷ []))
    -- whatever the text and the other qualifiers; without N false, an empty string too
    ∷ case largest "a\n" "M *; IF 2 L N/a/ IS/1/; IF N P// IS/2/; IF _1,9_NSWU/a/ IS/3/\n"
    (answer 0 7 2 0 (same "a" ∷ inserted (bytes "1") ∷ inserted (bytes "2") ∷ inserted (bytes "3") ∷ []))
    ∷ case largest "a\n" "M *; IF N// IS/1/; IF // IS/2/; IF E// IS/3/\n" (answer 0 5 2 0 (same "a" ∷ inserted (bytes "1") ∷ []))
    -- F, DF and BF do not test EOF, and IFEOF is untouched (W4.2)
    ∷ case largest "a\n" "N; F N/x/\n" (answer 21 2 2 3 (same "a" ∷ []))
    ∷ case largest "a\n" "M *; DF N/x/\n" (answer 21 2 2 5 (same "a" ∷ []))
    ∷ case largest "a\nb\n" "M *; BF N/b/; IS/x/; IFEOF IS/y/\n" (answer 0 6 3 0 (inserted (bytes "x") ∷ same "a" ∷ same "b" ∷ []))
    -- one step a test
    ∷ case 3 "" "WH N/x/ ()\n" (answer 29 3 1 0 [])
    ∷ []

pub wish-four : map computed wish_four_cases ≡ map stated wish_four_cases
unfolding everything printed program_prints computed stated largest same wish_four_cases
wish-four = refl

-- ---- document 02, wish 5: budgets

-- two hundred b: a line that the global makes too long, alone and in its table
unfoldable pub long_line : String
long_line = "bbbbbbbbbbbbbbbbbbbbbbbbbbbbbbbbbbbbbbbbbbbbbbbbbbbbbbbbbbbbbbbbbbbbbbbbbbbbbbbbbbbbbbbbbbbbbbbbbbbbbbbbbbbbbbbbbbbbbbbbbbbbbbbbbbbbbbbbbbbbbbbbbbbbbbbbbbbbbbbbbbbbbbbbbbbbbbbbbbbbbbbbbbbbbbbbbbbbbbbb"

unfoldable pub long_table : String
long_table = "a\nbbbbbbbbbbbbbbbbbbbbbbbbbbbbbbbbbbbbbbbbbbbbbbbbbbbbbbbbbbbbbbbbbbbbbbbbbbbbbbbbbbbbbbbbbbbbbbbbbbbbbbbbbbbbbbbbbbbbbbbbbbbbbbbbbbbbbbbbbbbbbbbbbbbbbbbbbbbbbbbbbbbbbbbbbbbbbbbbbbbbbbbbbbbbbbbbbbbbbbbb\n"

unfoldable pub wish_five_cases : List Case
wish_five_cases =
    -- K7's run under smaller budgets: the step that was wanted is not counted, and the place says which it was (W5.2)
    case 0 "a\nb\nc\n" "4N\n" (answer 29 0 1 0 (same "a" ∷ same "b" ∷ same "c" ∷ []))
    ∷ case 1 "a\nb\nc\n" "4N\n" (answer 29 1 1 1 (same "a" ∷ same "b" ∷ same "c" ∷ []))
    ∷ case 6 "a\nb\nc\n" "4N\n" (answer 29 6 4 0 (same "a" ∷ same "b" ∷ same "c" ∷ []))
    -- a script that ends with its last step still goes through its unread lines, and is done, or stops there with 25 (W5.3, R28)
    ∷ case 1 "a\na\na\n" "GE/a/b/; N\n" (answer 29 1 1 9 (same "a" ∷ same "a" ∷ same "a" ∷ []))
    ∷ case 2 "a\na\na\n" "GE/a/b/; N\n" (answer 0 2 2 0 (same "a" ∷ changed (bytes "a") (bytes "b") ∷ changed (bytes "a") (bytes "b") ∷ []))
    ∷ case 0 long_table "GE/b/cc/\n" (answer 29 0 1 0 (same "a" ∷ same long_line ∷ []))
    ∷ case 1 long_table "GE/b/cc/\n" (answer 25 1 1 9 (same "a" ∷ same long_line ∷ []))
    ∷ case 2 long_table "GE/b/cc/\n" (answer 25 1 1 9 (same "a" ∷ same long_line ∷ []))
    -- a refusal asks for no step (W5.1)
    ∷ case 0 "a\n" "N; F\n" (refusal 3 4)
    ∷ []

pub wish-five : map computed wish_five_cases ≡ map stated wish_five_cases
unfolding everything printed program_prints computed stated largest same long_line long_table wish_five_cases
wish-five = refl

-- ---- document 02, wish 6: arranging

unfoldable pub gone : String → Record
gone s = deleted (bytes s)

unfoldable pub came : String → Record
came s = inserted (bytes s)

unfoldable pub wish_six_cases : List Case
wish_six_cases =
    -- done or stopped, what left stands before what came (W6.1, W6.2)
    case largest "a\nb\n" "IS/x/; D; IS/y/; D\n" (answer 0 4 3 0 (gone "a" ∷ gone "b" ∷ came "x" ∷ came "y" ∷ []))
    ∷ case 3 "a\nb\n" "IS/x/; D; IS/y/; D\n" (answer 29 3 2 17 (gone "a" ∷ came "x" ∷ came "y" ∷ same "b" ∷ []))
    -- kept and changed records bound a stretch
    ∷ case largest "a\nb\nc\n" "IS/x/; D; IS/y/; N; IS/z/; D\n" (answer 0 6 4 0 (gone "a" ∷ came "x" ∷ came "y" ∷ same "b" ∷ gone "c" ∷ came "z" ∷ []))
    ∷ case largest "a\nb\nc\n" "IS/x/; D; E/b/d/; N; IS/z/; D\n"
    (answer 0 6 4 0 (gone "a" ∷ came "x" ∷ changed (bytes "b") (bytes "d") ∷ gone "c" ∷ came "z" ∷ []))
    -- SA inserts the left part, then the rest is deleted
    ∷ case largest "a\nb\nc\n" "SA/a/; D\n" (answer 0 2 2 0 (gone "a" ∷ came "a" ∷ same "b" ∷ same "c" ∷ []))
    -- CL deletes the line after an inserted one: the `++` follows the furthest line read (W6.5)
    ∷ case largest "a\nb\n" "IS/x/; P; CL//\n" (answer 0 3 1 0 (gone "a" ∷ came "xa" ∷ same "b" ∷ []))
    -- in the run the order is as it was made: 23 and 28 go by it (W6.2)
    ∷ case largest "a\nb\n" "IS/x/; D; P; D . 1\n" (answer 23 4 2 13 (gone "a" ∷ came "x" ∷ same "b" ∷ []))
    ∷ case largest "a\nb\n" "D; IS/x/; P; D . 1\n" (answer 28 4 2 13 (gone "a" ∷ came "x" ∷ same "b" ∷ []))
    -- the pass over the unread lines comes before (W6.3)
    ∷ case largest "a\nb\nb\n" "IS/x/; GE/b/c/; D\n" (answer 0 3 2 0 (gone "a" ∷ came "x" ∷ changed (bytes "b") (bytes "c") ∷ changed (bytes "b") (bytes "c") ∷ []))
    ∷ []

pub wish-six : map computed wish_six_cases ≡ map stated wish_six_cases
unfolding everything printed program_prints computed stated largest same gone came wish_six_cases
wish-six = refl

-- ---- document 02, wish 7: joining and turning round

-- Two journals, or one, the destination's bytes, and the answer: number, length, the destination's bytes afterwards.
pub data JournalCase : Type 0 where
  joins : String → String → String → Written → JournalCase
  turns : String → String → Written → JournalCase

unfoldable pub journal_computed : JournalCase → Written
journal_computed (joins j k dest w) = join_to (bytes j) (bytes k) (bytes dest)
journal_computed (turns j dest w) = turn_to (bytes j) (bytes dest)

unfoldable pub journal_stated : JournalCase → Written
journal_stated (joins j k dest w) = w
journal_stated (turns j dest w) = w

unfoldable pub wish_seven_cases : List JournalCase
wish_seven_cases =
    -- one record, kept or changed by its old and new text (W7.6)
    joins "<>a\nb\n" "<>b\na\n" "......" (written 0 4 (bytes "==a\n.."))
    -- inserted, then deleted: nothing, and nothing is parted by it (W7.8)
    ∷ joins "--a\n++m\n==c\n" "--m\n++x\n==c\n" "............" (written 0 12 (bytes "--a\n++x\n==c\n"))
    ∷ joins "==a\n--b\n" "--a\n++n\n" "............" (written 0 12 (bytes "--a\n--b\n++n\n"))
    -- deleted and an equal one inserted: two records (W7.7)
    ∷ joins "--a\n" "++a\n" "........." (written 0 8 (bytes "--a\n++a\n."))
    ∷ joins "++m\n" "--m\n" "..." (written 0 0 (bytes "..."))
    -- the oldest and the newest text (W7.7)
    ∷ joins "<>a\nb\n++m\n" "--b\n<>m\nn\n" "........" (written 0 8 (bytes "--a\n++n\n"))
    ∷ joins "<>a\nb\n" "<>b\nc\n" "......" (written 0 6 (bytes "<>a\nc\n"))
    -- 32 (W7.5), 11 whichever journal it is, both before 10 (W7.2)
    ∷ joins "==a\n" "==b\n" "...." (written 32 0 (bytes "...."))
    ∷ joins "++x\n--a\n" "==b\n" "...." (written 11 0 (bytes "...."))
    ∷ joins "==b\n" "++x\n--a\n" "...." (written 11 0 (bytes "...."))
    ∷ joins "" "==\n" "..." (written 32 0 (bytes "..."))
    ∷ joins "==a\n" "==b\n" "" (written 32 0 [])
    ∷ joins "==a\n" "==b" "" (written 11 0 [])
    -- just the length is enough; the empty journal is one (W7.1)
    ∷ joins "==a\n" "==a\n" "..." (written 10 0 (bytes "..."))
    ∷ joins "==a\n" "==a\n" "...." (written 0 4 (bytes "==a\n"))
    ∷ joins "" "" "" (written 0 0 [])
    -- turned round (W7.9), and not arranged (W7.3)
    ∷ turns "--a\n++x\n==c\n<>d\ne\n" "..................." (written 0 18 (bytes "--x\n++a\n==c\n<>e\nd\n."))
    ∷ turns "++x\n--a\n" "........" (written 11 0 (bytes "........"))
    ∷ turns "++x\n==a\n--b\n" "............" (written 0 12 (bytes "--x\n==a\n++b\n"))
    ∷ turns "<>a\n--b\n" "........" (written 0 8 (bytes "<>--b\na\n"))
    ∷ turns "--a\n" "..." (written 10 0 (bytes "..."))
    ∷ turns "" "" (written 0 0 [])
    ∷ []

pub wish-seven : map journal_computed wish_seven_cases ≡ map journal_stated wish_seven_cases
unfolding everything journal_computed journal_stated wish_seven_cases
wish-seven = refl

-- ---- document 02, wish 8: WORD

unfoldable pub to : String → String → Record
to s t = changed (bytes s) (bytes t)

unfoldable pub wish_eight_cases : List Case
wish_eight_cases =
    -- letters and digits at first; then the named ones, which replace them (W8.1)
    case largest "A-12 A\n" "E W/A/B/\n" (answer 0 1 1 0 (to "A-12 A" "B-12 A" ∷ []))
    ∷ case largest "A-12 A\n" "WORD/A-Z0-9\"-/; E W/A/B/\n" (answer 0 2 1 0 (to "A-12 A" "A-12 B" ∷ []))
    ∷ case largest "ca ax a\n" "WORD/x/; WORD/c/; E W/a/b/\n" (answer 0 3 1 0 (to "ca ax a" "ca bx a" ∷ []))
    -- no string but the empty one: none counts (W8.1)
    ∷ case largest "xax\n" "WORD//; E W/a/b/\n" (answer 0 2 1 0 (to "xax" "xbx" ∷ []))
    -- U is not for the set; a range may have one byte; a quoted byte is any; a space names itself (W8.2, W8.3, W8.6)
    ∷ case largest "xaXa\n" "WORD/x/; E UW/A/b/\n" (answer 0 2 1 0 (to "xaXa" "xaXb" ∷ []))
    ∷ case largest "xaya\n" "WORD/x-x/; E W/a/b/\n" (answer 0 2 1 0 (to "xaya" "xayb" ∷ []))
    ∷ case largest "-a\"axa\n" "WORD/\"-\"\"/; E W/a/b/\n" (answer 0 2 1 0 (to "-a\"axa" "-a\"axb" ∷ []))
    ∷ case largest " axa\n" "WORD/ /; E W/a/b/\n" (answer 0 2 1 0 (to " axa" " axb" ∷ []))
    -- the set then standing, in searches and tests too (W8.6)
    ∷ case largest "a-\na\n" "IF W/a/ IS/1/; WORD/\"-/; IF W/a/ IS/2/; F W/a/\n"
    (answer 0 7 2 0 (came "1" ∷ same "a-" ∷ same "a" ∷ []))
    -- the bytes before and after in the whole line, wherever the window starts (W8.6)
    ∷ case largest "xab\n" "WORD/x/; >; E W/a/c/\n" (answer 24 3 1 12 (same "xab" ∷ []))
    -- a step, also at EOF; a longer name and small letters are the same command; the closing delimiter may be missing (W0.3, W0.4, W0.6)
    ∷ case largest "" "words/a\n" (answer 0 1 1 0 [])
    ∷ case 0 "a\n" "WORD/a/\n" (answer 29 0 1 0 (same "a" ∷ []))
    -- 33: a `-` that is first, after a range, after a quoted byte, after another byte; or before the end, `"`, another kind, a lower byte (W8.4)
    ∷ case largest "a\n" "WORD/-a/\n" (refusal 33 5)
    ∷ case largest "a\n" "WORD/a-c-e/\n" (refusal 33 8)
    ∷ case largest "a\n" "WORD/\"a-c/\n" (refusal 33 7)
    ∷ case largest "a\n" "WORD/ -a/\n" (refusal 33 6)
    ∷ case largest "a\n" "WORD/a-/\n" (refusal 33 6)
    ∷ case largest "a\n" "WORD/a-\"c/\n" (refusal 33 6)
    ∷ case largest "a\n" "WORD/A-z/\n" (refusal 33 6)
    ∷ case largest "a\n" "WORD/b-a/\n" (refusal 33 6)
    -- a `"` that is last, before the delimiter or the line's end (W8.4)
    ∷ case largest "a\n" "WORD/a\"/\n" (refusal 33 6)
    ∷ case largest "a\n" "WORD/\"\n" (refusal 33 5)
    -- the first fault counts; a string must stand (W8.5, W0.5)
    ∷ case largest "a\n" "WORD/a-\"/\n" (refusal 33 6)
    ∷ case largest "a\n" "WORD N/a/\n" (refusal 3 5)
    ∷ case largest "a\n" "WORD\n" (refusal 3 4)
    ∷ []

pub wish-eight : map computed wish_eight_cases ≡ map stated wish_eight_cases
unfolding everything printed program_prints computed stated largest same came to wish_eight_cases
wish-eight = refl

-- ---- document 02, wish 9: regular expressions

unfoldable pub wish_nine_cases : List Case
wish_nine_cases =
    -- a time, by its form; the width found is exchanged, and p set by it (W9.8)
    case largest "at 06:10 x\n" "E R/0-9#0-9:0-9#0-9/T/\n" (answer 0 1 1 0 (to "at 06:10 x" "at T x" ∷ []))
    ∷ case largest "at 06:10 x\n" "PA R/0-9#0-9:/; E /1/2/\n" (answer 0 2 1 0 (to "at 06:10 x" "at 06:20 x" ∷ []))
    ∷ case largest "at 06:10 x\n" "SA r/#~ :/\n" (answer 0 1 1 0 (came "at 06:" ∷ to "at 06:10 x" "10 x" ∷ []))
    -- an empty match changes its empty place (W9.10); with L the last one
    ∷ case largest "baa\n" "E R/#a/x/\n" (answer 0 1 1 0 (to "baa" "xbaa" ∷ []))
    ∷ case largest "baab\n" "E LR/#a/x/\n" (answer 0 1 1 0 (to "baab" "baabx" ∷ []))
    ∷ case largest "abab\n" "E LR/b|bab/x/\n" (answer 0 1 1 0 (to "abab" "ax" ∷ []))
    -- only parts that pass W are looked at, by the set then standing (W9.9)
    ∷ case largest "a-ab\n" "E WR/a#(a|\"-)/x/\n" (answer 0 1 1 0 (to "a-ab" "x-ab" ∷ []))
    ∷ case largest "a-ab\n" "WORD/\"-/; E WR/#(a|\"-)b/x/\n" (answer 0 2 1 0 (to "a-ab" "x" ∷ []))
    -- p, columns and S cut T first; B, E, P
    ∷ case largest "ab ab\n" ">; E R/a#b/x/\n" (answer 0 2 1 0 (to "ab ab" "ab x" ∷ []))
    ∷ case largest "ababab\n" "E _2,4_R/#(a|b)/x/\n" (answer 0 1 1 0 (to "ababab" "axab" ∷ []))
    ∷ case largest "  ab\n" "E SBR/a#b/x/\n" (answer 0 1 1 0 (to "  ab" "  x" ∷ []))
    ∷ case largest "baab\n" "E ER/b|ab|aab/x/\n" (answer 0 1 1 0 (to "baab" "bx" ∷ []))
    ∷ case largest "ab\nabc\n" "F PR/a#~a/\n" (answer 0 2 1 0 (same "ab" ∷ same "abc" ∷ []))
    -- N turns the result round; only the qualified string is a pattern (W9.11)
    ∷ case largest "b\nc\n" "F NR/b|x/\n" (answer 0 3 2 0 (same "b" ∷ same "c" ∷ []))
    ∷ case largest "#a\n" "E R/\"#a/#b/\n" (answer 0 1 1 0 (to "#a" "#b" ∷ []))
    -- 34 by its place; 4 for the empty pattern with W, for a second R, and for the later one of R and U or a count (W9.1, W9.5, W9.7)
    ∷ case largest "a\n" "E R/a-Z/x/\n" (refusal 34 6)
    ∷ case largest "a\n" "F R//\n" (refusal 34 4)
    ∷ case largest "a\n" "F R/(a\n" (refusal 34 6)
    ∷ case largest "a\n" "F WR//\n" (refusal 4 4)
    ∷ case largest "a\n" "F RR/a/\n" (refusal 4 3)
    ∷ case largest "a\n" "F RU/a/\n" (refusal 4 3)
    ∷ case largest "a\n" "F UR/a/\n" (refusal 4 3)
    ∷ case largest "a\n" "F 2R/a/\n" (refusal 4 3)
    ∷ case largest "a\n" "F R2/a/\n" (refusal 4 3)
    ∷ case largest "a\n" "F R0/a/\n" (refusal 3 3)
    ∷ []

pub wish-nine : map computed wish_nine_cases ≡ map stated wish_nine_cases
unfolding everything printed program_prints computed stated largest same came to wish_nine_cases
wish-nine = refl
