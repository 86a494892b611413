-- One journal for two seasons (document 02, wish 7): of `zed_join` and `zed_turn`, which C programs call. It speaks of their results, of the lengths that they
-- set and of the bytes in their destinations.
use Rattle.std.specs.Prelude.{◌≡◌, ◌⊎◌, List, ◌++◌, ℕ, ◌+◌, ◌≤◌, length, take, drop}
use Rattle.std.proofs.Math.Option.{none}
use Rattle.definitions.specs.Journal.{Record, old_side, new_side}
use Rattle.definitions.specs.Listing.{Written, number_of, length_of, bytes_of, old_side_to, new_side_to}
use Rattle.definitions.specs.Joining.{join, turn, arranged_of, join_to, turn_to}
use Rattle.theorems.specs.OneJournal.{Reads, Agreeing}

-- ---- the terms. `Reads`, an arranged journal and its records, and `Agreeing`, two such "whose middle tables agree", are the definitions' (theorems, OneJournal)

-- a call of `zed_join` that has returned: the bytes that were lent (`dest`: the destination before the call), the result, the length that was set, and what the
-- destination holds afterwards
pub record JoinCall : Type 0 where
  pub first : List ℕ
  pub second : List ℕ
  pub dest : List ℕ
  pub result : ℕ
  pub written : ℕ
  pub left : List ℕ

-- a call of `zed_turn` that has returned
pub record TurnCall : Type 0 where
  pub journal : List ℕ
  pub dest : List ℕ
  pub result : ℕ
  pub written : ℕ
  pub left : List ℕ

-- the definitions' answers
abbrev pub join_answer : JoinCall → Written
join_answer c = join_to c.first c.second c.dest

abbrev pub turn_answer : TurnCall → Written
turn_answer c = turn_to c.journal c.dest

-- what is known of a call: the contract of `zed_join`, its three `ensures`
pub record Joined (c : JoinCall) : Type 0 where
  pub number : c.result ≡ number_of (join_answer c)
  pub long : c.written ≡ length_of (join_answer c)
  pub bytes : c.left ≡ bytes_of (join_answer c)

-- and that of `zed_turn`
pub record Turned (c : TurnCall) : Type 0 where
  pub number : c.result ≡ number_of (turn_answer c)
  pub long : c.written ≡ length_of (turn_answer c)
  pub bytes : c.left ≡ bytes_of (turn_answer c)

-- a call that is accepted, and the bytes that it has written
abbrev pub JoinDone : JoinCall → Type 0
JoinDone c = c.result ≡ 0

abbrev pub TurnDone : TurnCall → Type 0
TurnDone c = c.result ≡ 0

abbrev pub join_wrote : JoinCall → List ℕ
join_wrote c = take c.written c.left

abbrev pub turn_wrote : TurnCall → List ℕ
turn_wrote c = take c.written c.left

-- What an accepted call leaves: as many bytes as it says, in a destination that has room for them; "bytes past the written length are untouched".
pub record Filled (dest : List ℕ) (written : ℕ) (left : List ℕ) : Type 0 where
  pub many : length (take written left) ≡ written
  pub room : written ≤ length dest
  pub past : left ≡ take written left ++ drop written dest

-- what a refused call leaves (W7.1)
pub record Untouched (dest : List ℕ) (written : ℕ) (left : List ℕ) : Type 0 where
  pub nothing : written ≡ 0
  pub same : left ≡ dest

-- every call ends in one of these two ways; `Refusal`: the numbers of its refusals
abbrev pub Ends : (ℕ → Type 0) → List ℕ → ℕ → ℕ → List ℕ → Type 0
Ends Refusal dest result written left = ((result ≡ 0) × Filled dest written left) ⊎ (Refusal result × Untouched dest written left)

abbrev pub JoinRefusal : ℕ → Type 0
JoinRefusal n = (n ≡ 11) ⊎ ((n ≡ 32) ⊎ (n ≡ 10))

abbrev pub TurnRefusal : ℕ → Type 0
TurnRefusal n = (n ≡ 11) ⊎ (n ≡ 10)

-- Three journals joined by four calls: `ab` joins the first two and `x` what `ab` has written with the third; `bc` joins the last two and `y` the first with what
-- `bc` has written.
pub record Brackets (ab bc x y : JoinCall) : Type 0 where
  pub second : bc.first ≡ ab.second
  pub joined_first : x.first ≡ join_wrote ab
  pub third : x.second ≡ bc.second
  pub first : y.first ≡ ab.first
  pub joined_last : y.second ≡ join_wrote bc

-- result, length, and every byte of the destination
pub record EndTheSame (x y : JoinCall) : Type 0 where
  pub same_result : y.result ≡ x.result
  pub same_length : y.written ≡ x.written
  pub same_left : y.left ≡ x.left

-- "must give the same bytes under either bracketing"
pub record SameEitherWay (ab bc x y : JoinCall) : Type 0 where
  -- the same end, in destinations that held the same
  pub same : y.dest ≡ x.dest → EndTheSame x y
  -- and the same bytes in any two, where both calls are accepted
  pub same_bytes : JoinDone x → JoinDone y → join_wrote y ≡ join_wrote x
  -- "long enough destinations": as long as the three journals together is enough, either way
  pub done_first : length ab.first + length ab.second + length bc.second ≤ length x.dest → JoinDone x
  pub done_last : length ab.first + length ab.second + length bc.second ≤ length y.dest → JoinDone y

-- ---- the statement

-- WISH 7 of `zed_join` and `zed_turn`
pub record WishSeven : Type 0 where
  -- "joining three whose middle tables agree must give the same bytes under either bracketing"
  pub three : (ab bc x y : JoinCall) → Joined ab → Joined bc → Joined x → Joined y → JoinDone ab → JoinDone bc → Brackets ab bc x y → SameEitherWay ab bc x y
  -- "and turning round twice the first bytes": `u` turns round what `t` has written
  pub twice : (t u : TurnCall) → Turned t → Turned u → TurnDone t → u.journal ≡ turn_wrote t → length t.journal ≤ length u.dest
      → TurnDone u × (turn_wrote u ≡ t.journal)
  -- "Joining makes of a journal from old to middle and one from middle to new that from old to new, arranged as in Wish 6"
  pub from_old : (c : JoinCall) → Joined c → JoinDone c → (dest : List ℕ) → old_side_to (join_wrote c) dest ≡ old_side_to c.first dest
  pub to_new : (c : JoinCall) → Joined c → JoinDone c → (dest : List ℕ) → new_side_to (join_wrote c) dest ≡ new_side_to c.second dest
  pub joined : (c : JoinCall) (rs ss : List Record) → Joined c → JoinDone c → Agreeing c.first c.second rs ss → Reads (join_wrote c) (join rs ss)
  -- "Turning round a journal exchanges its sides record by record and arranges it"
  pub turned_old : (c : TurnCall) → Turned c → TurnDone c → (dest : List ℕ) → old_side_to (turn_wrote c) dest ≡ new_side_to c.journal dest
  pub turned_new : (c : TurnCall) → Turned c → TurnDone c → (dest : List ℕ) → new_side_to (turn_wrote c) dest ≡ old_side_to c.journal dest
  pub turned : (c : TurnCall) (rs : List Record) → Turned c → TurnDone c → Reads c.journal rs → Reads (turn_wrote c) (turn rs)
  -- "Both refuse as the sides do"
  pub join_ends : (c : JoinCall) → Joined c → Ends JoinRefusal c.dest c.result c.written c.left
  pub turn_ends : (c : TurnCall) → Turned c → Ends TurnRefusal c.dest c.result c.written c.left
  -- "Unarranged ones, and those with either side over 65,535 lines, count as malformed here", whichever journal it is; "32: the middle tables differ, between 11 and 10"
  pub malformed : (c : JoinCall) → Joined c → (arranged_of c.first ≡ none) ⊎ (arranged_of c.second ≡ none) → c.result ≡ 11
  pub differ : (c : JoinCall) (rs ss : List Record) → Joined c → Reads c.first rs → Reads c.second ss → (new_side rs ≡ old_side ss → ⊥) → c.result ≡ 32
  pub turn_malformed : (c : TurnCall) → Turned c → arranged_of c.journal ≡ none → c.result ≡ 11
  -- all others are accepted where the destination is as long as what is given
  pub enough : (c : JoinCall) (rs ss : List Record) → Joined c → Agreeing c.first c.second rs ss → length c.first + length c.second ≤ length c.dest
      → JoinDone c
  pub turn_enough : (c : TurnCall) (rs : List Record) → Turned c → Reads c.journal rs → length c.journal ≤ length c.dest → TurnDone c
