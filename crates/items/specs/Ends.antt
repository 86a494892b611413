-- What an item's words say by themselves: what it is, where it ends, and of an opener, what its body does.
use Rattle.std.specs.Prelude.{Bool, cond, ◌||◌, List, ℕ, ◌+◌, get_or, eqb}
use Rattle.definitions.specs.Control.{Opener, times, forever, bare, branch, loop, Item, simple, seek, opens, bracket, close, otherwise, leave, line_end}
use Rattle.matching.specs.Words.{end_at}
use Rattle.items.specs.Kinds.{mark_shape, word_shape, pair_shape, four_shape, string_shape, change_shape, search_shape, test_shape, opener_shape, long_opener_shape, shape_of, line_end_kind, bracket_kind, close_kind, else_kind, count_kind, long_count_kind, repeat_kind, if_kind, unless_kind, if_eof_kind, while_kind, until_kind}
use Rattle.items.specs.Words.{kind_at, number_at}
use Rattle.items.specs.declared.ends.Class.{Class}
use Rattle.items.specs.declared.ends.Class.TheVariants.{LineEnd, Bracket, Close, Else, Agp, Simple, Seeks, Opens}
use Rattle.items.specs.declared.ends.Seen.{Seen}
use Rattle.items.specs.declared.openers.Way.{Way}
use Rattle.items.specs.declared.openers.Way.TheVariants.{Counting, Repeating, Once, Branching, Looping}

-- ---- what an item is

unfoldable pub class_of : Item → Class
class_of line_end = LineEnd
class_of bracket = Bracket
class_of close = Close
class_of otherwise = Else
class_of (leave at) = Agp
class_of (simple at op) = Simple
class_of (seek at f se) = Seeks
class_of (opens at o) = Opens

-- a mark, by its kind
unfoldable pub mark_by : ℕ → Class
mark_by kind = cond (eqb kind line_end_kind) LineEnd (cond (eqb kind bracket_kind) Bracket (cond (eqb kind close_kind) Close (cond (eqb kind else_kind) Else Agp)))

-- by its kind and the shape of that
unfoldable pub class_in : ℕ → ℕ → Class
class_in kind shape =
    cond (eqb shape mark_shape) (mark_by kind)
    (cond (eqb shape search_shape) Seeks
    (cond (eqb shape test_shape || eqb shape opener_shape || eqb shape long_opener_shape) Opens Simple))

abbrev pub class_by : ℕ → Class
class_by kind = class_in kind (shape_of kind)

unfoldable pub place_of : Item → ℕ
place_of line_end = 0
place_of bracket = 0
place_of close = 0
place_of otherwise = 0
place_of (leave at) = at
place_of (simple at op) = at
place_of (seek at f se) = at
place_of (opens at o) = at

-- ---- where an item ends that starts at k

-- the shapes of one word
unfoldable pub is_one_word : ℕ → Bool
is_one_word shape = eqb shape mark_shape || eqb shape word_shape || eqb shape opener_shape

-- by its shape
unfoldable pub end_in : List ℕ → ℕ → ℕ → ℕ
end_in w k shape =
    cond (eqb shape pair_shape || eqb shape long_opener_shape) (k + 2)
    (cond (eqb shape four_shape) (k + 4)
    (cond (eqb shape string_shape) (end_at w (k + 1))
    (cond (eqb shape change_shape) (end_at w (k + 1) + 1)
    (cond (eqb shape search_shape || eqb shape test_shape) (get_or w (k + 1) 0) (k + 1)))))

-- by its kind
abbrev pub end_by : List ℕ → ℕ → ℕ → ℕ
end_by w k kind = end_in w k (shape_of kind)

-- what the item at k is, and where it ends
abbrev pub seen_at : List ℕ → ℕ → Seen
seen_at w k = record { class = class_by (kind_at w k); next = end_by w k (kind_at w k) }

-- ---- what the body of an opener does: a count of rounds, on and on, once, once if a test holds, while a test holds

unfoldable pub way_of : Opener → Way
way_of (times n) = Counting
way_of forever = Repeating
way_of bare = Once
way_of (branch c) = Branching
way_of (loop c) = Looping

-- by the kind; the group after ELSE runs once
unfoldable pub way_by : ℕ → Way
way_by kind =
    cond (eqb kind count_kind || eqb kind long_count_kind) Counting
    (cond (eqb kind repeat_kind) Repeating
    (cond (eqb kind if_kind || eqb kind unless_kind || eqb kind if_eof_kind) Branching
    (cond (eqb kind while_kind || eqb kind until_kind) Looping Once)))

-- how often the body of the count at k is to run
unfoldable pub times_at : List ℕ → ℕ → ℕ
times_at w k = cond (eqb (kind_at w k) long_count_kind) (get_or w (k + 1) 0) (number_at w k)
