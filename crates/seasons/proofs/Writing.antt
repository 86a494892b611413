-- Writing what is due: one kind of records of a stretch, a stretch, and all. Assumes nothing.
use mathlib.Core.Path.{◌≡◌, refl, sym, ap, subst, ◌∙◌}
use mathlib.Core.Bool.{true, false, false≢true}
use mathlib.Core.Logic.{◌⊎◌, inl, inr, ⊎_elim}
use mathlib.Core.List.{List, [], ◌∷◌, ◌++◌, append-nil}
use Rattle.std.proofs.Common.{Option, Some, None, is_some, IfSome, Ok}
use Prim.Native.Nat.{ℕ, ◌+◌, ◌≤◌}
use native.Mathlib.Omega.{arith}
use lib.ListN.{length}
use Rattle.definitions.specs.Journal.{Record, change, record_bytes, journal_length, journal_bytes}
use Rattle.definitions.specs.Arranging.{arrange_from, arrange}
use Rattle.theorems.specs.JournalBytes.{record-length, journal-length, length_both}
use Rattle.theorems.specs.Arranged.{gone_in, came_in}
use Rattle.theorems.specs.ArrangeLaws.{arrange-length}
use Rattle.theorems.proofs.Fits.{journal-append}
use Rattle.text.specs.Buffer.{laid}
use Rattle.text.proofs.Buffer.{laid_none, laid-laid}
use Rattle.journal.specs.Views.{Puts}
use Rattle.journal.proofs.Writing.{puts-both, puts-length}
use Rattle.middle.specs.Middle.{Coming, next_at}
use Rattle.middle.specs.Leaving.{text_in, leaves_by, leaves, Within, Stand}
use Rattle.middle.specs.declared.Places.{Places}
use Rattle.middle.specs.declared.Texts.{Texts}
use Rattle.journal.specs.declared.records.Span.{Span}
use Rattle.middle.specs.declared.Next.{Next}
use Rattle.seasons.specs.Joined.{Due, start, both_there, is_both, stretch, after_stretch, of_kind, Further, RowPut, Advances}
use Rattle.seasons.specs.declared.write.Kind.{Kind}
use Rattle.seasons.specs.declared.write.Kind.TheVariants.{WhatLeft, WhatCame}
use Rattle.seasons.specs.declared.write.Row.{Row}
use Rattle.seasons.proofs.Dues.{Ends, due-same, due-line, due-none}
use Rattle.seasons.proofs.Lengths.{places-within}
use Rattle.seasons.proofs.Rows.{stretch-whole, stretch-arranged, arrange-row, arrange-both, both_ends, line-more, kind-none, kind-append}

none-long : journal_length [] ≡ 0
unfolding journal_length
none-long = refl

none-laid : (d : List ℕ) (o : ℕ) → laid d o (journal_bytes []) ≡ d
unfolding journal_bytes
none-laid d o = laid_none d o

none-arranged : (d : List ℕ) (o : ℕ) → laid d o (journal_bytes (arrange [])) ≡ d
unfolding arrange arrange_from
none-arranged d o = none-laid d o

none-stretch : (stretch [] ≡ []) × (after_stretch [] ≡ [])
unfolding stretch after_stretch
none-stretch = (refl, refl)

one-record : (r : Record) → journal_bytes (r ∷ []) ≡ record_bytes r
unfolding journal_bytes
one-record r = append-nil (record_bytes r)

laid_next : (a b d d' : List ℕ) (o o' : ℕ) → o + length a ≤ length d → Puts a d o d' o' → laid d o (a ++ b) ≡ laid d' o' b
laid_next a b d d' o o' h q =
    sym (laid-laid d o a h b) ∙ ap (λ (x : List ℕ). laid x (o + length a) b) (sym q.1) ∙ ap (λ (i : ℕ). laid d' i b) (sym q.0)

next-is : (m n : Next) → ◌≡◌ {A = Coming} (Ok (Some m)) (Ok (Some n)) → m ≡ n
next-is m n h = some-is m n (ok-is (Some m) (Some n) h)
  where
    ok-is : (a b : Option Next) → ◌≡◌ {A = Coming} (Ok a) (Ok b) → a ≡ b
    ok-is a b h = cc

    some-is : (a b : Next) → Some a ≡ Some b → a ≡ b
    some-is a b h = cc

further-on : (p q r : Places) → Further p q → Further q r → Further p r
further-on p q r h i = omega arith

-- ---- one kind of records of a stretch

-- From the places `p` and `out` on, `d₀` was written up to `at` and `o`, which gave d: what is still to be written of the stretch, and that it gives the whole.
pub record Rowing (kind : Kind) (j k : List ℕ) (p : Places) (d₀ : List ℕ) (out : ℕ) (at : Places) (d : List ℕ) (o : ℕ) : Type 0 where
  pub rest : List Record
  pub due : Due j k at rest
  pub size : length d ≡ length d₀
  pub room : o + journal_length (of_kind kind (stretch rest)) ≤ length d
  pub whole : (w : List Record) → Due j k p w
      → (after_stretch w ≡ after_stretch rest)
      × (out + journal_length (of_kind kind (stretch w)) ≡ o + journal_length (of_kind kind (stretch rest)))
      × (laid d₀ out (journal_bytes (of_kind kind (stretch w))) ≡ laid d o (journal_bytes (of_kind kind (stretch rest))))
  pub begun : (at ≡ p) ⊎ Further p at

module _ (kind : Kind) (j k : List ℕ) (p : Places) (d₀ : List ℕ) (out : ℕ) where
  pub rowing_start : (w : List Record) → Due j k p w → out + journal_length (of_kind kind (stretch w)) ≤ length d₀ → Rowing kind j k p d₀ out p d₀ out
  rowing_start w h room = record {
    rest = w;
    due = h;
    size = refl;
    room = room;
    whole = λ v i.
        let e = due-same j k p v w i h in
        (ap after_stretch e, ap (λ (z : List Record). out + journal_length (of_kind kind (stretch z))) e, ap (λ (z : List Record). laid d₀ out (journal_bytes (of_kind kind (stretch z)))) e);
    begun = inl refl;
  }

  module _ (at : Places) (d : List ℕ) (o : ℕ) (r : Rowing kind j k p d₀ out at d o) where
    pub rowing-within : at.first + at.second ≤ length j + length k
    rowing-within = places-within j k at r.due.rs r.due.ss r.due.at

    -- the stretch has ended
    ended-row : stretch r.rest ≡ [] → after_stretch r.rest ≡ r.rest → ((n : Next) → next_at j k at ≡ Ok (Some n) → is_both n.line ≡ false → ⊥)
        → (w : List Record) → Due j k p w → RowPut kind j k p w d₀ out d (record { end = at; out = o })
    ended-row s a stays w h =
        let u = r.whole w h in
        let z : of_kind kind (stretch r.rest) ≡ [] = ap (of_kind kind) s ∙ kind-none kind in record {
          due = subst (Due j k at) (sym (u.0 ∙ a)) r.due;
          puts = (
            omega (arith, u.1, ap journal_length z ∙ none-long, journal-length (of_kind kind (stretch w))),
            sym (u.2 ∙ ap (λ (x : List Record). laid d o (journal_bytes x)) z ∙ none-laid d o),
          );
          further = λ n i b. ⊎_elim (λ q. absurd (stays n (ap (next_at j k) q ∙ i) b)) (λ q. q) r.begun;
        }

    -- at the end of both journals, or where they differ
    pub rowing-end : (c : Coming) → c ≡ next_at j k at → Ends c → (w : List Record) → Due j k p w
        → RowPut kind j k p w d₀ out d (record { end = at; out = o })
    rowing-end c e t =
        let z = due-none j k at r.rest r.due c e t in
        ended-row (ap stretch z ∙ none-stretch.0) (ap after_stretch z ∙ none-stretch.1 ∙ sym z) (λ n i b. subst Ends (e ∙ i) t)

    module _ (n : Next) (e : next_at j k at ≡ Ok (Some n)) where
      abbrev line : Texts
      line = n.line

      abbrev next : Places
      next = n.after

      ahead : (rest : List Record) × Due j k next rest × (r.rest ≡ leaves j k line ++ rest) × Stand j k line × Further at next
      ahead = due-line j k at r.rest r.due n e

      -- at a line with both texts
      pub rowing-both : is_both line ≡ true → (w : List Record) → Due j k p w → RowPut kind j k p w d₀ out d (record { end = at; out = o })
      rowing-both b =
          let z = both_ends j k ahead.0 line b in
          ended-row (ap stretch ahead.2 ∙ z.0) (ap after_stretch ahead.2 ∙ z.1 ∙ sym ahead.2)
          (λ m i c. false≢true (sym c ∙ ap (λ (x : Next). is_both x.line) (next-is m n (sym i ∙ e)) ∙ b))

      pub rowing-stands : Stand j k line
      rowing-stands = ahead.3

      pub rowing-further : Further at next × (next.first + next.second ≤ length j + length k)
      rowing-further = (ahead.4, places-within j k next ahead.1.rs ahead.1.ss ahead.1.at)

      module _ (b : is_both line ≡ false) where
        records-are : of_kind kind (stretch r.rest) ≡ of_kind kind (leaves j k line) ++ of_kind kind (stretch ahead.0)
        records-are =
            ap (λ (x : List Record). of_kind kind (stretch x)) ahead.2 ∙ ap (of_kind kind) (line-more j k ahead.0 line b).0
            ∙ kind-append kind (leaves j k line) (stretch ahead.0)

        after-are : after_stretch r.rest ≡ after_stretch ahead.0
        after-are = ap after_stretch ahead.2 ∙ (line-more j k ahead.0 line b).1

        long : journal_length (of_kind kind (stretch r.rest)) ≡ length (journal_bytes (of_kind kind (leaves j k line))) + journal_length (of_kind kind (stretch ahead.0))
        long =
            ap journal_length records-are ∙ length_both (of_kind kind (leaves j k line)) (of_kind kind (stretch ahead.0))
            ∙ ap (λ (z : ℕ). z + journal_length (of_kind kind (stretch ahead.0))) (sym (journal-length (of_kind kind (leaves j k line))))

        pub rowing-room : o + length (journal_bytes (of_kind kind (leaves j k line))) ≤ length d
        rowing-room = omega (arith, r.room, long)

        -- a line further
        pub rowing-next : (d' : List ℕ) (o' : ℕ) → Puts (journal_bytes (of_kind kind (leaves j k line))) d o d' o' → Rowing kind j k p d₀ out next d' o'
        rowing-next d' o' q =
            let same : length d' ≡ length d = puts-length (journal_bytes (of_kind kind (leaves j k line))) d d' o o' rowing-room q in record {
              rest = ahead.0;
              due = ahead.1;
              size = same ∙ r.size;
              room = omega (arith, r.room, long, q.0, same);
              whole = λ w h.
                  let u = r.whole w h in (
                    u.0 ∙ after-are,
                    omega (arith, u.1, long, q.0),
                    u.2 ∙ ap (λ (x : List Record). laid d o (journal_bytes x)) records-are
                        ∙ ap (laid d o) (journal-append (of_kind kind (leaves j k line)) (of_kind kind (stretch ahead.0)))
                        ∙ laid_next (journal_bytes (of_kind kind (leaves j k line))) (journal_bytes (of_kind kind (stretch ahead.0))) d d' o o' rowing-room q,
                  );
              begun = inr (⊎_elim (λ x. subst (λ (y : Places). Further y next) x ahead.4) (λ x. further-on p at next x ahead.4) r.begun);
            }

-- ---- a stretch, and a line with both texts

module _ (j k : List ℕ) (p : Places) (w : List Record) (h : Due j k p w) (d : List ℕ) (out : ℕ) (room : out + journal_length w ≤ length d) where
  both-fit : out + journal_length (gone_in (stretch w)) + journal_length (came_in (stretch w)) ≤ length d
  both-fit =
      omega (arith, room, ap journal_length (stretch-whole w), length_both (stretch w) (after_stretch w), arrange-length (stretch w), ap journal_length (stretch-arranged w), length_both (gone_in (stretch w)) (came_in (stretch w)))

  pub left-fits : (x : List Record) × Due j k p x × (out + journal_length (of_kind WhatLeft (stretch x)) ≤ length d)
  unfolding of_kind
  left-fits = (w, h, omega (arith, both-fit))

  module _ (d₁ : List ℕ) (r₁ : Row) (a : RowPut WhatLeft j k p w d out d₁ r₁) where
    first-room : out + length (journal_bytes (gone_in (stretch w))) ≤ length d
    first-room = omega (arith, both-fit, journal-length (gone_in (stretch w)))

    puts-left : Puts (journal_bytes (gone_in (stretch w))) d out d₁ r₁.out
    puts-left = unfold of_kind in a.puts

    pub came-fits : (x : List Record) × Due j k p x × (r₁.out + journal_length (of_kind WhatCame (stretch x)) ≤ length d₁)
    came-fits = (w, h, unfold of_kind in (omega (arith, both-fit, puts-left.0, journal-length (gone_in (stretch w)), puts-length (journal_bytes (gone_in (stretch w))) d d₁ out r₁.out first-room puts-left)))

    module _ (d₂ : List ℕ) (r₂ : Row) (b : RowPut WhatCame j k p w d₁ r₁.out d₂ r₂) (n : Next) (e : next_at j k p ≡ Ok (Some n)) (o : is_both n.line ≡ false) where
      puts-came : Puts (journal_bytes (came_in (stretch w))) d₁ r₁.out d₂ r₂.out
      puts-came = unfold of_kind in b.puts

      pub stretch-done : Advances j k p w d out d₂ r₂
      stretch-done = record {
        part = gone_in (stretch w) ++ came_in (stretch w);
        rest = after_stretch w;
        due = b.due;
        arranged = arrange-row w;
        puts = subst (λ (x : List ℕ). Puts x d out d₂ r₂.out) (sym (journal-append (gone_in (stretch w)) (came_in (stretch w))))
            (puts-both (journal_bytes (gone_in (stretch w))) (journal_bytes (came_in (stretch w))) d d₁ d₂ out r₁.out r₂.out first-room puts-left puts-came);
        further = b.further n e o;
      }

  -- a line with both texts
  module _ (m : Next) (e : next_at j k p ≡ Ok (Some m)) (o n : Span) (is : m.line.old ≡ Some o) (is₂ : m.line.new ≡ Some n) where
    both-ahead : (rest : List Record) × Due j k m.after rest × (w ≡ leaves j k m.line ++ rest) × Stand j k m.line × Further p m.after
    both-ahead = due-line j k p w h m e

    both_is : w ≡ change (text_in j o) (text_in k n) ∷ both-ahead.0
    unfolding leaves leaves_by
    both_is =
        both-ahead.2 ∙ ap (λ (x : Option Span). leaves_by j k x m.line.new ++ both-ahead.0) is
        ∙ ap (λ (x : Option Span). leaves_by j k (Some o) x ++ both-ahead.0) is₂

    pub both-fits : Within j o × Within k n × (out + length (record_bytes (change (text_in j o) (text_in k n))) ≤ length d)
    both-fits =
        let s : Within j o × Within k n = (subst (λ (t : Option Span). IfSome t (Within j)) is both-ahead.3.0, subst (λ (t : Option Span). IfSome t (Within k)) is₂ both-ahead.3.1) in
        (s.0, s.1, unfold journal_length in (omega (arith, room, ap journal_length both_is, record-length (change (text_in j o) (text_in k n)))))

    pub both-done : (d₁ : List ℕ) (r : ℕ) → Puts (record_bytes (change (text_in j o) (text_in k n))) d out d₁ r → Advances j k p w d out d₁ (record { end = m.after; out = r })
    both-done d₁ r q = record {
      part = change (text_in j o) (text_in k n) ∷ [];
      rest = both-ahead.0;
      due = both-ahead.1;
      arranged = ap arrange both_is ∙ arrange-both (text_in j o) (text_in k n) both-ahead.0;
      puts = subst (λ (x : List ℕ). Puts x d out d₁ r) (sym (one-record (change (text_in j o) (text_in k n)))) q;
      further = both-ahead.4;
    }

-- what is due is due to whoever asks
pub whoever : (j k : List ℕ) (p : Places) (w : List Record) → Due j k p w → (d : List ℕ) (out : ℕ) (d' : List ℕ) (row : Row) → Advances j k p w d out d' row
    → (v : List Record) → Due j k p v → Advances j k p v d out d' row
whoever j k p w h d out d' row a v i = subst (λ (x : List Record). Advances j k p x d out d' row) (due-same j k p w v h i) a

-- whether a line has both texts
pub both-is : (line : Texts) → is_some line.old ≡ true → is_some line.new ≡ is_both line
unfolding is_both both_there
both-is line h = go line.old line.new h
  where
    go : (o n : Option Span) → is_some o ≡ true → is_some n ≡ both_there o n
    go (Some o) (Some n) h = refl
    go (Some o) None h = refl
    go None n h = absurd (false≢true h)

pub both-not : (line : Texts) → is_some line.old ≡ false → false ≡ is_both line
unfolding is_both both_there
both-not line h = go line.old line.new h
  where
    go : (o n : Option Span) → is_some o ≡ false → false ≡ both_there o n
    go (Some o) n h = absurd (false≢true (sym h))
    go None n h = refl

-- a line without an old text, and one without a new text
module _ (line : Texts) where
  pub no_old : line.old ≡ None → is_both line ≡ false
  unfolding is_both both_there
  no_old e = rw e

  pub no_new : line.new ≡ None → is_both line ≡ false
  unfolding is_both both_there
  no_new e = rw e (go line.old)
    where
      go : (o : Option Span) → both_there o None ≡ false
      go (Some o) = refl
      go None = refl

-- ---- all

-- `out` bytes of `d` are written, and what is due from the places `p` on gives the whole
pub record Going (j k d₀ : List ℕ) (p : Places) (out : ℕ) (d : List ℕ) : Type 0 where
  pub rest : List Record
  pub due : Due j k p rest
  pub size : length d ≡ length d₀
  pub room : out + journal_length rest ≤ length d
  pub whole : (w : List Record) → Due j k start w → laid d₀ 0 (journal_bytes (arrange w)) ≡ laid d out (journal_bytes (arrange rest))

module _ (j k d₀ : List ℕ) where
  pub going_start : (w : List Record) → Due j k start w → journal_length w ≤ length d₀ → Going j k d₀ start 0 d₀
  going_start w h room = record {
    rest = w;
    due = h;
    size = refl;
    room = omega arith;
    whole = λ v i. ap (λ (z : List Record). laid d₀ 0 (journal_bytes (arrange z))) (due-same j k start v w i h);
  }

  module _ (p : Places) (out : ℕ) (d : List ℕ) (g : Going j k d₀ p out d) where
    pub going-within : p.first + p.second ≤ length j + length k
    going-within = places-within j k p g.due.rs g.due.ss g.due.at

    pub going_end : (c : Coming) → c ≡ next_at j k p → Ends c → (w : List Record) → Due j k start w → d ≡ laid d₀ 0 (journal_bytes (arrange w))
    going_end c e t w h =
        sym (g.whole w h ∙ ap (λ (z : List Record). laid d out (journal_bytes (arrange z))) (due-none j k p g.rest g.due c e t) ∙ none-arranged d out)

    module _ (d' : List ℕ) (row : Row) (a : Advances j k p g.rest d out d' row) where
      part-long : journal_length g.rest ≡ length (journal_bytes a.part) + journal_length a.rest
      part-long =
          sym (arrange-length g.rest) ∙ ap journal_length a.arranged ∙ length_both a.part (arrange a.rest)
          ∙ ap (λ (n : ℕ). n + journal_length (arrange a.rest)) (sym (journal-length a.part)) ∙ ap (λ (n : ℕ). length (journal_bytes a.part) + n) (arrange-length a.rest)

      fits : out + length (journal_bytes a.part) ≤ length d
      fits = omega (arith, g.room, part-long)

      pub going_next : Going j k d₀ row.end row.out d'
      going_next =
          let same : length d' ≡ length d = puts-length (journal_bytes a.part) d d' out row.out fits a.puts in record {
            rest = a.rest;
            due = a.due;
            size = same ∙ g.size;
            room = omega (arith, g.room, part-long, a.puts.0, same);
            whole = λ w h.
                g.whole w h ∙ ap (λ (z : List Record). laid d out (journal_bytes z)) a.arranged
                ∙ ap (laid d out) (journal-append a.part (arrange a.rest))
                ∙ laid_next (journal_bytes a.part) (journal_bytes (arrange a.rest)) d d' out row.out fits a.puts;
          }

      pub going_less : Further p row.end × (row.end.first + row.end.second ≤ length j + length k)
      going_less = (a.further, places-within j k row.end a.due.rs a.due.ss a.due.at)
