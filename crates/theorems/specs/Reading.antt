-- What holds of a computation that reads: it depends on no more lines than it has read, and it keeps the old side. Proved once of one
-- computation after another; no command is named here.
use Rattle.std.specs.Prelude.{◌≡◌, refl, ◌⊎◌}
use Rattle.std.proofs.Math.Path.{ap}
use Rattle.std.proofs.Common.{◌∙◌}
use Rattle.std.proofs.Math.Logic.{inl, inr}
use mathlib.Core.List.{List, [], ◌++◌, append_assoc}
use Rattle.definitions.specs.Bytes.{Line}
use Rattle.definitions.specs.Tape.{Tape, unread, ended, rest_lines, Reads, ret, bind}

-- a statement on a result and the tape then
abbrev pub At : {S : Type 0} → (S → Tape → Type 0) → S × Tape → Type 0
At P x = P x.0 x.1

-- With `u` unread, `m` comes to the end-of-file line; or it reads the first lines `used` of `u`, and comes to the same whatever stands after them.
pub data Local {S : Type 0} (m : Reads S) (u : List Line) : Type 0 where
  met_eof : (s : S) → m (unread u) ≡ (s, ended) → Local m u
  read_only : (used v : List Line) (s : S) → u ≡ used ++ v → ((w : List Line) → m (unread (used ++ w)) ≡ (s, unread w)) → Local m u

-- `lim` is a computation in a journal buffer of some size, `free` the same in one without bounds. `old` are the old lines of a result, `base` those
-- at its start; `full` says that a result has stopped on a full buffer.
pub record Faithful {S : Type 0} (lim free : Reads S) (old : S → List Line) (full : S → Type 0) (base : List Line) : Type 0 where
  -- the old lines, with the unread ones after them, stay as they are
  pub keeps : (t : Tape) → old (lim t).0 ++ rest_lines (lim t).1 ≡ base ++ rest_lines t
  -- unless the buffer is full, the buffer's size makes no difference
  pub bounded : (t : Tape) → full (lim t).0 ⊎ (lim t ≡ free t)
  -- what is not read makes no difference
  pub near : (u : List Line) → Local free u
  -- after the end-of-file line nothing is left to read
  pub stays : (s : S) × (free ended ≡ (s, ended))

-- ---- what reads nothing

pub ret-faithful : {S : Type 0} (s : S) (old : S → List Line) (full : S → Type 0) (base : List Line) → old s ≡ base → Faithful (ret s) (ret s) old full base
ret-faithful s old full base e = record {
  keeps = λ t. ap (λ (b : List Line). b ++ rest_lines t) e;
  bounded = λ t. inr refl;
  near = λ u. read_only [] u s refl (λ w. refl);
  stays = (s, refl);
}

-- ---- one after the other

module _ {S R : Type 0} (m : Reads S) (k : S → Reads R) where
  bind_near : ((u : List Line) → Local m u) → ((s : S) (u : List Line) → Local (k s) u) → ((s : S) → (r : R) × (k s ended ≡ (r, ended))) → (u : List Line) → Local (bind m k) u
  unfolding bind
  bind_near hm hk he u = first (hm u)
    where
      second : (used v : List Line) (s : S) → u ≡ used ++ v → ((w : List Line) → m (unread (used ++ w)) ≡ (s, unread w)) → Local (k s) v → Local (bind m k) u
      second used v s e h (met_eof r q) = met_eof r (rw (e, h v, q))
      second used v s e h (read_only used₂ v₂ r e₂ h₂) = read_only (used ++ used₂) v₂ r (rw (e, e₂, append_assoc)) (λ w. rw (append_assoc, h (used₂ ++ w), h₂ w))

      first : Local m u → Local (bind m k) u
      first (met_eof s q) = met_eof (he s).0 (rw (q, (he s).1))
      first (read_only used v s e h) = second used v s e h (hk s v)

module _ {S R : Type 0} (m m' : Reads S) (k k' : S → Reads R) (full₁ : S → Type 0) (full₂ : R → Type 0) where
  bind-bounded : ((t : Tape) → full₁ (m t).0 ⊎ (m t ≡ m' t)) → ((s : S) (t : Tape) → full₂ (k s t).0 ⊎ (k s t ≡ k' s t))
      → ((s : S) (t : Tape) → full₁ s → full₂ (k s t).0) → (t : Tape) → full₂ (bind m k t).0 ⊎ (bind m k t ≡ bind m' k' t)
  unfolding bind
  bind-bounded hm hk up t = first (hm t)
    where
      second : m t ≡ m' t → full₂ (k (m t).0 (m t).1).0 ⊎ (k (m t).0 (m t).1 ≡ k' (m t).0 (m t).1) → full₂ (bind m k t).0 ⊎ (bind m k t ≡ bind m' k' t)
      second e (inl f) = inl f
      second e (inr q) = inr (q ∙ ap (λ x. k' x.0 x.1) e)

      first : full₁ (m t).0 ⊎ (m t ≡ m' t) → full₂ (bind m k t).0 ⊎ (bind m k t ≡ bind m' k' t)
      first (inl f) = inl (up (m t).0 (m t).1 f)
      first (inr e) = second e (hk (m t).0 (m t).1)

-- `up`: a full buffer in the first part is one of the whole
pub bind-faithful : {S R : Type 0} (m m' : Reads S) (k k' : S → Reads R) (old₁ : S → List Line) (full₁ : S → Type 0) (old₂ : R → List Line) (full₂ : R → Type 0)
    (base : List Line) → ((s : S) (t : Tape) → full₁ s → full₂ (k s t).0)
    → Faithful m m' old₁ full₁ base → ((s : S) → Faithful (k s) (k' s) old₂ full₂ (old₁ s)) → Faithful (bind m k) (bind m' k') old₂ full₂ base
unfolding bind
bind-faithful m m' k k' old₁ full₁ old₂ full₂ base up hm hk = record {
  keeps = λ t. (hk (m t).0).keeps (m t).1 ∙ hm.keeps t;
  bounded = bind-bounded m m' k k' full₁ full₂ hm.bounded (λ s. (hk s).bounded) up;
  near = bind_near m' k' hm.near (λ s. (hk s).near) (λ s. (hk s).stays);
  stays = ((hk hm.stays.0).stays.0, rw (hm.stays.1, (hk hm.stays.0).stays.1));
}

-- what fills no buffer
abbrev pub never : {S : Type 0} → S → Type 0
never s = ⊥
