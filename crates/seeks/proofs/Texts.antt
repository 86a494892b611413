-- The search on the current line's text, and at EOF. Assumes nothing.
use mathlib.Core.Path.{◌≡◌, refl, ◌∙◌}
use mathlib.Core.Bool.{Bool}
use Prim.Native.Nat.{ℕ, ◌≤◌, ◌<◌}
use mathlib.Core.List.{List, [], ◌∷◌}
use lib.ListN.{length}
use Rattle.definitions.specs.Tape.{Tape}
use Rattle.definitions.specs.Editor.{Ed, ed}
use Rattle.definitions.specs.Search.{Search, holds, holds_at_eof}
use Rattle.definitions.specs.Edit.{search_holds}
use Rattle.editor.specs.Shows.{Shows, point_of}
use Rattle.editor.specs.Current.{current_line}
use Rattle.editor.specs.declared.State.{State}
use Rattle.editor.proofs.Parts.{shown-record, shown-eof}

-- EOF is current
pub eof-holds : {j : List ℕ} {st : State} (isWord : ℕ → Bool) → length j ≤ st.back → (se : Search) (e : Ed) (t : Tape) → Shows j st e t → holds_at_eof se ≡ search_holds isWord se e
unfolding search_holds
eof-holds isWord end se (ed b [] p) t h = refl
eof-holds isWord end se (ed b (r ∷ a) p) t h = absurd (shown-eof b r a p t h end)

module _ {j : List ℕ} {st : State} (isWord : ℕ → Bool) (more : st.back < length j) (se : Search) (e : Ed) (t : Tape) (h : Shows j st e t) where
  -- a line is current
  pub line-holds : holds isWord se (point_of e) (current_line e) ≡ search_holds isWord se e
  line-holds = by e h
    where
      by : (e : Ed) → Shows j st e t → holds isWord se (point_of e) (current_line e) ≡ search_holds isWord se e
      by (ed b [] p) h = absurd (shown-record b p t h more)
      by (ed b (r ∷ a) p) h = unfold search_holds in refl

  -- `text` is its text, and the bytes of f count
  pub text-holds : (f : ℕ → Bool) → f ≡ isWord → (v : Bool) (text : List ℕ) → text ≡ current_line e → v ≡ holds f se st.p text → v ≡ search_holds isWord se e
  text-holds f same v text q is = is ∙ rw (same, q, h.p) line-holds
