-- The pieces of a writing, however the output is cut, are the text: for any text that is written in pieces. Assumes nothing.
use mathlib.Core.Path.{◌≡◌, refl, ap, sym, ◌∙◌}
use mathlib.Core.List.{List, [], ◌∷◌, ◌++◌, append_assoc, append-nil, flatten}
use Prim.Native.Nat.{ℕ}
use native.Mathlib.Omega.{arith}
use lib.ListN.{take}
use Rattle.std.specs.Prelude.{Option, Some, None}
use Rattle.printing.specs.Pieces.{rest_at, left_at, Piece}

module _ {A : Type 0} (rest : A → List ℕ) (left : A → ℕ) where
  -- at the end, and there alone, nothing is left
  pub done-rest : (part : Option A) → part ≡ None → rest_at rest part ≡ []
  done-rest part e = ap (rest_at rest) e

  pub done-left : (part : Option A) → part ≡ None → left_at left part ≡ 0
  done-left part e = ap (left_at left) e

  pub left-done : (part : Option A) → left_at left part ≡ 0 → part ≡ None
  left-done None e = refl
  left-done (Some part) e = absurd (omega arith)

  -- pieces written one after the other, in buffers of any size, from one part to another
  module _ (longest : ℕ) where
    pub data Written : Option A → Option A → List (List ℕ) → Type 0 where
      none : {part : Option A} → Written part part []
      more : {part part' part'' : Option A} {len : ℕ} {out out' : List ℕ} {ps : List (List ℕ)} → Piece rest left longest part part' len out out'
          → Written part' part'' ps → Written part part'' (take len out' ∷ ps)

    pub written-rest : {part part' : Option A} {ps : List (List ℕ)} → Written part part' ps → flatten ps ++ rest_at rest part' ≡ rest_at rest part
    unfolding flatten
    written-rest none = refl
    written-rest (more {part} {part'} {part''} {len} {out} {out'} {ps} r w) =
        append_assoc (take len out') (flatten ps) (rest_at rest part'') ∙ ap (λ (t : List ℕ). take len out' ++ t) (written-rest w) ∙ r.text

    -- what is written is all of the text, and nothing else, however it is cut
    pub written-whole : {part part' : Option A} {ps : List (List ℕ)} (text : List ℕ) → rest_at rest part ≡ text → part' ≡ None → Written part part' ps
        → flatten ps ≡ text
    written-whole {part} {part'} {ps} text f e w =
        sym (append-nil (flatten ps)) ∙ ap (λ (t : List ℕ). flatten ps ++ t) (sym (done-rest part' e)) ∙ written-rest w ∙ f
