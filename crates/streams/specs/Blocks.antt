-- Calls at the blocks of a text, one behind the other. Assumes nothing: these are definitions.
use Rattle.std.specs.Prelude.{◌≡◌, List, [], ◌∷◌, ◌++◌, ℕ}
use Rattle.std.specs.List.{FoldsTo}
use Rattle.std.specs.Borrow.{Bor}
use Rattle.std.specs.Fn.{Mut, CalledAt}

-- the blocks as one text
abbrev pub joined : List (List ℕ) → List ℕ
joined [] = []
joined (b ∷ bs) = b ++ joined bs

module _ {F : Type 0} (g : Mut F (Bor (List ℕ) × Unit {0}) (Unit {0})) where
  -- f is called at each block in turn, and is q then
  abbrev pub TakesEach : F → List (List ℕ) → F → Type 0
  TakesEach f blocks q = FoldsTo (λ p x r. CalledAt g p x tt r) f blocks q

  -- the blocks are the whole text
  abbrev pub TakesAll : F → List ℕ → Type 0
  TakesAll f text = (blocks : List (List ℕ)) × (q : F) × TakesEach f blocks q × (joined blocks ≡ text)
