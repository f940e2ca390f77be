-- Tables of values: bytes as a choice, and that each table's choice is the model's, value by value. Assumes nothing.
use Rattle.std.specs.Prelude.{◌≡◌, Bool, false, not, List, ℕ, zero, suc, eqb, get_or, map, refl}
use Rattle.std.proofs.Common.{sym, ap}
use Rattle.std.proofs.lemmas.List.{map-id}
use Rattle.std.proofs.Math.ListN.{get_or-map}
use Rattle.model.specs.Words.{chosen}

-- a byte is true where it is not 0
abbrev pub is_set : ℕ → Bool
is_set byte = not (eqb byte 0)

-- the first value is that of variable 1, which is true where it is not 0; a variable beyond the values is false
unfoldable pub valued : List ℕ → ℕ → Bool
valued vs zero = false
valued vs (suc n) = not (eqb (get_or vs n 0) 0)

pub bools_chosen : (vs : List Bool) (n : ℕ) → chosen vs n ≡ chosen (map (λ v. v) vs) n
bools_chosen vs n = ap (λ us. chosen us n) (sym (map-id vs))

pub bytes_chosen : (vs : List ℕ) (n : ℕ) → valued vs n ≡ chosen (map is_set vs) n
unfolding chosen valued
bytes_chosen vs zero = refl
bytes_chosen vs (suc n) = sym (get_or-map is_set vs n 0)
