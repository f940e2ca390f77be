-- Rows of batches of bytes. Assumes nothing: these are definitions.
use Rattle.std.specs.Prelude.{List, [], ◌∷◌, ◌++◌, ℕ}
use Rattle.text.specs.Laying.{Bytes, lay_bytes}

-- batches laid one behind the other
abbrev pub lays : List (List ℕ) → Bytes → Bytes
lays [] b = b
lays (d ∷ ds) b = lays ds (lay_bytes d b)

-- the bytes of a row
abbrev pub row_text : List (List ℕ) → List ℕ
row_text [] = []
row_text (d ∷ ds) = d ++ row_text ds
