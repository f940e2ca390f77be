-- Rows of batches: where a row fits, it is one batch. Assumes nothing.
use mathlib.Core.Path.{◌≡◌, refl, ap, sym, ◌∙◌}
use mathlib.Core.List.{List, [], ◌∷◌, ◌++◌, append_assoc}
use Prim.Native.Nat.{ℕ, ◌+◌, ◌≤◌}
use native.Mathlib.Omega.{arith}
use lib.ListN.{length, length-append}
use Rattle.model.specs.Limits.{most_fill}
use Rattle.text.specs.Laying.{Bytes, lay_bytes}
use Rattle.text.proofs.Laying.{laid-place, laid-length}
use Rattle.printing.specs.Rows.{lays, row_text}
use Rattle.printing.proofs.Batches.{laid_none, two}

pub row-append : (xs ys : List (List ℕ)) → row_text (xs ++ ys) ≡ row_text xs ++ row_text ys
row-append [] ys = refl
row-append (x ∷ xs) ys = ap (λ (t : List ℕ). x ++ t) (row-append xs ys) ∙ sym (append_assoc x (row_text xs) (row_text ys))

pub as_one : (ds : List (List ℕ)) (b : Bytes) → b.place + length (row_text ds) ≤ length b.bytes → length b.bytes ≤ most_fill
    → lays ds b ≡ lay_bytes (row_text ds) b
as_one [] b h k = laid_none b k (omega arith)
as_one (d ∷ ds) b h k =
    let n : length (d ++ row_text ds) ≡ length d + length (row_text ds) = length-append d (row_text ds) in
    let p : (lay_bytes d b).place ≡ b.place + length d = laid-place d b (omega arith) k in
    let l : length (lay_bytes d b).bytes ≡ length b.bytes = laid-length d b in
    as_one ds (lay_bytes d b) (omega arith) (omega arith)
    ∙ two d (row_text ds) b k (omega arith) {b₁ = lay_bytes d b} refl refl

pub lays_append : (xs ys : List (List ℕ)) (b : Bytes) → lays (xs ++ ys) b ≡ lays ys (lays xs b)
lays_append [] ys b = refl
lays_append (x ∷ xs) ys b = lays_append xs ys (lay_bytes x b)
