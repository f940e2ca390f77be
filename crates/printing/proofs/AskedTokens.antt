-- A question as a token, whatever text the asked lines stand in: the line of its bound, if one is asked for, and on to the next question.
-- Assumes nothing.
use mathlib.Core.Path.{◌≡◌}
use mathlib.Core.List.{List, ◌++◌}
use Prim.Native.Nat.{ℕ, suc, ◌+◌, ◌≤◌, ◌<◌}
use lib.ListN.{length}
use Rattle.std.specs.Prelude.{Option, Some, None}
use Rattle.model.specs.Limits.{most_fill}
use Rattle.model.specs.Signs.{Dir}
use Rattle.text.specs.Laying.{bytes_at}
use Rattle.printing.specs.declared.questions.Bound.{Bound}
use Rattle.printing.specs.declared.questions.Question.{Question}
use Rattle.printing.specs.Asking.{bound_text, text_from, turns_from}
use Rattle.printing.specs.Pieces.{rest_at, left_at, Token}
use Rattle.printing.specs.Rows.{lays, row_text}
use Rattle.printing.proofs.Putting.{token-put}

-- a text whose parts at the questions are the asked lines
module _ {A : Type 0} (rest : A → List ℕ) (left : A → ℕ) (part : Question → A) (line : Dir → ℕ → List ℕ) (asked : List ℕ) (n : ℕ)
    (text : (q : Question) → rest (part q) ≡ text_from line asked n q) (turns : (q : Question) → left (part q) ≡ turns_from asked n q) where
  -- what `ask` says of a question, and the row that was laid
  module _ (q : Question) (b : Option Bound) (next : Option Question) (goes : bound_text line b ++ rest_at (text_from line asked n) next ≡ text_from line asked n q)
      (falls : left_at (turns_from asked n) next < suc (turns_from asked n q)) (row : List (List ℕ)) (is-line : row_text row ≡ bound_text line b) (longest : ℕ)
      (short : length (row_text row) ≤ longest) (at : ℕ) (out : List ℕ) (room : at + longest ≤ length out) (places : length out ≤ most_fill) {at' : ℕ} {out' : List ℕ}
      (laid : bytes_at at' out' ≡ lays row (bytes_at at out)) where
    pub asked-last : next ≡ None → Token rest left (part q) None at at' out out'
    asked-last e =
        token-put rest left (part q) None longest at out room places row short laid (rw (is-line, text q) (rw e at goes)) (rw (turns q) (rw e at falls))

    pub asked-next : (q' : Question) → next ≡ Some q' → Token rest left (part q) (Some (part q')) at at' out out'
    asked-next q' e =
        token-put rest left (part q) (Some (part q')) longest at out room places row short laid (rw (is-line, text q, text q') (rw e at goes))
        (rw (turns q, turns q') (rw e at falls))
