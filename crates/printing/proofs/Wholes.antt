-- A writing as a whole: where it begins, it is the text of the plan's outcome. Assumes nothing.
use mathlib.Core.Path.{◌≡◌, refl, ap, ap₂}
use mathlib.Core.Bool.{true}
use mathlib.Core.List.{List, [], ◌∷◌, ◌++◌}
use Prim.Native.Nat.{ℕ}
use lib.IntN.{ℤ}
use Rattle.model.specs.Signs.{Dir, if_above, only_if_above}
use Rattle.model.specs.Bounds.{run}
use Rattle.model.specs.Machine.{Machine}
use Rattle.model.specs.Calls.{enforce_damaged, enforce_upper, enforce_lower}
use Rattle.model.specs.Program.{Asked, going, head_text, question_text, questions_text, answers_text, outcome_text}
use Rattle.party.specs.Read.{machine_of}
use Rattle.plan.specs.Read.{asked_from, going_of}
use Rattle.plan.specs.declared.Plan.{Plan}
use Rattle.printing.specs.declared.Part.TheVariants.{Head}
use Rattle.printing.specs.Asking.{lines_for, lines_asked}
use Rattle.printing.specs.Rest.{printed_in, rest_text}
use Rattle.printing.proofs.AskedLaws.{all-answered}

module _ (p : Plan) (nodes bounds : List ℕ) (clauses : List ℤ) where
  -- no text depends on the nodes
  abbrev bare : Machine
  bare = machine_of p.encoder p.shared p.source [] bounds clauses

  abbrev full : Machine
  full = machine_of p.encoder p.shared p.source nodes bounds clauses

  questions-same : (δ : Dir) (vs : List ℕ) → lines_for (question_text bare) δ vs ≡ questions_text full δ vs
  unfolding question_text
  questions-same δ [] = refl
  questions-same if_above (v ∷ vs) = ap (λ (t : List ℕ). question_text full if_above v ++ t) (questions-same if_above vs)
  questions-same only_if_above (v ∷ vs) = ap (λ (t : List ℕ). question_text full only_if_above v ++ t) (questions-same only_if_above vs)

  answers-same : (as' : List Asked) → lines_asked (question_text bare) as' ≡ answers_text full as'
  answers-same [] = refl
  answers-same (a ∷ as') = ap₂ (λ (x y : List ℕ). x ++ y) (questions-same a.dir (run a.from a.many)) (answers-same as')

  -- a damaged state answers nothing
  silent : enforce_damaged p.encoder bounds ≡ true → (δ : Dir) (v : ℕ) → question_text bare δ v ≡ []
  unfolding question_text enforce_upper enforce_lower
  silent e if_above v = rw e
  silent e only_if_above v = rw e

  pub going_first : (asked : List ℕ) → rest_text (printed_in p bounds clauses asked) Head ≡ outcome_text (going (going_of p nodes bounds clauses asked))
  unfolding rest_text outcome_text head_text
  going_first asked =
      rw (all-answered (question_text bare) p.encoder bounds silent asked p.asked, answers-same (asked_from asked 0 p.asked))
