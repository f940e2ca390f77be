-- A drawn number is the model's, with none in place of 0. Assumes nothing.
use Rattle.std.proofs.Common.{◌≡◌, ℕ, Bool, true, false, cond, refl, Some, None}
use Rattle.std.specs.Prelude.{unwrap_or}
use Rattle.model.specs.Limits.{in_range}
use Rattle.model.specs.Nodes.{drawn_number}
use Rattle.source.specs.Draws.{drawn_from}

by_range : (b : Bool) (n : ℕ) → unwrap_or (cond b (Some n) None) 0 ≡ cond b n 0
by_range true n = refl
by_range false n = refl

pub number_given : (next : ℕ) → unwrap_or (drawn_from next) 0 ≡ drawn_number next
unfolding drawn_number
number_given next = by_range (in_range next) next
