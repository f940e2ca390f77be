-- `first_bad`: the first bad term among those that are left is the first of all. Assumes nothing.
use Rattle.std.proofs.Common.{◌≡◌, ◌<◌, false, ℕ, get_or}
use Rattle.model.specs.Calls.{is_bad_term}
use Rattle.party.specs.Laying.{term_of}
use Rattle.party.proofs.EachLaws.{no_term}
use Rattle.party.proofs.encoder.first_bad.Given as goal

abbrev pub invariant-loop-i : goal.invariant-loop-i
invariant-loop-i g l = (k : ℕ) → k < l.i → is_bad_term l.first (term_of (get_or (g.L.TermList.terms l.terms) k no_term)) ≡ false
