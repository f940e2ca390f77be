-- `any_bad`: a bad one among those that are left is one among all. Assumes nothing.
use Rattle.std.proofs.Common.{◌≡◌, drop}
use Rattle.model.specs.Damage.{any_bad}
use Rattle.model.specs.Machine.{pending_of}
use Rattle.party.proofs.check.any_bad.Given as goal

abbrev pub invariant-loop-i : goal.invariant-loop-i
invariant-loop-i l =
    any_bad l.first (pending_of (drop l.i l.weights) (drop l.i l.words)) ≡ any_bad l.first (pending_of l.weights l.words)
