-- `fill` takes a number for each item. Assumes nothing.
use Rattle.std.proofs.Common.{◌≡◌, drop}
use Rattle.try_io.proofs.numbers.Numbers.fill.Given as goal

abbrev pub invariant-loop-item : goal.invariant-loop-item
invariant-loop-item g l = l.self ≡ drop l.item-index l.initial.self
