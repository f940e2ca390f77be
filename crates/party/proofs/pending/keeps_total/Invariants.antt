-- `keeps_total`: what is left, added to the sum so far, is the whole. Assumes nothing.
use Rattle.std.proofs.Common.{◌≡◌, ◌≤◌, ◌+◌, drop}
use Rattle.model.specs.Limits.{most_total}
use Rattle.party.specs.Laying.{total_weight}
use Rattle.party.proofs.pending.keeps_total.Given as goal

abbrev pub invariant-loop-i : goal.invariant-loop-i
invariant-loop-i g l = record {
  so_far : l.sum + total_weight (drop l.i (g.L.TermList.terms l.terms)) ≡ l.total + total_weight (g.L.TermList.terms l.terms);
  within : l.sum ≤ most_total;
}
