-- `lay_all`: the terms that are left, added to those laid, are all; they fit, and what lies behind them is as it was. Assumes nothing.
use Rattle.std.proofs.Common.{◌≡◌, ◌<◌, ◌≤◌, ◌+◌, ◌^◌, drop, take}
use Rattle.model.specs.Machine.{pending_of, weighed}
use Rattle.party.specs.Laying.{added_each, total_weight}
use Rattle.party.proofs.pending.lay_all.Given as goal

abbrev pub invariant-loop-i : goal.invariant-loop-i
invariant-loop-i g l = record {
  so_far : added_each (drop l.i (g.L.TermList.terms l.terms)) (pending_of (take l.used l.weights) (take l.used l.words)) ≡ added_each (g.L.TermList.terms l.terms) (pending_of (take l.count l.initial.weights) (take l.count l.initial.words));
  fits : weighed (pending_of (take l.used l.weights) (take l.used l.words)) + total_weight (drop l.i (g.L.TermList.terms l.terms)) < 2 ^ 32;
  within : l.used ≤ 128;
  weights_behind : drop l.used l.weights ≡ drop l.used l.initial.weights;
  words_behind : drop l.used l.words ≡ drop l.used l.initial.words;
}
