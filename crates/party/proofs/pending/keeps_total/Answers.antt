-- `keeps_total` compares the whole sum with its limit. Assumes nothing.
use Rattle.std.proofs.Common.{arith}
use Rattle.std.proofs.lemmas.Bool.Decides.{nat_tests}
use Rattle.party.proofs.EachLaws.{no_term, turn_weight}
use Rattle.party.proofs.pending.keeps_total.Goals as goal

pub returns-then-sum-gt-MOST_SUM : goal.returns-then-sum-gt-MOST_SUM
returns-then-sum-gt-MOST_SUM g c =
    grind (arith, nat_tests, c.loop-i.invariant.so_far, turn_weight (g.L.TermList.terms c.args.terms.now) c.loop-i.i c.at.result (omega arith) (c.at.ensures no_term))

pub loop-i-preserved : goal.loop-i-preserved
loop-i-preserved g c = record {
  so_far = omega (arith, c.loop-i.invariant.so_far, turn_weight (g.L.TermList.terms c.args.terms.now) c.loop-i.i c.at.result (omega arith) (c.at.ensures no_term));
  within = omega arith;
}
