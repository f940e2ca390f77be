-- The weights that are left, stored from here, give the whole. Assumes nothing.
use Rattle.std.proofs.Common.{length-set}
use Rattle.reifications.proofs.Copies.{copy_end, copy_step}
use Rattle.reifications.proofs.write.copy_weights.Goals as goal

pub loop-i-preserved : goal.loop-i-preserved
loop-i-preserved c = record {
  long = simp length-set c.loop-i.invariant.long;
  stored = copy_step c.args.from.now c.loop-i.i _ _ 0 c.loop-i-test.true c.loop-i.invariant.stored;
}

pub returns : goal.returns
returns c = copy_end c.args.from.now c.loop-i.i _ _ c.loop-i-test.false c.loop-i.invariant.stored
