-- `read_block` reads a block where the tables have their room. Assumes nothing.
use Rattle.std.proofs.Common.{refl, arith}
use Rattle.model.specs.Replies as replies
use Rattle.plan.specs.Reading.{held_of}
use Rattle.plan.proofs.Blocks.{block_all, lent_read, lent_spoilt, room}
use Rattle.plan.proofs.Reading.read_block.Goals as goal

pub returns-then-not-roomy : goal.returns-then-not-roomy
unfolding replies.number
returns-then-not-roomy c =
    lent_spoilt _ _ c.roomy.ensures (held_of c.args.self.now c.args.nodes.now c.args.bounds.now c.args.clauses.now c.args.asked.now) _ _ c.if-not-roomy.true (c.stop.ensures _ _ _ _)

pub loop-byte-init : goal.loop-byte-init
loop-byte-init c = (omega arith, room _ _ _ _ _ c.roomy.ensures c.if-not-roomy.false, refl)

pub returns : goal.returns
returns c =
    lent_read _ _ c.roomy.ensures (held_of c.args.self.now c.args.nodes.now c.args.bounds.now c.args.clauses.now c.args.asked.now) _ _ c.if-not-roomy.false
    (block_all _ _ _ c.loop-byte.byte-index (omega (arith, c.loop-byte-test.false)) c.loop-byte.invariant.2)
