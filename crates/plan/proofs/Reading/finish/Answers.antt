-- `finish` closes a last line without a newline. Assumes nothing.
use Rattle.std.proofs.Common.{refl}
use Rattle.plan.specs.Read.{going_of}
use Rattle.model.specs.Replies as replies
use Rattle.plan.specs.Reading.{held_of}
use Rattle.plan.proofs.Blocks.{room, end_fresh, end_line, end_spoilt}
use Rattle.plan.proofs.Reading.finish.Goals as goal

pub returns-then-not-roomy : goal.returns-then-not-roomy
unfolding replies.number
returns-then-not-roomy c =
    end_spoilt _ _ c.roomy.ensures (held_of c.args.self c.args.nodes.now c.args.bounds.now c.args.clauses.now c.args.asked.now) c.stop.new.self.stage (going_of c.stop.new.self c.args.nodes.now c.args.bounds.now c.args.clauses.now c.args.asked.now) c.if-not-roomy.true (c.stop.ensures _ _ _ _)

pub close_line-requires : goal.close_line-requires
close_line-requires c = room _ _ _ _ _ c.roomy.ensures c.if-not-roomy.false

pub returns-then-not-reading : goal.returns-then-not-reading
returns-then-not-reading c =
    end_line _ _ c.roomy.ensures (held_of c.args.self c.args.nodes.now c.args.bounds.now c.args.clauses.now c.args.asked.now) c.close_line.new.self.plan.stage (going_of c.close_line.new.self.plan c.close_line.new.nodes c.close_line.new.bounds c.close_line.new.clauses c.close_line.new.asked) _ c.if-not-roomy.false c.if-not-reading.true c.close_line.ensures refl

pub returns-else-not-reading : goal.returns-else-not-reading
returns-else-not-reading c =
    end_fresh _ _ c.roomy.ensures (held_of c.args.self c.args.nodes.now c.args.bounds.now c.args.clauses.now c.args.asked.now) c.args.self.plan.stage (going_of c.args.self.plan c.args.nodes.now c.args.bounds.now c.args.clauses.now c.args.asked.now) c.if-not-roomy.false c.if-not-reading.false refl
