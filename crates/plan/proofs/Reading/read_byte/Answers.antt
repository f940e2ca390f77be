-- `read_byte` closes the line at a newline. Assumes nothing.
use Rattle.plan.specs.Reading.{held_of}
use Rattle.plan.proofs.Blocks.{newline_read, other_read}
use Rattle.plan.proofs.Reading.read_byte.Goals as goal

pub returns-then-byte-eq10 : goal.returns-then-byte-eq10
returns-then-byte-eq10 c = newline_read _ _ _ c.if-byte-eq10.true c.close_line.ensures

pub returns-else-byte-eq10 : goal.returns-else-byte-eq10
returns-else-byte-eq10 c =
    other_read (held_of c.args.self.now c.args.nodes.now c.args.bounds.now c.args.clauses.now c.args.asked.now) _ _ c.if-byte-eq10.false c.take.ensures
