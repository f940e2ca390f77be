-- `put_next_number` lays the line of a fresh number, or goes on to the answers. Assumes nothing.
use Rattle.std.proofs.Common.{arith}
use Rattle.legends.specs.Legend.{legend_of}
use Rattle.legends.proofs.Resting.{numbers-end, number-token}
use Rattle.legends.proofs.turns.put_next_number.Goals as goal

pub returns-then-x-end : goal.returns-then-x-end
returns-then-x-end c =
    numbers-end (legend_of c.args.legend.now) _ _ (omega arith) (omega arith) _ (omega (arith, c.next-end.ensures, c.if-x-end.true))

pub returns : goal.returns
returns c =
    number-token (legend_of c.args.legend.now) _ _ (omega arith) (omega arith) _ (omega (arith, c.next-end.ensures, c.if-x-end.false)) _ c.meant-meaning.ensures c.put_number-len.ensures
