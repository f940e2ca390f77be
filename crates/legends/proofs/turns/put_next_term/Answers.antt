-- `put_next_term` lays the line of a term, or what stands behind the last. Assumes nothing.
use Rattle.std.proofs.Common.{arith}
use Rattle.legends.specs.Legend.{legend_of}
use Rattle.legends.proofs.Resting.{term-token, tail-token}
use Rattle.legends.proofs.turns.put_next_term.Goals as goal

pub returns-then-i-end : goal.returns-then-i-end
returns-then-i-end c =
    rw c.first.ensures
    (tail-token (legend_of c.args.legend.now) _ _ (omega arith) (omega arith) _ (omega (arith, c.min-end.ensures, c.if-i-end.true)) (rw c.pending-pending.ensures at c.put_tail-len.ensures))

pub returns : goal.returns
returns c =
    term-token (legend_of c.args.legend.now) _ _ (omega arith) (omega arith) _ (omega (arith, c.min-end.ensures, c.if-i-end.false)) (rw c.term_at-term.ensures at c.put_term-len.ensures)
