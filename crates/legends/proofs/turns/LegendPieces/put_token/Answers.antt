-- `put_token` lays the head line, or the line of a refusal. Assumes nothing.
use Rattle.std.proofs.Common.{arith}
use Rattle.legends.specs.Legend.{legend_of}
use Rattle.legends.proofs.Resting.{head-token, refused-token}
use Rattle.legends.proofs.turns.LegendPieces.put_token.Goals as goal

pub returns-in-Head : goal.returns-in-Head
returns-in-Head c =
    rw c.in-Head.is
    (head-token (legend_of c.args.self.now) _ _ (omega arith) (omega arith) _ c.total-total.ensures.total (rw (c.first-first.ensures, c.next-next.ensures) at c.put_head-len.ensures))

pub returns-in-Refused : goal.returns-in-Refused
returns-in-Refused c =
    rw c.in-Refused.is
    (refused-token (legend_of c.args.self.now) _ _ (omega arith) (omega arith) _ _ c.put_refusal-len.ensures)
