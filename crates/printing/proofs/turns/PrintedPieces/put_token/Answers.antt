-- `put_token` lays the head line, or the line of a refusal. Assumes nothing.
use Rattle.std.proofs.Common.{arith}
use Rattle.printing.specs.Rest.{head_row, refusal_row}
use Rattle.printing.specs.Printed.{printed_of}
use Rattle.printing.proofs.Putting.{token-put}
use Rattle.printing.proofs.Resting.{head-short, head-rest, head-left, refusal-short, refused-rest}
use Rattle.printing.proofs.turns.PrintedPieces.put_token.Goals as goal

pub returns-in-Head : goal.returns-in-Head
returns-in-Head c =
    let o = printed_of c.args.self.now in
    rw c.in-Head.is
    (token-put _ _ _ _ 64 _ _ (omega arith) (omega arith) (head_row o.machine.next o.machine.party.tally.clauses) (head-short o.machine.next o.machine.party.tally.clauses) (rw (c.next-next.ensures, c.clauses.ensures) at c.put_head-len.ensures) (head-rest o) (head-left o))

pub returns-in-Refused : goal.returns-in-Refused
returns-in-Refused c =
    let o = printed_of c.args.self.now in
    let n = c.in-Refused.number in
    let k = c.in-Refused.line in
    rw c.in-Refused.is
    (token-put _ _ _ _ 64 _ _ (omega arith) (omega arith) (refusal_row n k) (refusal-short n k) c.put_refusal-len.ensures (refused-rest o n k) (omega arith))
