-- `put_answer` lays the line of a bound's answer, if there is one. Assumes nothing.
use Rattle.std.proofs.Common.{sym}
use Rattle.legends.proofs.tokens.put_answer.Goals as goal

pub returns : goal.returns
returns c =
    rw (c.in-Some.is, sym c.put_prefix-a.ensures, sym c.put_literal-b.ensures, sym c.put_keeps-c.ensures) c.put_bytes.ensures
