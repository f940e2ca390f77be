-- `ask` at the end of the lines, at the end of a line, and at a value. Assumes nothing.
use Rattle.std.proofs.Common.{arith}
use Rattle.printing.proofs.AskedLaws.{end-text, line-text, line-falls, value-text, value-falls}
use Rattle.printing.proofs.questions.Question.ask.Goals as goal

pub returns-then-self-lines-clause-text : goal.returns-then-self-lines-clause-text
returns-then-self-lines-clause-text c = λ line. end-text _ _ _ line c.if-self-lines.true

pub returns-then-self-many-clause-text : goal.returns-then-self-many-clause-text
returns-then-self-many-clause-text c = λ line.
    line-text _ _ _ c.if-self-lines.false _ c.asked_line-asked.ensures line (omega (arith, c.from-many.ensures, c.if-self-many.true))

pub returns-then-self-many-clause-falls : goal.returns-then-self-many-clause-falls
returns-then-self-many-clause-falls c = line-falls _ _ _ c.if-self-lines.false _ c.asked_line-asked.ensures

pub returns-clause-text : goal.returns-clause-text
returns-clause-text c = λ line.
    rw c.from-from.ensures (value-text _ _ _ c.if-self-lines.false _ c.asked_line-asked.ensures (omega (arith, c.from-many.ensures, c.if-self-many.false)) line)

pub returns-clause-falls : goal.returns-clause-falls
returns-clause-falls c =
    value-falls _ _ _ c.if-self-lines.false _ c.asked_line-asked.ensures (omega (arith, c.from-many.ensures, c.if-self-many.false))
