-- The literal that answers a bound: the word is the enforced literal's. Assumes nothing.
use Rattle.printing.proofs.Answering.{upper-word, lower-word}
use Rattle.printing.proofs.questions.Bound.answer.Goals as goal

pub returns-in-If : goal.returns-in-If
returns-in-If c = rw (c.in-If.is, c.unwrap_or.ensures) (upper-word _ _ _ c.requires _ c.answer_ub.ensures)

pub returns-in-OnlyIf : goal.returns-in-OnlyIf
returns-in-OnlyIf c = rw (c.in-OnlyIf.is, c.unwrap_or-in-OnlyIf.ensures) (lower-word _ _ _ c.requires _ c.answer_lb.ensures)
