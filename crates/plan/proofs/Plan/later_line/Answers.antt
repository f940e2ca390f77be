-- `later_line` is the model's, by the line's form. Assumes nothing.
use Rattle.plan.proofs.LineLaws.{handed_on, later_none, later_first, later_term}
use Rattle.plan.proofs.Plan.later_line.Goals as goal

pub returns-in_err-line : goal.returns-in_err-line
returns-in_err-line c = λ k. later_none k c.args.line _ _ c.in_err-line.was _ (handed_on _ _ c.from_residual.ensures.1) _

pub returns-in-First : goal.returns-in-First
returns-in-First c = λ k. later_first k c.args.line _ _ _ c.in_ok-line.was c.in-First.is

pub returns-in-Term : goal.returns-in-Term
returns-in-Term c = λ k. later_term k c.args.line _ _ _ _ _ c.in_ok-line.was c.in-Term.is _ c.term_of.ensures _ (c.add_line.ensures k _ _ _ _)
