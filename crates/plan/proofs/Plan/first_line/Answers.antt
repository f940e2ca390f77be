-- `first_line` is the model's: `f F`, or refusal 1. Assumes nothing.
use Rattle.plan.proofs.LineLaws.{handed_on, first_none, first_other}
use Rattle.plan.proofs.Plan.first_line.Goals as goal

pub returns-in_err-first : goal.returns-in_err-first
returns-in_err-first c = λ asked. first_none c.args.line _ c.in_err-first.was _ (handed_on _ _ c.from_residual.ensures.1) _

pub returns-in_default : goal.returns-in_default
returns-in_default c = λ asked. first_other c.args.line _ c.in_ok-first.was c.in_default.not-First
