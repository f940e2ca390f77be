-- `start_line` is the model's first line `f F`. Assumes nothing.
use Rattle.std.proofs.Common.{ap, ◌∙◌, ℕ, pos, replicate}
use Rattle.plan.proofs.LineLaws.{handed_on, start_refused, start_done}
use Rattle.plan.proofs.Plan.start_line.Goals as goal

pub returns-in_err-self : goal.returns-in_err-self
returns-in_err-self c = λ asked. start_refused _ c.start.result c.start.ensures _ c.in_err-self.was _ (handed_on _ _ c.from_residual.ensures.1) _

pub returns : goal.returns
returns c = λ asked.
    rw c.new-self.ensures (start_done _ c.start.result c.start.ensures _ c.in_ok-self.was _ c.new-self-2.ensures _ _ _
    (c.fill.ensures.after (λ y e. e) ∙ ap (λ (n : ℕ). replicate n 0) c.requires.0)
    (c.fill-2.ensures.after (λ y e. e) ∙ ap (λ (n : ℕ). replicate n 0) c.requires.1)
    (c.fill-3.ensures.after (λ y e. e) ∙ ap (λ (n : ℕ). replicate n (pos 0)) c.requires.2))
