-- `ask_line` is the model's: what the reply to the range makes of the plan. Assumes nothing.
use Rattle.std.proofs.Common.{ap, ◌∙◌, arith}
use Rattle.plan.specs.Noting.{cut_range}
use Rattle.plan.proofs.Asking.{asked-length, noted_more}
use Rattle.plan.proofs.LineLaws.{handed_on, ask_full, ask_refused, ask_done}
use Rattle.plan.proofs.Plan.ask_line.Goals as goal

pub returns-then-n-ge-MOST_ASKED : goal.returns-then-n-ge-MOST_ASKED
returns-then-n-ge-MOST_ASKED c = λ k. ask_full _ k _ _ _ _ (asked-length _ _ _) (omega (arith, c.if-n-ge-MOST_ASKED.true))

pub returns-in_err-encode : goal.returns-in_err-encode
returns-in_err-encode c = λ k.
    ask_refused _ k _ _ _ _ (asked-length _ _ _) (omega (arith, c.if-n-ge-MOST_ASKED.false)) c.encode.result _ (c.encode.ensures ∙ c.ask_for.ensures _)
    _ c.in_err-encode.was _ (handed_on _ _ c.from_residual.ensures.1) _

pub returns : goal.returns
returns c = λ k.
    ask_done _ k _ _ _ _ (asked-length _ _ _) (omega (arith, c.if-n-ge-MOST_ASKED.false)) c.encode.result _ (c.encode.ensures ∙ c.ask_for.ensures _)
    _ c.in_ok-encode.was _ (noted_more _ _ _ _ _ (omega (arith, c.if-n-ge-MOST_ASKED.false, c.requires)) c.note.ensures (c.cut_range-cut.ensures ∙ ap (cut_range c.args.direction c.args.from c.args.to) c.total.ensures.total))
