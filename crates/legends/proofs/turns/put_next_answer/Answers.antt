-- `put_next_answer` lays the line of a bound, if one is asked for, and goes on to the next question. Assumes nothing.
use Rattle.std.proofs.Common.{arith}
use Rattle.model.specs.Legend.{bound_line}
use Rattle.printing.proofs.AskedTokens.{asked-last, asked-next}
use Rattle.legends.specs.declared.Part.TheVariants.{Answers}
use Rattle.legends.specs.Rest.{bound_row, rest_text, left}
use Rattle.legends.specs.Legend.{legend_of}
use Rattle.legends.proofs.Texts.{bound-text, bound-short}
use Rattle.legends.proofs.Resting.{answers-text, answers-left}
use Rattle.legends.proofs.turns.put_next_answer.Goals as goal

pub returns-in_default : goal.returns-in_default
returns-in_default c =
    let h = legend_of c.args.legend.now in
    let b = c.ask-asking.result.bound in
    asked-last (rest_text h) (left h) Answers (bound_line h.machine) _ _ (answers-text h) (answers-left h) _ b _ (c.ask-asking.ensures.text _) c.ask-asking.ensures.falls (bound_row h b) (bound-text h b) 160 (bound-short h b) _ _ (omega arith) (omega arith)
    c.put_bound-len.ensures c.in_default.is

pub returns : goal.returns
returns c =
    let h = legend_of c.args.legend.now in
    let b = c.ask-asking.result.bound in
    asked-next (rest_text h) (left h) Answers (bound_line h.machine) _ _ (answers-text h) (answers-left h) _ b _ (c.ask-asking.ensures.text _) c.ask-asking.ensures.falls (bound_row h b) (bound-text h b) 160 (bound-short h b) _ _ (omega arith) (omega arith)
    c.put_bound-len.ensures _ c.in-Some.is
