-- `put_next_answer` lays the line of a bound, if one is asked for, and goes on to the next question. Assumes nothing.
use Rattle.std.proofs.Common.{arith}
use Rattle.model.specs.Program.{question_text}
use Rattle.printing.specs.declared.Part.TheVariants.{Answers}
use Rattle.printing.specs.Rest.{bound_row, rest_text, left}
use Rattle.printing.specs.Printed.{printed_of}
use Rattle.printing.proofs.AskedTokens.{asked-last, asked-next}
use Rattle.printing.proofs.Resting.{answers-text, answers-left, bound-row, bound-short}
use Rattle.printing.proofs.turns.put_next_answer.Goals as goal

pub returns-in_default : goal.returns-in_default
returns-in_default c =
    let o = printed_of c.args.printed.now in
    let b = c.ask-asking.result.bound in
    asked-last (rest_text o) (left o) Answers (question_text o.machine) _ _ (answers-text o) (answers-left o) _ b _ (c.ask-asking.ensures.text _) c.ask-asking.ensures.falls (bound_row o b) (bound-row o b) 64 (bound-short o b) _ _ (omega arith) (omega arith)
    c.put_bound-len.ensures c.in_default.is

pub returns : goal.returns
returns c =
    let o = printed_of c.args.printed.now in
    let b = c.ask-asking.result.bound in
    asked-next (rest_text o) (left o) Answers (question_text o.machine) _ _ (answers-text o) (answers-left o) _ b _ (c.ask-asking.ensures.text _) c.ask-asking.ensures.falls (bound_row o b) (bound-row o b) 64 (bound-short o b) _ _ (omega arith) (omega arith)
    c.put_bound-len.ensures _ c.in-Some.is
