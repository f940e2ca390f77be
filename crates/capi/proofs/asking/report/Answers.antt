-- The model's report. Assumes nothing.
use Rattle.std.proofs.Common.{refl}
use Rattle.capi.specs.Asks.{report_words}
use Rattle.capi.proofs.Replies.{handed_on, right, wrong}
use Rattle.capi.proofs.Questions.{report_refused, report_told}
use Rattle.capi.proofs.asking.report.Goals as goal

pub returns-in_err-check_length : goal.returns-in_err-check_length
unfolding report_words
returns-in_err-check_length c =
    let w = wrong _ _ c.check_length.ensures _ _ c.in_err-check_length.was c.from_residual.ensures.1 in
    rw (w.0, w.1) refl

pub returns-in_err-check_length-2 : goal.returns-in_err-check_length-2
unfolding report_words
returns-in_err-check_length-2 c =
    let w = wrong _ _ c.check_length-2.ensures _ _ c.in_err-check_length-2.was c.from_residual-in_err-check_length-2.ensures.1 in
    rw (w.0, right _ _ c.check_length.ensures c.in_ok-check_length.was, w.1) refl

pub returns-in_err-report : goal.returns-in_err-report
returns-in_err-report c =
    let s = c.args in
    rw (handed_on _ _ c.from_residual-in_err-report.ensures.1)
    (report_refused s.state.now (right _ _ c.check_length.ensures c.in_ok-check_length.was) _ c.read_encoder.ensures s.told.now (right _ _ c.check_length-2.ensures c.in_ok-check_length-2.was) _ c.in_err-report.ensures.told c.in_err-report.ensures.silent)

pub returns : goal.returns
returns c =
    let s = c.args in
    report_told s.state.now (right _ _ c.check_length.ensures c.in_ok-check_length.was) _ c.read_encoder.ensures s.told.now (right _ _ c.check_length-2.ensures c.in_ok-check_length-2.was) c.in_ok-report.report c.in_ok-report.ensures.told
    _ (rw c.from.ensures at c.copy_from_slice.ensures.after)
