-- The model's answer, whatever the source and the buffer hold. Assumes nothing.
use Rattle.std.proofs.Common.{refl}
use Rattle.capi.specs.Asks.{explain_words}
use Rattle.capi.proofs.Replies.{handed_on, right, wrong}
use Rattle.capi.proofs.Questions.{explain_refused, explain_told}
use Rattle.capi.proofs.asking.explain.Goals as goal

pub returns-in_err-check_length : goal.returns-in_err-check_length
unfolding explain_words
returns-in_err-check_length c =
    let w = wrong _ _ c.check_length.ensures _ _ c.in_err-check_length.was c.from_residual.ensures.1 in
    λ next ws. rw (w.0, w.1) refl

pub returns-in_err-check_length-2 : goal.returns-in_err-check_length-2
unfolding explain_words
returns-in_err-check_length-2 c =
    let w = wrong _ _ c.check_length-2.ensures _ _ c.in_err-check_length-2.was c.from_residual-in_err-check_length-2.ensures.1 in
    λ next ws. rw (w.0, right _ _ c.check_length.ensures c.in_ok-check_length.was, w.1) refl

pub returns-in_err-numbers_of : goal.returns-in_err-numbers_of
returns-in_err-numbers_of c = λ next ws.
    let s = c.args in
    rw (handed_on _ _ c.from_residual-in_err-numbers_of.ensures.1)
    (explain_refused s.state.now (right _ _ c.check_length.ensures c.in_ok-check_length.was) _ c.read_encoder-encoder.ensures s.told.now (right _ _ c.check_length-2.ensures c.in_ok-check_length-2.was) _ c.read_shared.ensures s.literal.word s.nodes.now s.bounds.now c.explain-meant.result next ws (c.explain-meant.ensures next ws) _ (c.numbers_of.ensures s.told.now) _ c.in_err-numbers_of.was)

pub returns : goal.returns
returns c = λ next ws.
    let s = c.args in
    explain_told s.state.now (right _ _ c.check_length.ensures c.in_ok-check_length.was) _ c.read_encoder-encoder.ensures s.told.now (right _ _ c.check_length-2.ensures c.in_ok-check_length-2.was) _ c.read_shared.ensures s.literal.word s.nodes.now s.bounds.now c.explain-meant.result next ws (c.explain-meant.ensures next ws) _ (c.numbers_of.ensures s.told.now) _ (rw c.copy_from_slice.ensures.after c.in_ok-numbers_of.was)
