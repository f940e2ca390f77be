-- The model's answer. Assumes nothing.
use Rattle.std.proofs.Common.{refl, ◌∙◌}
use Rattle.literal.proofs.Signed.{back}
use Rattle.literal.specs.Kinds.{direction_of}
use Rattle.capi.specs.Asks.{enforce_words}
use Rattle.capi.proofs.Replies.{handed_on, right, wrong}
use Rattle.capi.proofs.Questions.{enforce_refused, enforce_told}
use Rattle.capi.proofs.asking.enforce.Goals as goal

pub returns-in_err-check_length : goal.returns-in_err-check_length
unfolding enforce_words
returns-in_err-check_length c =
    let w = wrong _ _ c.check_length.ensures _ _ c.in_err-check_length.was c.from_residual.ensures.1 in
    rw (w.0, w.1) refl

pub returns-in_err-check_length-2 : goal.returns-in_err-check_length-2
unfolding enforce_words
returns-in_err-check_length-2 c =
    let w = wrong _ _ c.check_length-2.ensures _ _ c.in_err-check_length-2.was c.from_residual-in_err-check_length-2.ensures.1 in
    rw (w.0, right _ _ c.check_length.ensures c.in_ok-check_length.was, w.1) refl

pub returns-in_err-enforced : goal.returns-in_err-enforced
returns-in_err-enforced c =
    let s = c.args in
    rw (handed_on _ _ c.from_residual-in_err-enforced.ensures.1)
    (enforce_refused s.state.now (right _ _ c.check_length.ensures c.in_ok-check_length.was) _ c.read_encoder-encoder.ensures s.bounds.now s.literal.now (right _ _ c.check_length-2.ensures c.in_ok-check_length-2.was) (direction_of s.direction) s.value _ c.in_err-enforced.ensures)

pub returns : goal.returns
returns c =
    let s = c.args in
    enforce_told s.state.now (right _ _ c.check_length.ensures c.in_ok-check_length.was) _ c.read_encoder-encoder.ensures s.bounds.now s.literal.now (right _ _ c.check_length-2.ensures c.in_ok-check_length-2.was) (direction_of s.direction) s.value _ c.in_ok-enforced.ensures
    _ (back (record { sfits = c.word_of.type_inv }) ∙ c.word_of.ensures)
