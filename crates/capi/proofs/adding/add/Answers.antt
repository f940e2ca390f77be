-- The model's add. Assumes nothing.
use Rattle.std.proofs.Common.{refl}
use Rattle.capi.specs.Adds.{add_words}
use Rattle.capi.proofs.Replies.{accepted, right, wrong}
use Rattle.capi.proofs.Settling.{adds_accepted, adds_refused}
use Rattle.capi.proofs.adding.add.Goals as goal

pub returns-in_err-check_length : goal.returns-in_err-check_length
unfolding add_words
returns-in_err-check_length c =
    let w = wrong _ _ c.check_length.ensures _ _ c.in_err-check_length.was c.from_residual.ensures.1 in
    rw (w.0, w.1) refl

pub returns-in_err-check_length-2 : goal.returns-in_err-check_length-2
unfolding add_words
returns-in_err-check_length-2 c =
    let w = wrong _ _ c.check_length-2.ensures _ _ c.in_err-check_length-2.was c.from_residual-in_err-check_length-2.ensures.1 in
    rw (w.0, right _ _ c.check_length.ensures c.in_ok-check_length.was, w.1) refl

pub returns-in_err-check_length-3 : goal.returns-in_err-check_length-3
unfolding add_words
returns-in_err-check_length-3 c =
    let w = wrong _ _ c.check_length-3.ensures _ _ c.in_err-check_length-3.was c.from_residual-in_err-check_length-3.ensures.1 in
    rw (w.0, right _ _ c.check_length.ensures c.in_ok-check_length.was, right _ _ c.check_length-2.ensures c.in_ok-check_length-2.was, w.1) refl

pub returns-in-Err : goal.returns-in-Err
returns-in-Err c =
    let s = c.args in
    rw c.tell_place.ensures.same (adds_refused s.weights.now s.literals.now s.state.now s.place.now (right _ _ c.check_length.ensures c.in_ok-check_length.was) (right _ _ c.check_length-2.ensures c.in_ok-check_length-2.was) (right _ _ c.check_length-3.ensures c.in_ok-check_length-3.was) _ _ _ c.read_encoder-encoder.ensures c.add_each.ensures _ c.in-Err.is _ c.tell_place.ensures.told)

pub returns : goal.returns
returns c =
    let s = c.args in
    adds_accepted s.weights.now s.literals.now s.state.now s.place.now (right _ _ c.check_length.ensures c.in_ok-check_length.was) (right _ _ c.check_length-2.ensures c.in_ok-check_length-2.was) (right _ _ c.check_length-3.ensures c.in_ok-check_length-3.was) _ _ _ c.read_encoder-encoder.ensures c.add_each.ensures (accepted _ c.in_default.not-Err) _ (rw c.read_shared-shared.ensures at c.store.ensures)
