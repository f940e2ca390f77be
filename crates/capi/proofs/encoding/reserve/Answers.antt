-- The model's call. Assumes nothing.
use Rattle.std.proofs.Common.{refl}
use Rattle.model.specs.Calls.{reserve_call}
use Rattle.capi.specs.Lent.{called}
use Rattle.capi.proofs.Replies.{handed_on, right, wrong}
use Rattle.capi.proofs.Settling.{call_accepted, call_refused}
use Rattle.capi.proofs.encoding.reserve.Goals as goal

pub returns-in_err-check_length : goal.returns-in_err-check_length
unfolding called
returns-in_err-check_length c =
    let w = wrong _ _ c.check_length.ensures _ _ c.in_err-check_length.was c.from_residual.ensures.1 in
    rw (w.0, w.1) refl

pub returns-in_err-check_length-2 : goal.returns-in_err-check_length-2
unfolding called
returns-in_err-check_length-2 c =
    let w = wrong _ _ c.check_length-2.ensures _ _ c.in_err-check_length-2.was c.from_residual-in_err-check_length-2.ensures.1 in
    rw (w.0, right _ _ c.check_length.ensures c.in_ok-check_length.was, w.1) refl

pub returns-in_err-reserve : goal.returns-in_err-reserve
returns-in_err-reserve c =
    let s = c.args in
    rw (handed_on _ _ c.from_residual-in_err-reserve.ensures.1)
    (call_refused (reserve_call) s.state.now s.source.now s.nodes.now s.bounds.now s.clauses.now (right _ _ c.check_length.ensures c.in_ok-check_length.was) (right _ _ c.check_length-2.ensures c.in_ok-check_length-2.was)
    _ _ _ c.read_encoder-encoder.ensures c.read_shared-shared.ensures c.new-drawing.ensures _ _ _ _ _ s.bounds.now s.clauses.now c.reserve.ensures _ c.in_err-reserve.was)

pub returns : goal.returns
returns c =
    let s = c.args in
    call_accepted (reserve_call) s.state.now s.source.now s.nodes.now s.bounds.now s.clauses.now (right _ _ c.check_length.ensures c.in_ok-check_length.was) (right _ _ c.check_length-2.ensures c.in_ok-check_length-2.was)
    _ _ _ c.read_encoder-encoder.ensures c.read_shared-shared.ensures c.new-drawing.ensures _ _ _ _ _ s.bounds.now s.clauses.now c.reserve.ensures c.in_ok-reserve.was _ _ c.store.ensures c.next.ensures
