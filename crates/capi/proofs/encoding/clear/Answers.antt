-- The model's call, whatever the source and the buffer hold. Assumes nothing.
use Rattle.std.proofs.Common.{refl, [], ◌∷◌}
use Rattle.model.specs.Calls.{start_over}
use Rattle.capi.specs.Lent.{called}
use Rattle.capi.proofs.Replies.{handed_on, right, wrong}
use Rattle.capi.proofs.Settling.{call_accepted, call_refused}
use Rattle.capi.proofs.encoding.clear.Goals as goal

pub returns-in_err-check_length : goal.returns-in_err-check_length
unfolding called
returns-in_err-check_length c =
    let w = wrong _ _ c.check_length.ensures _ _ c.in_err-check_length.was c.from_residual.ensures.1 in
    λ next ws. rw (w.0, w.1) refl

pub returns-in_err-start_over : goal.returns-in_err-start_over
returns-in_err-start_over c = λ next ws.
    let s = c.args in
    rw (handed_on _ _ c.from_residual-in_err-start_over.ensures.1)
    (call_refused start_over s.state.now (next ∷ []) s.nodes.now s.bounds.now ws (right _ _ c.check_length.ensures c.in_ok-check_length.was) refl
    _ _ next c.read_encoder-encoder.ensures c.read_shared-shared.ensures refl _ _ _ next _ _ ws (c.start_over.ensures next ws) _ c.in_err-start_over.was)

pub returns : goal.returns
returns c = λ next ws.
    let s = c.args in
    call_accepted start_over s.state.now (next ∷ []) s.nodes.now s.bounds.now ws (right _ _ c.check_length.ensures c.in_ok-check_length.was) refl
    _ _ next c.read_encoder-encoder.ensures c.read_shared-shared.ensures refl _ _ _ next _ _ ws (c.start_over.ensures next ws) c.in_ok-start_over.was _ next c.store.ensures refl
