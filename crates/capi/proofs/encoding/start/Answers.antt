-- The model's start. Assumes nothing.
use Rattle.std.proofs.Common.{refl}
use Rattle.capi.specs.Lent.{start_words}
use Rattle.capi.proofs.Replies.{handed_on, right, wrong}
use Rattle.capi.proofs.Settling.{start_accepted, start_refused}
use Rattle.capi.proofs.encoding.start.Goals as goal

pub returns-in_err-check_length : goal.returns-in_err-check_length
unfolding start_words
returns-in_err-check_length c =
    let w = wrong _ _ c.check_length.ensures _ _ c.in_err-check_length.was c.from_residual.ensures.1 in
    rw (w.0, w.1) refl

pub returns-in_err-encoder : goal.returns-in_err-encoder
returns-in_err-encoder c =
    rw (handed_on _ _ c.from_residual-in_err-encoder.ensures.1)
    (start_refused c.args.first c.args.state.now (right _ _ c.check_length.ensures c.in_ok-check_length.was) _ c.start.ensures _ c.in_err-encoder.was)

pub returns : goal.returns
returns c = start_accepted c.args.first c.args.state.now (right _ _ c.check_length.ensures c.in_ok-check_length.was) _ c.start.ensures _ c.in_ok-encoder.was _ (rw c.new.ensures at c.store.ensures)
