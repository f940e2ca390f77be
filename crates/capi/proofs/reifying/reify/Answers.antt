-- The model's reification. Assumes nothing.
use Rattle.std.proofs.Common.{refl}
use Rattle.model.specs.Replies.{number}
use Rattle.literal.proofs.Signed.{back}
use Rattle.capi.specs.Reifies.{reify_words}
use Rattle.capi.proofs.Replies.{handed_on, right, wrong}
use Rattle.capi.proofs.Reifications.{made_refused, made_told}
use Rattle.capi.proofs.reifying.reify.Goals as goal

pub returns-in_err-check_length : goal.returns-in_err-check_length
unfolding reify_words
returns-in_err-check_length c =
    let w = wrong _ _ c.check_length.ensures _ _ c.in_err-check_length.was c.from_residual.ensures.1 in
    rw (w.0, w.1) refl

pub returns-in_err-way : goal.returns-in_err-way
unfolding reify_words number
returns-in_err-way c =
    rw (handed_on _ _ c.from_residual-in_err-way.ensures.1, c.in_err-way.ensures.none.1, right _ _ c.check_length.ensures c.in_ok-check_length.was, c.in_err-way.ensures.none.0) refl

pub returns-in_err-bound : goal.returns-in_err-bound
unfolding reify_words number
returns-in_err-bound c =
    rw (handed_on _ _ c.from_residual-in_err-bound.ensures.1, c.in_err-bound.ensures.none.1, right _ _ c.check_length.ensures c.in_ok-check_length.was, c.in_ok-way.ensures.way.0, c.in_err-bound.ensures.none.0) refl

pub returns-in_err-made : goal.returns-in_err-made
returns-in_err-made c =
    let s = c.args in
    rw (handed_on _ _ c.from_residual-in_err-made.ensures.1) (made_refused s.direction s.kind s.told.now s.made_weights.now s.made_literals.now (right _ _ c.check_length.ensures c.in_ok-check_length.was) c.in_ok-way.ensures.way.0 c.in_ok-bound.ensures.bound.0 _ _ _ _ (rw (c.in_ok-way.ensures.way.1, c.in_ok-bound.ensures.bound.1, back c.ranges.bound) at c.reify_lists.ensures) _ c.in_err-made.was)

pub returns : goal.returns
returns c =
    let s = c.args in
    made_told s.direction s.kind s.told.now s.made_weights.now s.made_literals.now (right _ _ c.check_length.ensures c.in_ok-check_length.was) c.in_ok-way.ensures.way.0 c.in_ok-bound.ensures.bound.0 _ _ _ _ (rw (c.in_ok-way.ensures.way.1, c.in_ok-bound.ensures.bound.1, back c.ranges.bound) at c.reify_lists.ensures) _ c.in_ok-made.was _ c.tell_reified.ensures
