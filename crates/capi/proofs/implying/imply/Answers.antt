-- The model's implication. Assumes nothing.
use Rattle.std.proofs.Common.{refl, sym, ◌∙◌, ◌≡◌, true, false, length}
use Rattle.model.specs.Replies.{number}
use Rattle.capi.specs.Implies.{formed, imply_words}
use Rattle.capi.proofs.Replies.{handed_on, right, wrong}
use Rattle.capi.proofs.Implications.{both_fit, fill_is_told, left_unfit, place_is_told, right_unfit}
use Rattle.capi.proofs.implying.imply.Goals.{then-not-fits-via-then-not-fits, then-not-fits-via-else-not-fits+then-not-fits-2}
use Rattle.capi.proofs.implying.imply.Goals as goal

pub returns-in_err-check_length : goal.returns-in_err-check_length
unfolding imply_words
returns-in_err-check_length c =
    let w = wrong _ _ c.check_length.ensures _ _ c.in_err-check_length.was c.from_residual.ensures.1 in
    rw (w.0, w.1) refl

pub returns-in_err-p : goal.returns-in_err-p
unfolding imply_words number
returns-in_err-p c =
    rw (handed_on _ _ c.from_residual-in_err-p.ensures.1, c.in_err-p.ensures.none, right _ _ c.check_length.ensures c.in_ok-check_length.was, ← c.in_err-p.ensures.fit (length c.args.left.now) (length c.args.right.now)) refl

pub returns-then-not-fits : goal.returns-then-not-fits
unfolding imply_words number
returns-then-not-fits c =
    let s = c.args in
    let none : false ≡ formed s.kind (length s.left.now) (length s.right.now) = elim c.then-not-fits.branch [
      | then-not-fits-via-then-not-fits w ↦ left_unfit _ _ _ c.fits.ensures w.if-not-fits.true ∙ c.in_ok-p.ensures.fit (length s.left.now) (length s.right.now)
      | then-not-fits-via-else-not-fits+then-not-fits-2 w ↦ right_unfit _ _ _ w.fits-else-not-fits.ensures w.if-not-fits-2.true ∙ c.in_ok-p.ensures.fit (length s.left.now) (length s.right.now)
    ] in
    rw (right _ _ c.check_length.ensures c.in_ok-check_length.was, ← none) refl

pub returns-in-Ok : goal.returns-in-Ok
returns-in-Ok c =
    let s = c.args in
    let f : formed s.kind (length s.left.now) (length s.right.now) ≡ true =
    sym (c.in_ok-p.ensures.fit (length s.left.now) (length s.right.now)) ∙ both_fit _ _ _ _ c.fits.ensures c.fits-else-not-fits.ensures c.if-not-fits.false c.if-not-fits-2.false in
    fill_is_told s.kind s.left.now s.right.now s.clauses.now s.told.now (right _ _ c.check_length.ensures c.in_ok-check_length.was) f
    _ _ (c.side.ensures ∙ c.in_ok-p.ensures.sides.0) (c.side-2.ensures ∙ c.in_ok-p.ensures.sides.1) _ _ c.imply.ensures _ c.in-Ok.is

pub returns-in-Err : goal.returns-in-Err
returns-in-Err c =
    let s = c.args in
    let f : formed s.kind (length s.left.now) (length s.right.now) ≡ true =
    sym (c.in_ok-p.ensures.fit (length s.left.now) (length s.right.now)) ∙ both_fit _ _ _ _ c.fits.ensures c.fits-else-not-fits.ensures c.if-not-fits.false c.if-not-fits-2.false in
    rw c.tell_place.ensures.same (place_is_told s.kind s.left.now s.right.now s.clauses.now s.told.now (right _ _ c.check_length.ensures c.in_ok-check_length.was) f
    _ _ (c.side.ensures ∙ c.in_ok-p.ensures.sides.0) (c.side-2.ensures ∙ c.in_ok-p.ensures.sides.1) _ _ c.imply.ensures _ c.in-Err.is _ c.tell_place.ensures.told)
