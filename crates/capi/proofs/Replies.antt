-- A refusal's number and place, and what follows a `?`. Assumes nothing.
use Rattle.std.proofs.Common.{◌≡◌, refl, sym, ap, ◌∙◌, ℕ, Bool, true, false, cond, List, Result, Ok, Err}
use Rattle.std.specs.Prelude.{eqb}
use Rattle.std.specs.Result.{IsErrAnd}
use Rattle.model.specs.Replies.{number}
use Rattle.literal.specs.Kinds.{refused}
use Rattle.literal.specs.declared.refusal.Refusal.{Refusal}
use Rattle.literal.specs.declared.refusal.Refusal.TheVariants as names
use Rattle.capi.specs.Lent.{kept, length_checked, place_after, reply_of}

pub refused_number : (x : Refusal) → eqb (number (refused x)) 0 ≡ false
unfolding number
refused_number (names.BadTerm k) = refl
refused_number names.SumTooLarge = refl
refused_number names.PendingFull = refl
refused_number names.NotEncoded = refl
refused_number names.Unsat = refl
refused_number names.EqualityRefused = refl
refused_number names.TooManyBounds = refl
refused_number names.TooWide = refl
refused_number names.NoNodes = refl
refused_number names.NoVariables = refl
refused_number names.NoRoom = refl
refused_number names.Damaged = refl
refused_number names.BadStart = refl
refused_number names.BadConstraint = refl

pub refused_kept : (x : Refusal) (new old : List ℕ) → kept (number (refused x)) new old ≡ old
refused_kept x new old = rw (refused_number x) refl

-- each refusal but that of a bad term tells no place
pub told_none : (at : ℕ) (l : List ℕ) (x : Refusal) → ((k : ℕ) → x ≡ names.BadTerm k → ⊥) → l ≡ place_after at (refused x) l
unfolding place_after
told_none at l (names.BadTerm k) h = absurd (h k refl)
told_none at l names.SumTooLarge h = refl
told_none at l names.PendingFull h = refl
told_none at l names.NotEncoded h = refl
told_none at l names.Unsat h = refl
told_none at l names.EqualityRefused h = refl
told_none at l names.TooManyBounds h = refl
told_none at l names.TooWide h = refl
told_none at l names.NoNodes h = refl
told_none at l names.NoVariables h = refl
told_none at l names.NoRoom h = refl
told_none at l names.Damaged h = refl
told_none at l names.BadStart h = refl
told_none at l names.BadConstraint h = refl

-- what a `?` hands on
pub handed_on : {A : Type 0} (r : Result A Refusal) (x : Refusal) → IsErrAnd r (λ d. d ≡ x) → reply_of r ≡ number (refused x)
handed_on (Ok a) x h = absurd h
handed_on (Err d) x h = ap (λ d. number (refused d)) h

-- what is not refused is accepted
pub accepted : (r : Result (Unit {0}) Refusal) → ((x : Refusal) → r ≡ Err x → ⊥) → r ≡ Ok tt
accepted (Ok tt) h = refl
accepted (Err x) h = absurd (h x refl)

-- a `?` after a length that is tested
right_by : (q : Bool) (c : Result (Unit {0}) Refusal) (u : Unit {0}) → c ≡ cond q (Ok tt) (Err names.Damaged) → c ≡ Ok u → q ≡ true
right_by true c u e o = refl
right_by false c u e o = let h : Err names.Damaged ≡ Ok u = sym e ∙ o in cc

wrong_by : (q : Bool) (c : Result (Unit {0}) Refusal) (x : Refusal) → c ≡ cond q (Ok tt) (Err names.Damaged) → c ≡ Err x → (q ≡ false) × (x ≡ names.Damaged)
wrong_by true c x e o = let h : Ok tt ≡ Err x = sym e ∙ o in cc
wrong_by false c x e o = let h : ◌≡◌ {A = Result (Unit {0}) Refusal} (Err names.Damaged) (Err x) = sym e ∙ o in (refl, cc)

module _ (n wanted : ℕ) {c : Result (Unit {0}) Refusal} (is : c ≡ length_checked n wanted) where
  pub right : {u : Unit {0}} → c ≡ Ok u → eqb n wanted ≡ true
  right {u} o = right_by (eqb n wanted) c u is o

  pub wrong : {A : Type 0} (x : Refusal) (r : Result A Refusal) → c ≡ Err x → IsErrAnd r (λ d. d ≡ x) → (reply_of r ≡ 12) × (eqb n wanted ≡ false)
  unfolding number
  wrong x r o h =
      let w = wrong_by (eqb n wanted) c x is o in
      (handed_on r x h ∙ ap (λ d. number (refused d)) w.1, w.0)
