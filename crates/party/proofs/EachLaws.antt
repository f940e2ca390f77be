-- Terms laid one after another. Assumes nothing.
use Rattle.std.proofs.Common.{◌≡◌, ◌<◌, ◌≤◌, ◌∙◌, sym, ℕ, zero, suc, ◌+◌, Bool, true, false, List, [], ◌∷◌, refl, ap, length, drop, get_or, arith, add-one, drop-cons, pos}
use Rattle.std.specs.Prelude.{eqb}
use Rattle.model.specs.Buckets.{Pending}
use Rattle.model.specs.Machine.{add_to, weighed}
use Rattle.literal.specs.declared.Term.{Term}
use Rattle.party.specs.Laying.{added_each, pending_term, total_weight}

abbrev pub no_term : Term
no_term = record { weight = 0; literal = pos 0 }

-- a turn: the term at a place, and the terms behind it
module _ (ts : List Term) (i : ℕ) (t : Term) (h : i < length ts) (is : t ≡ get_or ts i no_term) where
  pub turn : (ps : List Pending) → added_each (drop i ts) ps ≡ added_each (drop (i + 1) ts) (add_to (pending_term t) ps)
  turn ps = rw (add-one i, drop-cons ts i no_term h, is) refl

  pub turn_weight : total_weight (drop i ts) ≡ t.weight + total_weight (drop (i + 1) ts)
  turn_weight = rw (add-one i, drop-cons ts i no_term h, is) refl

weighed_by : (q : Bool) (t u : Pending) (us : List Pending) → eqb u.word t.word ≡ q → weighed (add_to t us) ≡ weighed us + t.weight → weighed (add_to t (u ∷ us)) ≡ weighed (u ∷ us) + t.weight
unfolding weighed
weighed_by true t u us e ih = rw e (omega arith)
weighed_by false t u us e ih = rw e (omega arith)

pub weighed-add_to : (t : Pending) (ps : List Pending) → weighed (add_to t ps) ≡ weighed ps + t.weight
unfolding weighed
weighed-add_to t [] = omega arith
weighed-add_to t (u ∷ us) = weighed_by (eqb u.word t.word) t u us refl (weighed-add_to t us)

longer_by : (q : Bool) (t u : Pending) (us : List Pending) → eqb u.word t.word ≡ q → length us ≤ length (add_to t us) → length (u ∷ us) ≤ length (add_to t (u ∷ us))
longer_by true t u us e ih = rw e (omega arith)
longer_by false t u us e ih = rw e (omega arith)

pub longer : (t : Pending) (ps : List Pending) → length ps ≤ length (add_to t ps)
longer t [] = omega arith
longer t (u ∷ us) = longer_by (eqb u.word t.word) t u us refl (longer t us)

pub longer_each : (ts : List Term) (ps : List Pending) → length ps ≤ length (added_each ts ps)
longer_each [] ps = omega arith
longer_each (t ∷ ts) ps = omega (arith, longer (pending_term t) ps, longer_each ts (add_to (pending_term t) ps))

most_by : (q : Bool) (t u : Pending) (us : List Pending) → eqb u.word t.word ≡ q → length (add_to t us) ≤ length us + 1 → length (add_to t (u ∷ us)) ≤ length (u ∷ us) + 1
most_by true t u us e ih = rw e (omega arith)
most_by false t u us e ih = rw e (omega arith)

at_most : (t : Pending) (ps : List Pending) → length (add_to t ps) ≤ length ps + 1
at_most t [] = omega arith
at_most t (u ∷ us) = most_by (eqb u.word t.word) t u us refl (at_most t us)

pub at_most_each : (ts : List Term) (ps : List Pending) → length (added_each ts ps) ≤ length ps + length ts
at_most_each [] ps = omega arith
at_most_each (t ∷ ts) ps = omega (arith, at_most (pending_term t) ps, at_most_each ts (add_to (pending_term t) ps))

nil_drop : {A : Type 0} (m : ℕ) → drop {A = A} m [] ≡ []
nil_drop zero = refl
nil_drop (suc m) = refl

-- what is the same behind a place is the same behind a later one
pub drop_further : (xs ys : List ℕ) (m n : ℕ) → m ≤ n → drop m xs ≡ drop m ys → drop n xs ≡ drop n ys
drop_further xs ys zero n h e = ap (drop n) e
drop_further xs ys (suc m) zero h e = absurd (omega arith)
drop_further [] [] (suc m) (suc n) h e = refl
drop_further [] (y ∷ ys) (suc m) (suc n) h e = sym (nil_drop n) ∙ drop_further [] ys m n (omega arith) (nil_drop m ∙ e)
drop_further (x ∷ xs) [] (suc m) (suc n) h e = drop_further xs [] m n (omega arith) (e ∙ sym (nil_drop m)) ∙ nil_drop n
drop_further (x ∷ xs) (y ∷ ys) (suc m) (suc n) h e = drop_further xs ys m n (omega arith) e
