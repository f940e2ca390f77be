-- The place of the first word that equals one, and a term laid there. Assumes nothing.
use Rattle.std.proofs.Common.{◌≡◌, ◌≢◌, ◌<◌, ◌≤◌, ◌∙◌, ℕ, zero, suc, ◌+◌, ◌-◌, Bool, true, false, List, [], ◌∷◌, refl, ap, length, take, set, get_or, arith, ltb}
use Rattle.std.specs.Prelude.{eqb, min}
use Rattle.std.proofs.lemmas.Bool.Decides.{nat_tests}
use borrow.Author.Tests.{eqb-false, eqb-true}
use Rattle.std.proofs.lemmas.Grind.{common_steps}
use Rattle.model.specs.Limits.{most_terms, most_total}
use Rattle.party.specs.Adding.{first_of, laid, with_sum, with_terms}
use Rattle.party.specs.declared.adding.Adding.{Adding}
use Rattle.party.proofs.LayingLaws.{differ}

pub first_found : (w : ℕ) (xs : List ℕ) (k : ℕ) → k < length xs → get_or xs k 0 ≡ w → ((j : ℕ) → j < k → get_or xs j 0 ≢ w) → first_of w xs ≡ k
unfolding first_of
first_found w [] k h e f = absurd (omega arith)
first_found w (x ∷ xs) zero h e f = let t : eqb x w ≡ true = grind (arith, e) in rw t refl
first_found w (x ∷ xs) (suc k) h e f =
    let t : eqb x w ≡ false = differ x w (f 0 (omega arith)) in
    rw t (ap suc (first_found w xs k (omega arith) e (λ j l. f (suc j) (omega arith))))

pub first_missing : (w : ℕ) (xs : List ℕ) → ((j : ℕ) → j < length xs → get_or xs j 0 ≢ w) → first_of w xs ≡ length xs
unfolding first_of
first_missing w [] f = refl
first_missing w (x ∷ xs) f =
    let t : eqb x w ≡ false = differ x w (f 0 (omega arith)) in
    rw t (ap suc (first_missing w xs (λ j l. f (suc j) (omega arith))))

-- what the place tells: the word stands there, and at none before
at_by : (q : Bool) (w x : ℕ) (xs : List ℕ) → eqb x w ≡ q → (first_of w xs < length xs → get_or xs (first_of w xs) 0 ≡ w) → first_of w (x ∷ xs) < length (x ∷ xs) → get_or (x ∷ xs) (first_of w (x ∷ xs)) 0 ≡ w
unfolding first_of
at_by true w x xs e ih h = rw e (eqb-true x w e)
at_by false w x xs e ih h = rw e (ih (omega (arith, rw e at h)))

pub at_place : (w : ℕ) (xs : List ℕ) → first_of w xs < length xs → get_or xs (first_of w xs) 0 ≡ w
at_place w [] h = absurd (omega (arith, h))
at_place w (x ∷ xs) h = at_by (eqb x w) w x xs refl (at_place w xs) h

before_by : (q : Bool) (w x : ℕ) (xs : List ℕ) → eqb x w ≡ q → ((j : ℕ) → j < first_of w xs → get_or xs j 0 ≢ w) → (j : ℕ) → j < first_of w (x ∷ xs) → get_or (x ∷ xs) j 0 ≢ w
unfolding first_of
before_by true w x xs e ih j h = absurd (omega (arith, rw e at h))
before_by false w x xs e ih zero h = eqb-false x w e
before_by false w x xs e ih (suc j) h = ih j (omega (arith, rw e at h))

pub before_place : (w : ℕ) (xs : List ℕ) (j : ℕ) → j < first_of w xs → get_or xs j 0 ≢ w
unfolding first_of
before_place w [] j h = absurd (omega (arith, h))
before_place w (x ∷ xs) j h = before_by (eqb x w) w x xs refl (before_place w xs) j h

-- a literal had no room: no further one is laid
pub laid_again : (a : Adding) (weight word s : ℕ) → a.full ≡ true → with_sum a s ≡ laid a weight word s
unfolding laid
laid_again a weight word s h = rw h refl

-- ---- a term laid into lists of which n words are searched, where the place is known
module _ (a : Adding) (weight word s n : ℕ) (room : a.full ≡ false) (wide : length a.words ≡ most_terms) (e : n ≡ min a.count most_terms) where
  cut : length (take n a.words) ≡ n
  cut = grind (arith, common_steps)

  module _ (k : ℕ) (h : k < length (take n a.words)) (is : get_or (take n a.words) k 0 ≡ word) (f : (j : ℕ) → j < k → get_or (take n a.words) j 0 ≢ word) where
    q : first_of word (take n a.words) ≡ k
    q = first_found word (take n a.words) k h is f

    inside : ltb k n ≡ true
    inside = grind (arith, nat_tests, cut)

    pub laid_heavy : most_total - get_or a.weights k 0 < weight → with_sum a s ≡ laid a weight word s
    unfolding laid
    laid_heavy l =
        let t : ltb (most_total - get_or a.weights k 0) weight ≡ true = grind (arith, nat_tests) in
        rw (room, ← e, q, inside, t) refl

    pub laid_raised : weight ≤ most_total - get_or a.weights k 0 → with_terms a (set a.weights k (get_or a.weights k 0 + weight)) a.words a.count s a.full ≡ laid a weight word s
    unfolding laid
    laid_raised l =
        let t : ltb (most_total - get_or a.weights k 0) weight ≡ false = grind (arith, nat_tests) in
        rw (room, ← e, q, inside, t) refl

  module _ (f : (j : ℕ) → j < length (take n a.words) → get_or (take n a.words) j 0 ≢ word) where
    past : first_of word (take n a.words) ≡ n
    past = first_missing word (take n a.words) f ∙ cut

    outside : ltb n n ≡ false
    outside = grind (arith, nat_tests)

    pub laid_behind : n < most_terms → with_terms a (set a.weights n weight) (set a.words n word) (n + 1) s a.full ≡ laid a weight word s
    unfolding laid
    laid_behind l =
        let t : ltb n most_terms ≡ true = grind (arith, nat_tests) in
        rw (room, ← e, past, outside, t) refl

    pub laid_full : most_terms ≤ n → with_terms a a.weights a.words a.count s true ≡ laid a weight word s
    unfolding laid
    laid_full l =
        let t : ltb n most_terms ≡ false = grind (arith, nat_tests) in
        rw (room, ← e, past, outside, t) refl
