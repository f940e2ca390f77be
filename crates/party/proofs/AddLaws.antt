-- The model's `add`, refusal by refusal. Assumes nothing.
use Rattle.std.proofs.Common.{◌≡◌, ◌<◌, ◌≤◌, ◌∙◌, sym, ℕ, suc, ◌+◌, ◌-◌, ◌^◌, Bool, true, false, cond, List, [], ◌∷◌, ◌++◌, refl, ap, length, map, take, drop, get_or, arith, zero-add, Some, None, ltb, leb}
use Rattle.std.specs.Prelude.{◌&&◌, position}
use Rattle.std.specs.List.{position_or_len}
use Rattle.std.proofs.lemmas.Bool.Decides.{nat_tests}
use Rattle.std.proofs.lemmas.Grind.{common_steps}
use Rattle.std.proofs.lemmas.List.Recursion.{is_position_or_len}
use Rattle.std.proofs.lemmas.List.Sums.{position_or_len_is}
use Rattle.std.proofs.lemmas.List.Edits.{sets, sets-eq}
use Rattle.model.specs.Limits.{greatest, in_range, most_terms, most_total}
use Rattle.model.specs.Logic as logic
use Rattle.model.specs.Logic.{is_lit, variable}
use Rattle.model.specs.Words.{connection, connection_of, is_literal, lit_of}
use Rattle.model.specs.Buckets.{Pending}
use Rattle.model.specs.Machine.{Party, add_all, add_to, pending, pending_of, total_of, weighed, weights_of, words_of}
use Rattle.model.specs.Damage.{party_damaged}
use Rattle.model.specs.Replies.{accepted, bad_term, sum_too_large, pending_full, damaged}
use Rattle.model.specs.Calls.{add, added, is_bad_term, first_bad_term, with_pending}
use Rattle.literal.specs.declared.Term.{Term}
use Rattle.party.specs.Laying.{added_each, IsLaid, pending_term, term_of, total_weight}
use Rattle.party.proofs.EachLaws.{at_most_each}
use Rattle.party.proofs.LayingLaws.{length-pending_of}

module _ (ts : List logic.Term) (p : Party) where
  pub add_damaged : party_damaged p ≡ true → add ts p ≡ added damaged p
  unfolding add
  add_damaged e = rw e refl

  module _ (sound : party_damaged p ≡ false) where
    pub add_bad : (k : ℕ) → first_bad_term p.given.first ts ≡ k → k < length ts → add ts p ≡ added (bad_term k) p
    unfolding add
    add_bad k e h = let t : ltb k (length ts) ≡ true = grind (arith, nat_tests) in rw (sound, e, t) refl

    module _ (good : length ts ≤ first_bad_term p.given.first ts) where
      no_bad : ltb (first_bad_term p.given.first ts) (length ts) ≡ false
      no_bad = grind (arith, nat_tests)

      pub add_large : most_total < total_of p + logic.total ts → add ts p ≡ added sum_too_large p
      unfolding add
      add_large h = let t : ltb most_total (total_of p + logic.total ts) ≡ true = grind (arith, nat_tests) in rw (sound, no_bad, t) refl

      module _ (fits : total_of p + logic.total ts ≤ most_total) where
        in_total : ltb most_total (total_of p + logic.total ts) ≡ false
        in_total = grind (arith, nat_tests)

        pub add_full : most_terms < length (add_all ts (pending p)) → add ts p ≡ added pending_full p
        unfolding add
        add_full h = let t : ltb most_terms (length (add_all ts (pending p))) ≡ true = grind (arith, nat_tests) in rw (sound, no_bad, in_total, t) refl

        pub add_accepted : length (add_all ts (pending p)) ≤ most_terms → add ts p ≡ added accepted (with_pending (add_all ts (pending p)) p)
        unfolding add
        add_accepted h = let t : ltb most_terms (length (add_all ts (pending p))) ≡ false = grind (arith, nat_tests) in rw (sound, no_bad, in_total, t) refl

-- ---- the code's words for the model's
pub first_by_place : (F : ℕ) (ts : List Term) → first_bad_term F (map term_of ts) ≡ position_or_len (λ t. is_bad_term F (term_of t)) ts
first_by_place F =
    is_position_or_len (λ xs. first_bad_term F (map term_of xs)) (λ t. is_bad_term F (term_of t)) refl
    (λ t xs. let e : suc (first_bad_term F (map term_of xs)) ≡ 1 + first_bad_term F (map term_of xs) = omega arith in ap (λ n. cond (is_bad_term F (term_of t)) 0 n) e)

place_by : (q : Bool) (n k : ℕ) → (cond q (Some n) None ≡ Some k) → (q ≡ true) × (n ≡ k)
place_by true n k e = (refl, cc)
place_by false n k e = cc

none_by : (q : Bool) (n : ℕ) → (cond q (Some n) None ≡ None) → q ≡ false
none_by true n e = cc
none_by false n e = refl

-- a search by place, at its end
module _ {X : Type 0} (p : X → Bool) (xs : List X) (i : ℕ) (d : X) where
  pub found_at : i < length xs → ((k : ℕ) → k < i → p (get_or xs k d) ≡ false) → p (get_or xs i d) ≡ true → Some i ≡ position p xs
  found_at h before here =
      let place : position_or_len p xs ≡ i = position_or_len_is p xs i d (omega arith) before (λ _. here) in
      let inside : ltb i (length xs) ≡ true = grind (arith, nat_tests) in
      rw (place, inside) refl

  pub none_found : length xs ≤ i → ((k : ℕ) → k < i → p (get_or xs k d) ≡ false) → None ≡ position p xs
  none_found h before =
      let place : position_or_len p xs ≡ length xs = position_or_len_is p xs (length xs) d (omega arith) (λ k l. before k (omega arith)) (λ l. absurd (omega arith)) in
      let past : ltb (length xs) (length xs) ≡ false = grind (arith, nat_tests) in
      rw (place, past) refl

pub bad_at : (F : ℕ) (ts : List Term) (k : ℕ) → position (λ t. is_bad_term F (term_of t)) ts ≡ Some k → (first_bad_term F (map term_of ts) ≡ k) × (k < length (map term_of ts))
bad_at F ts k e =
    let h = place_by (ltb (position_or_len (λ t. is_bad_term F (term_of t)) ts) (length ts)) _ k e in
    (first_by_place F ts ∙ h.1, grind (arith, nat_tests, common_steps, h.0, h.1))

pub none_bad : (F : ℕ) (ts : List Term) → position (λ t. is_bad_term F (term_of t)) ts ≡ None → length (map term_of ts) ≤ first_bad_term F (map term_of ts)
none_bad F ts e =
    let h = none_by (ltb (position_or_len (λ t. is_bad_term F (term_of t)) ts) (length ts)) _ e in
    rw (first_by_place F ts) (grind (arith, nat_tests, common_steps, h))

pub total-map : (ts : List Term) → logic.total (map term_of ts) ≡ total_weight ts
unfolding logic.total
total-map [] = refl
total-map (t ∷ ts) = ap (λ n. t.weight + n) (total-map ts)

-- a term that is not bad has its literal's connection word
good_word : (F : ℕ) (t : Term) → F ≤ greatest → is_bad_term F (term_of t) ≡ false → connection (lit_of t.literal) ≡ connection_of t.literal
unfolding is_bad_term connection_of is_literal is_lit in_range
good_word F t h e =
    let r : (leb 1 (variable (lit_of t.literal)) && leb (variable (lit_of t.literal)) greatest) ≡ true = grind (arith, nat_tests) in
    rw r refl

good_by : (F : ℕ) (t : Term) (ts : List Term) (q : Bool) → is_bad_term F (term_of t) ≡ q → suc (length (map term_of ts)) ≤ cond q 0 (suc (first_bad_term F (map term_of ts))) → (is_bad_term F (term_of t) ≡ false) × (length (map term_of ts) ≤ first_bad_term F (map term_of ts))
good_by F t ts true e h = absurd (omega arith)
good_by F t ts false e h = (e, omega arith)

pub add_all-map : (F : ℕ) (ts : List Term) (ps : List Pending) → F ≤ greatest → length (map term_of ts) ≤ first_bad_term F (map term_of ts) → add_all (map term_of ts) ps ≡ added_each ts ps
unfolding Rattle.model.specs.Machine.as_pending
add_all-map F [] ps h g = refl
add_all-map F (t ∷ ts) ps h g =
    let k = good_by F t ts (is_bad_term F (term_of t)) refl g in
    ap (λ w. add_all (map term_of ts) (add_to (record { weight = t.weight; word = w }) ps)) (good_word F t h k.0) ∙ add_all-map F ts (add_to (pending_term t) ps) h k.1

-- ---- the words of the pending terms
words_back : (ws xs : List ℕ) → length ws ≡ length xs → words_of (pending_of ws xs) ≡ xs
unfolding pending_of
words_back [] [] e = refl
words_back [] (x ∷ xs) e = absurd (omega arith)
words_back (w ∷ ws) [] e = absurd (omega arith)
words_back (w ∷ ws) (x ∷ xs) e = ap (λ l. x ∷ l) (words_back ws xs (omega arith))

weights_back : (ws xs : List ℕ) → length ws ≡ length xs → weights_of (pending_of ws xs) ≡ ws
unfolding pending_of
weights_back [] [] e = refl
weights_back [] (x ∷ xs) e = absurd (omega arith)
weights_back (w ∷ ws) [] e = absurd (omega arith)
weights_back (w ∷ ws) (x ∷ xs) e = ap (λ l. w ∷ l) (weights_back ws xs (omega arith))

-- ---- the two arrays afterwards
whole : (xs ys zs : List ℕ) (n : ℕ) → n ≤ length ys → n ≤ length xs → take n ys ≡ zs → drop n ys ≡ drop n xs → ys ≡ sets xs 0 zs
whole xs ys zs n h g e f =
    let long : length zs ≡ n = grind (arith, common_steps, e) in
    let parts : sets xs 0 zs ≡ [] ++ zs ++ drop (0 + length zs) xs = sets-eq zs xs 0 (omega arith) in
    let cut : ys ≡ take n ys ++ drop n ys = grind (arith, common_steps) in
    cut ∙ (rw (e, f, parts, zero-add, long) refl)

pub weights_whole : (W X W' X' : List ℕ) (ps : List Pending) (n : ℕ) → n ≤ length W → n ≤ length W' → n ≤ length X' → pending_of (take n W') (take n X') ≡ ps → drop n W' ≡ drop n W → W' ≡ sets W 0 (weights_of ps)
weights_whole W X W' X' ps n a b c e f =
    let same : length (take n W') ≡ length (take n X') = grind (arith, common_steps) in
    whole W W' (weights_of ps) n b a (sym (weights_back (take n W') (take n X') same) ∙ ap weights_of e) f

pub words_whole : (X W' X' : List ℕ) (ps : List Pending) (n : ℕ) → n ≤ length X → n ≤ length W' → n ≤ length X' → pending_of (take n W') (take n X') ≡ ps → drop n X' ≡ drop n X → X' ≡ sets X 0 (words_of ps)
words_whole X W' X' ps n a b c e f =
    let same : length (take n W') ≡ length (take n X') = grind (arith, common_steps) in
    whole X X' (words_of ps) n c a (sym (words_back (take n W') (take n X') same) ∙ ap words_of e) f

-- ---- the model's words for the slices that the code hands on
pub total_of-weighed : (p : Party) → total_of p ≡ p.structure.built + weighed (pending_of (take p.terms.count p.terms.weights) (take p.terms.count p.terms.words))
unfolding total_of pending
total_of-weighed p = refl

pub all_by_each : (p : Party) (ts : List Term) → p.given.first ≤ greatest → length (map term_of ts) ≤ first_bad_term p.given.first (map term_of ts)
    → add_all (map term_of ts) (pending p) ≡ added_each ts (pending_of (take p.terms.count p.terms.weights) (take p.terms.count p.terms.words))
unfolding pending
all_by_each p ts h g = add_all-map p.given.first ts (pending_of (take p.terms.count p.terms.weights) (take p.terms.count p.terms.words)) h g

-- how the tests of the code read, in one place: what is known of a state that is not damaged, whose terms are good
pub record Ready (p : Party) (ts : List Term) : Type 0 where
  pub weights_long : length p.terms.weights ≡ 128
  pub words_long : length p.terms.words ≡ 128
  pub counted : p.terms.count ≤ 128
  pub within : total_of p ≤ most_total
  pub known : p.given.first ≤ greatest
  pub sound : party_damaged p ≡ false
  pub good : length (map term_of ts) ≤ first_bad_term p.given.first (map term_of ts)

pub ready : (p : Party) (ts : List Term) → length p.terms.weights ≡ 128 → length p.terms.words ≡ 128 → false ≡ party_damaged p → (p.terms.count ≤ 128) × (total_of p ≤ most_total) × (p.given.first ≤ greatest)
    → None ≡ position (λ t. is_bad_term p.given.first (term_of t)) ts → Ready p ts
ready p ts a b d w n = record { weights_long = a; words_long = b; counted = w.0; within = w.1; known = w.2; sound = sym d; good = none_bad p.given.first ts (sym n) }

-- the same from what the code knows of the encoder's value q, and the total that it worked out
pub here : (p q : Party) → p ≡ q → (ts : List Term) (t : ℕ) → t ≡ total_of q → (length q.terms.weights ≡ 128) × (length q.terms.words ≡ 128) → false ≡ party_damaged q
    → (q.terms.count ≤ 128) × (total_of q ≤ most_total) × (q.given.first ≤ greatest) → None ≡ position (λ u. is_bad_term p.given.first (term_of u)) ts → Ready p ts × (t ≡ total_of p)
here p q v ts t e a d w n = (ready p ts (rw v a.0) (rw v a.1) (rw v d) (rw v w) n, rw v e)

module _ (p : Party) (ts : List Term) (r : Ready p ts) where
  pub total_fits : total_of p ≤ most_total
  total_fits = r.within

  same_total : total_of p + logic.total (map term_of ts) ≡ total_of p + total_weight ts
  same_total = omega (arith, total-map ts)

  each : add_all (map term_of ts) (pending p) ≡ added_each ts (pending_of (take p.terms.count p.terms.weights) (take p.terms.count p.terms.words))
  each = all_by_each p ts r.known r.good

  pub surely : length ts ≤ 128 - p.terms.count → length (added_each ts (pending_of (take p.terms.count p.terms.weights) (take p.terms.count p.terms.words))) ≤ 128
  surely h =
      let long : length (pending_of (take p.terms.count p.terms.weights) (take p.terms.count p.terms.words)) ≡ p.terms.count =
      length-pending_of p.terms.weights p.terms.words p.terms.count (omega (arith, r.counted, r.weights_long)) (omega (arith, r.counted, r.words_long)) in
      omega (arith, h, long, r.counted, at_most_each ts (pending_of (take p.terms.count p.terms.weights) (take p.terms.count p.terms.words)))

  pub too_large : false ≡ leb (total_of p + total_weight ts) most_total → add (map term_of ts) p ≡ added sum_too_large p
  too_large e = let h : most_total < total_of p + total_weight ts = grind (arith, nat_tests) in add_large (map term_of ts) p r.sound r.good (omega (arith, same_total))

  module _ (fits : true ≡ leb (total_of p + total_weight ts) most_total) where
    in_limit : total_of p + logic.total (map term_of ts) ≤ most_total
    in_limit = let h : total_of p + total_weight ts ≤ most_total = grind (arith, nat_tests) in omega (arith, same_total)

    pub too_many : 128 < length (added_each ts (pending_of (take p.terms.count p.terms.weights) (take p.terms.count p.terms.words))) → add (map term_of ts) p ≡ added pending_full p
    too_many h = add_full (map term_of ts) p r.sound r.good in_limit (rw each h)

    pub weights_fit : weighed (pending_of (take p.terms.count p.terms.weights) (take p.terms.count p.terms.words)) + total_weight ts < 2 ^ 32
    weights_fit = omega (arith, in_limit, total-map ts, total_of-weighed p)

    pub all_added : (W' X' : List ℕ) (n : ℕ) → length W' ≡ 128 → length X' ≡ 128 → n ≤ 128 → IsLaid p.terms.weights p.terms.words W' X' n (added_each ts (pending_of (take p.terms.count p.terms.weights) (take p.terms.count p.terms.words)))
        → add (map term_of ts) p ≡ added accepted (record p { terms = record { weights = W'; words = X'; count = n } })
    unfolding with_pending
    all_added W' X' n a b m l =
        let w : W' ≡ sets p.terms.weights 0 (weights_of (add_all (map term_of ts) (pending p))) = rw each (weights_whole p.terms.weights p.terms.words W' X' _ n (omega (arith, r.weights_long)) (omega arith) (omega arith) l.laid l.weights_behind) in
        let x : X' ≡ sets p.terms.words 0 (words_of (add_all (map term_of ts) (pending p))) = rw each (words_whole p.terms.words W' X' _ n (omega (arith, r.words_long)) (omega arith) (omega arith) l.laid l.words_behind) in
        let k : n ≡ length (add_all (map term_of ts) (pending p)) = rw each l.counted in
        rw (w, x, k) (add_accepted (map term_of ts) p r.sound r.good in_limit (omega (arith, k, m)))
