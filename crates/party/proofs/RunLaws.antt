-- A run of additions, folded over a list of terms, comes to the model's `add` of that list. Assumes nothing.
use Rattle.std.proofs.Common.{◌≡◌, ◌≢◌, ◌<◌, ◌≤◌, ◌∙◌, sym, ℕ, suc, ◌+◌, ◌-◌, Bool, true, false, List, [], ◌∷◌, refl, ap, length, map, take, set, get_or, arith, true≢false, ltb, leb}
use Rattle.std.specs.Prelude.{min}
use Rattle.std.proofs.lemmas.Bool.Decides.{nat_tests}
use Rattle.std.proofs.lemmas.Grind.{common_steps}
use Rattle.model.specs.Limits.{greatest, most_terms, most_total}
use Rattle.model.specs.Words.{connection_of}
use Rattle.model.specs.Buckets.{Pending}
use Rattle.model.specs.Machine.{Party, add_to, pending_of, total_of, weighed}
use Rattle.model.specs.Damage.{party_damaged}
use Rattle.model.specs.Replies.{accepted, bad_term, sum_too_large, pending_full}
use Rattle.model.specs.Calls.{add, added, is_bad_term, first_bad_term}
use Rattle.literal.specs.declared.Term.{Term}
use Rattle.party.specs.declared.adding.Adding.{Adding}
use Rattle.party.specs.Adding.{begin_of, first_of, laid, step_all, step_of, with_place, with_sum}
use Rattle.party.specs.Laying.{added_each, IsLaid, pending_term, term_of, total_weight}
use Rattle.party.proofs.AddLaws.{add_bad, all_added, Ready, too_large, too_many, total_of-weighed}
use Rattle.party.proofs.EachLaws.{drop_further, longer, weighed-add_to}
use Rattle.party.proofs.LayingLaws.{appended, grown, length-pending_of, raised, weight_within}
use Rattle.party.proofs.PlaceLaws.{at_place, before_place, laid_again, laid_behind, laid_full, laid_raised}

-- ---- one step, on each way that it takes
module _ (a : Adding) (t : Term) (i : ℕ) where
  pub ended : a.bad ≡ true → step_of a t i ≡ a
  unfolding step_of
  ended h = rw h refl

  module _ (h : a.bad ≡ false) where
    pub stops : is_bad_term a.first (term_of t) ≡ true → step_of a t i ≡ with_place a i
    unfolding step_of
    stops e = rw (h, e) refl

    module _ (e : is_bad_term a.first (term_of t) ≡ false) where
      pub stays : most_total < a.sum → step_of a t i ≡ a
      unfolding step_of
      stays l = let q : ltb most_total a.sum ≡ true = grind (arith, nat_tests) in rw (h, e, q) refl

      module _ (l : a.sum ≤ most_total) where
        q : ltb most_total a.sum ≡ false
        q = grind (arith, nat_tests)

        pub passes : (s : ℕ) → s ≡ a.sum + t.weight → most_total < s → step_of a t i ≡ with_sum a s
        unfolding step_of
        passes s is m = let r : ltb most_total (a.sum + t.weight) ≡ true = grind (arith, nat_tests) in rw (h, e, q, r, ← is) refl

        pub lays : a.sum + t.weight ≤ most_total → step_of a t i ≡ laid a t.weight (connection_of t.literal) (a.sum + t.weight)
        unfolding step_of
        lays m = let r : ltb most_total (a.sum + t.weight) ≡ false = grind (arith, nat_tests) in rw (h, e, q, r) refl

        pub lays_at : (s : ℕ) → s ≡ a.sum + t.weight → s ≤ most_total → (w : ℕ) → w ≡ connection_of t.literal → laid (with_sum a s) t.weight w s ≡ step_of a t i
        unfolding laid
        lays_at s is m w word = rw (is, word) (sym (lays (omega (arith, is, m))))

-- ---- what a run holds
-- the lists hold the terms, and behind them what stood there
pub record Lies (W X : List ℕ) (a : Adding) (ps : List Pending) : Type 0 where
  pub weights_long : length a.weights ≡ most_terms
  pub words_long : length a.words ≡ most_terms
  pub few : a.count ≤ most_terms
  pub lies : IsLaid W X a.weights a.words a.count ps

-- what a run without a bad term holds, where ps are the pending terms by now and S is the total
pub record Held (F : ℕ) (W X : List ℕ) (a : Adding) (ps : List Pending) (S : ℕ) : Type 0 where
  pub first : a.first ≡ F
  pub good : a.bad ≡ false
  pub weight : weighed ps ≤ S
  pub within : a.sum ≤ most_total → a.sum ≡ S
  pub over : most_total < a.sum → most_total < S
  pub full : a.sum ≤ most_total → a.full ≡ true → most_terms < length ps
  pub lies : a.sum ≤ most_total → a.full ≡ false → Lies W X a ps

-- laid once and once more
further : (W X V Y V' Y' : List ℕ) (n m : ℕ) (ps qs rs : List Pending) → n ≤ m → IsLaid W X V Y n ps → IsLaid V Y V' Y' m qs → qs ≡ rs → IsLaid W X V' Y' m rs
further W X V Y V' Y' n m ps qs rs h a b e = record {
  counted = b.counted ∙ ap length e;
  laid = b.laid ∙ e;
  weights_behind = b.weights_behind ∙ drop_further V W n m h a.weights_behind;
  words_behind = b.words_behind ∙ drop_further Y X n m h a.words_behind;
}

module _ (F : ℕ) (W X : List ℕ) (a : Adding) (t : Pending) (ps : List Pending) (S : ℕ) where
  -- a term more, where the total passes its limit or has passed it
  lost : (r : Adding) → r.first ≡ F → r.bad ≡ false → weighed ps ≤ S → most_total < r.sum → most_total < S + t.weight → Held F W X r (add_to t ps) (S + t.weight)
  lost r e f w g h = record {
    first = e;
    good = f;
    weight = omega (arith, weighed-add_to t ps);
    within = λ k. absurd (omega (arith, k));
    over = λ k. h;
    full = λ k l. absurd (omega (arith, k));
    lies = λ k l. absurd (omega (arith, k));
  }

  -- one within it
  module _ (h : Held F W X a ps S) (small : a.sum + t.weight ≤ most_total) where
    same : a.sum ≡ S
    same = h.within (omega arith)

    kept : (r : Adding) → r.first ≡ F → r.bad ≡ false → r.sum ≡ a.sum + t.weight → (r.full ≡ true → most_terms < length (add_to t ps)) → (r.full ≡ false → Lies W X r (add_to t ps))
        → Held F W X r (add_to t ps) (S + t.weight)
    kept r e f g p q = record {
      first = e;
      good = f;
      weight = omega (arith, weighed-add_to t ps, h.weight);
      within = λ k. omega (arith, same, g);
      over = λ k. omega (arith, same, g);
      full = λ k. p;
      lies = λ k. q;
    }

    module _ (o : a.full ≡ false) (l : Lies W X a ps) where
      never : {A : Type 0} → a.full ≡ true → A
      never k = absurd (true≢false (sym k ∙ o))

      long : length (take a.count a.words) ≡ a.count
      long = grind (arith, common_steps, l.few, l.words_long)

      searched : a.count ≡ min a.count most_terms
      searched = omega (arith, l.few)

      listed : pending_of (take a.count a.weights) (take a.count a.words) ≡ ps
      listed = l.lies.laid

      more : add_to t (pending_of (take a.count a.weights) (take a.count a.words)) ≡ add_to t ps
      more = ap (add_to t) listed

      there : first_of t.word (take a.count a.words) < length (take a.count a.words) → Held F W X (laid a t.weight t.word (a.sum + t.weight)) (add_to t ps) (S + t.weight)
      there m =
          let place : ℕ = first_of t.word (take a.count a.words) in
          let word : get_or (take a.count a.words) place 0 ≡ t.word = at_place t.word (take a.count a.words) m in
          let before : (j : ℕ) → j < place → get_or (take a.count a.words) j 0 ≢ t.word = before_place t.word (take a.count a.words) in
          let known : get_or a.weights place 0 ≤ weighed ps = rw (← listed) (weight_within a.weights a.words a.count place (omega (arith, l.few, l.weights_long)) (omega (arith, l.few, l.words_long)) (omega (arith, m, long))) in
          let light : t.weight ≤ most_total - get_or a.weights place 0 = omega (arith, known, h.weight, same, small) in
          let once : IsLaid a.weights a.words (set a.weights place (get_or a.weights place 0 + t.weight)) a.words a.count (add_to t (pending_of (take a.count a.weights) (take a.count a.words))) =
          raised a.weights a.words a.count t.weight t.word (omega (arith, l.few, l.weights_long)) (omega (arith, l.few, l.words_long)) place m word before in
          let wide : length (set a.weights place (get_or a.weights place 0 + t.weight)) ≡ most_terms = grind (arith, common_steps, l.weights_long) in
          rw (← laid_raised a t.weight t.word (a.sum + t.weight) a.count o l.words_long searched place m word before light)
          (kept _ h.first h.good refl never (λ _. record { weights_long = wide; words_long = l.words_long; few = l.few; lies = further W X a.weights a.words _ _ a.count a.count ps _ _ (omega arith) l.lies once more }))

      module _ (m : length (take a.count a.words) ≤ first_of t.word (take a.count a.words)) where
        missing : (j : ℕ) → j < length (take a.count a.words) → get_or (take a.count a.words) j 0 ≢ t.word
        missing j n = before_place t.word (take a.count a.words) j (omega (arith, n, m))

        behind : a.count < most_terms → Held F W X (laid a t.weight t.word (a.sum + t.weight)) (add_to t ps) (S + t.weight)
        behind n =
            let once : IsLaid a.weights a.words (set a.weights a.count t.weight) (set a.words a.count t.word) (a.count + 1) (add_to t (pending_of (take a.count a.weights) (take a.count a.words))) =
            appended a.weights a.words a.count t.weight t.word (omega (arith, l.few, l.weights_long)) (omega (arith, l.few, l.words_long)) missing (omega (arith, n, l.weights_long)) (omega (arith, n, l.words_long)) in
            let wide : length (set a.weights a.count t.weight) ≡ most_terms = grind (arith, common_steps, l.weights_long) in
            let far : length (set a.words a.count t.word) ≡ most_terms = grind (arith, common_steps, l.words_long) in
            rw (← laid_behind a t.weight t.word (a.sum + t.weight) a.count o l.words_long searched missing n)
            (kept _ h.first h.good refl never (λ _. record { weights_long = wide; words_long = far; few = omega (arith, n); lies = further W X a.weights a.words _ _ a.count (a.count + 1) ps _ _ (omega arith) l.lies once more }))

        no_room : most_terms ≤ a.count → Held F W X (laid a t.weight t.word (a.sum + t.weight)) (add_to t ps) (S + t.weight)
        no_room n =
            let longer-now : length (add_to t (pending_of (take a.count a.weights) (take a.count a.words))) ≡ a.count + 1 =
            grown a.weights a.words a.count t.weight t.word (omega (arith, l.few, l.weights_long)) (omega (arith, l.few, l.words_long)) missing in
            rw (← laid_full a t.weight t.word (a.sum + t.weight) a.count o l.words_long searched missing n)
            (kept _ h.first h.good refl (λ _. omega (arith, n, longer-now, ap length more)) (λ y. absurd (true≢false y)))

      laid_open : (q r : Bool) → ltb (first_of t.word (take a.count a.words)) (length (take a.count a.words)) ≡ q → ltb a.count most_terms ≡ r
          → Held F W X (laid a t.weight t.word (a.sum + t.weight)) (add_to t ps) (S + t.weight)
      laid_open true r e g = there (grind (arith, nat_tests))
      laid_open false true e g = behind (grind (arith, nat_tests)) (grind (arith, nat_tests))
      laid_open false false e g = no_room (grind (arith, nat_tests)) (grind (arith, nat_tests))

    laid_held : (q : Bool) → a.full ≡ q → Held F W X (laid a t.weight t.word (a.sum + t.weight)) (add_to t ps) (S + t.weight)
    laid_held true o =
        let n : most_terms < length ps = h.full (omega arith) o in
        rw (← laid_again a t.weight t.word (a.sum + t.weight) o)
        (kept _ h.first h.good refl (λ _. omega (arith, n, longer t ps)) (λ y. absurd (true≢false (sym o ∙ y))))
    laid_held false o = laid_open o (h.lies (omega arith) o) _ _ refl refl

-- ---- what a whole run comes to: the place of the first bad term, or what is held then
pub record Outcome (F : ℕ) (W X : List ℕ) (ts : List Term) (i : ℕ) (r : Adding) (ps : List Pending) (S : ℕ) : Type 0 where
  pub bad : r.bad ≡ true → (first_bad_term F (map term_of ts) < length (map term_of ts)) × (r.place ≡ i + first_bad_term F (map term_of ts))
  pub good : r.bad ≡ false → (length (map term_of ts) ≤ first_bad_term F (map term_of ts)) × Held F W X r (added_each ts ps) (S + total_weight ts)

all_ended : (a : Adding) (ts : List Term) (i : ℕ) → a.bad ≡ true → step_all a ts i ≡ a
unfolding step_all
all_ended a [] i h = refl
all_ended a (t ∷ ts) i h = rw (ended a t i h) (all_ended a ts (suc i) h)

module _ (F : ℕ) (W X : List ℕ) where
  module _ (a : Adding) (t : Term) (i : ℕ) (ps : List Pending) (S : ℕ) (h : Held F W X a ps S) where
    first_is : is_bad_term a.first (term_of t) ≡ is_bad_term F (term_of t)
    first_is = ap (λ f. is_bad_term f (term_of t)) h.first

    step_by : is_bad_term F (term_of t) ≡ false → (q r : Bool) → ltb most_total a.sum ≡ q → ltb most_total (a.sum + t.weight) ≡ r → Held F W X (step_of a t i) (add_to (pending_term t) ps) (S + t.weight)
    step_by e true r c d =
        let k : most_total < a.sum = grind (arith, nat_tests) in
        rw (stays a t i h.good (first_is ∙ e) k) (lost F W X a (pending_term t) ps S a h.first h.good h.weight k (omega (arith, h.over k)))
    step_by e false true c d =
        let k : a.sum ≤ most_total = grind (arith, nat_tests) in
        let l : most_total < a.sum + t.weight = grind (arith, nat_tests) in
        rw (passes a t i h.good (first_is ∙ e) k (a.sum + t.weight) refl l) (lost F W X a (pending_term t) ps S (with_sum a (a.sum + t.weight)) h.first h.good h.weight l (omega (arith, l, h.within k)))
    step_by e false false c d =
        let k : a.sum ≤ most_total = grind (arith, nat_tests) in
        let l : a.sum + t.weight ≤ most_total = grind (arith, nat_tests) in
        rw (lays a t i h.good (first_is ∙ e) k l) (laid_held F W X a (pending_term t) ps S h l a.full refl)

    run_on : (ts : List Term)
        → (Held F W X (step_of a t i) (add_to (pending_term t) ps) (S + t.weight) → Outcome F W X ts (suc i) (step_all (step_of a t i) ts (suc i)) (add_to (pending_term t) ps) (S + t.weight))
        → (q : Bool) → is_bad_term F (term_of t) ≡ q → Outcome F W X (t ∷ ts) i (step_all (step_of a t i) ts (suc i)) ps S
    run_on ts ih true e =
        let n : first_bad_term F (map term_of (t ∷ ts)) ≡ 0 = rw e refl in
        let z : step_all (step_of a t i) ts (suc i) ≡ with_place a i = rw (stops a t i h.good (first_is ∙ e)) (all_ended (with_place a i) ts (suc i) refl) in
        rw z (record { bad = λ k. (omega (arith, n), omega (arith, n)); good = λ k. absurd (true≢false k) })
    run_on ts ih false e =
        let o = ih (step_by e _ _ refl refl) in
        let n : first_bad_term F (map term_of (t ∷ ts)) ≡ suc (first_bad_term F (map term_of ts)) = rw e refl in
        let s : S + t.weight + total_weight ts ≡ S + total_weight (t ∷ ts) = omega arith in
        record {
          bad = λ k. (omega (arith, n, (o.bad k).0), omega (arith, n, (o.bad k).1));
          good = λ k. (omega (arith, n, (o.good k).0), rw (← s) (o.good k).1);
        }

  run : (ts : List Term) (a : Adding) (i : ℕ) (ps : List Pending) (S : ℕ) → Held F W X a ps S → Outcome F W X ts i (step_all a ts i) ps S
  unfolding step_all
  run [] a i ps S h = let s : S + 0 ≡ S = omega arith in record { bad = λ k. absurd (true≢false (sym k ∙ h.good)); good = λ k. (omega arith, rw s h) }
  run (t ∷ ts) a i ps S h = run_on a t i ps S h ts (run ts (step_of a t i) (suc i) (add_to (pending_term t) ps) (S + t.weight)) _ refl

-- ---- the answer to a run from an encoder that is not damaged
module _ (p : Party) (a : Adding) (ts : List Term) (wide : (length p.terms.weights ≡ 128) × (length p.terms.words ≡ 128)) (sound : party_damaged p ≡ false)
    (known : (p.terms.count ≤ 128) × (total_of p ≤ most_total) × (p.given.first ≤ greatest)) (e : a ≡ step_all (begin_of p) ts 0) where
  begins : Held p.given.first p.terms.weights p.terms.words (begin_of p) (pending_of (take p.terms.count p.terms.weights) (take p.terms.count p.terms.words)) (total_of p)
  unfolding begin_of
  begins = record {
    first = refl;
    good = refl;
    weight = omega (arith, total_of-weighed p);
    within = λ _. refl;
    over = λ h. h;
    full = λ _ h. absurd (true≢false (sym h));
    lies = λ _ _. record {
      weights_long = wide.0;
      words_long = wide.1;
      few = known.0;
      lies = record { counted = sym (length-pending_of p.terms.weights p.terms.words p.terms.count (omega (arith, known.0, wide.0)) (omega (arith, known.0, wide.1))); laid = refl; weights_behind = refl; words_behind = refl };
    };
  }

  outcome : Outcome p.given.first p.terms.weights p.terms.words ts 0 a (pending_of (take p.terms.count p.terms.weights) (take p.terms.count p.terms.words)) (total_of p)
  outcome = rw e (run p.given.first p.terms.weights p.terms.words ts (begin_of p) 0 _ _ begins)

  pub one_bad : a.bad ≡ true → add (map term_of ts) p ≡ added (bad_term a.place) p
  one_bad h =
      let n : first_bad_term p.given.first (map term_of ts) ≡ a.place = omega (arith, (outcome.bad h).1) in
      add_bad (map term_of ts) p sound a.place n (omega (arith, n, (outcome.bad h).0))

  module _ (h : a.bad ≡ false) where
    ready : Ready p ts
    ready = record { weights_long = wide.0; words_long = wide.1; counted = known.0; within = known.1; known = known.2; sound = sound; good = (outcome.good h).0 }

    holds : Held p.given.first p.terms.weights p.terms.words a (added_each ts (pending_of (take p.terms.count p.terms.weights) (take p.terms.count p.terms.words))) (total_of p + total_weight ts)
    holds = (outcome.good h).1

    pub too_heavy : most_total < a.sum → add (map term_of ts) p ≡ added sum_too_large p
    too_heavy l = let m : most_total < total_of p + total_weight ts = holds.over l in too_large p ts ready (grind (arith, nat_tests))

    module _ (l : a.sum ≤ most_total) where
      fits : true ≡ leb (total_of p + total_weight ts) most_total
      fits = let m : total_of p + total_weight ts ≤ most_total = omega (arith, l, holds.within l) in grind (arith, nat_tests)

      pub no_place : a.full ≡ true → add (map term_of ts) p ≡ added pending_full p
      no_place m = too_many p ts ready fits (holds.full l m)

      pub all_held : a.full ≡ false → add (map term_of ts) p ≡ added accepted (record p { terms = record { weights = a.weights; words = a.words; count = a.count } })
      all_held m = let r = holds.lies l m in all_added p ts ready fits a.weights a.words a.count r.weights_long r.words_long r.few r.lies
