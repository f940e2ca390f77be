-- The questions of the asked lines, one after the other, whatever the line of a bound is. Assumes nothing.
use mathlib.Core.Path.{◌≡◌, refl, ap, ap₂, sym, ◌∙◌}
use mathlib.Core.Bool.{Bool, true, false, cond}
use mathlib.Core.List.{List, [], ◌∷◌, ◌++◌, append_assoc}
use Prim.Native.Nat.{ℕ, zero, suc, ◌+◌, ◌-◌, ◌≤◌, ◌<◌}
use native.Mathlib.Numerals.{add-one}
use native.Mathlib.Omega.{arith}
use Rattle.model.specs.Signs.{Dir}
use Rattle.model.specs.Bounds.{run}
use Rattle.model.specs.Machine.{Party}
use Rattle.model.specs.Calls.{enforce_damaged}
use Rattle.model.specs.Program as program
use Rattle.literal.specs.Kinds.{direction_of}
use Rattle.plan.specs.Read.{asked_at, asked_from, asked_of}
use Rattle.plan.specs.declared.asked.Asked.{Asked}
use Rattle.printing.specs.declared.questions.Question.{Question}
use Rattle.printing.specs.Asking.{answered, lines_for, lines_asked, lines_from, text_from, turns_from}

module _ (line : Dir → ℕ → List ℕ) where
  -- where no bound has a line
  for-silent : ((δ : Dir) (v : ℕ) → line δ v ≡ []) → (δ : Dir) (vs : List ℕ) → lines_for line δ vs ≡ []
  for-silent h δ [] = refl
  for-silent h δ (v ∷ vs) = rw (h δ v) (for-silent h δ vs)

  asked-silent : ((δ : Dir) (v : ℕ) → line δ v ≡ []) → (as' : List program.Asked) → lines_asked line as' ≡ []
  asked-silent h [] = refl
  asked-silent h (a ∷ as') = rw (for-silent h a.dir (run a.from a.many)) (asked-silent h as')

  -- over what is damaged no bound has a line, and no line is answered
  pub all-answered : (p : Party) (t : List ℕ) → (enforce_damaged p t ≡ true → (δ : Dir) (v : ℕ) → line δ v ≡ []) → (asked : List ℕ) (n : ℕ)
      → lines_asked line (asked_from asked 0 (answered p t n)) ≡ lines_asked line (asked_from asked 0 n)
  unfolding answered
  all-answered p t silent asked n = go (enforce_damaged p t) refl
    where
      go : (b : Bool) → enforce_damaged p t ≡ b → lines_asked line (asked_from asked 0 (cond b 0 n)) ≡ lines_asked line (asked_from asked 0 n)
      go true e = sym (asked-silent (silent e) (asked_from asked 0 n))
      go false e = refl

  -- from the first question of a line on
  from_start : (asked : List ℕ) (j n : ℕ) → lines_from line asked j 0 n ≡ lines_asked line (asked_from asked j n)
  from_start asked j zero = refl
  from_start asked j (suc n) =
      let a : program.Asked = asked_at asked j in
      let p : a.from + 0 ≡ a.from = omega arith in
      let q : a.many - 0 ≡ a.many = omega arith in
      ap₂ (λ (x y : ℕ). lines_for line a.dir (run x y) ++ lines_asked line (asked_from asked (suc j) n)) p q

  pub first-text : (asked : List ℕ) (n : ℕ) → text_from line asked n (record { line = 0; done = 0 }) ≡ lines_asked line (asked_from asked 0 n)
  unfolding text_from
  first-text asked n = let e : n - 0 ≡ n = omega arith in rw e (from_start asked 0 n)

  from-value : (asked : List ℕ) (j d n k : ℕ) → n ≡ suc k → d < (asked_at asked j).many
      → line (asked_at asked j).dir ((asked_at asked j).from + d) ++ lines_from line asked j (suc d) n ≡ lines_from line asked j d n
  from-value asked j d n k e h =
      let a : program.Asked = asked_at asked j in
      let q : a.many - d ≡ suc (a.many - suc d) = omega arith in
      let o : a.from + suc d ≡ suc (a.from + d) = omega arith in
      rw (e, q, o)
      (sym (append_assoc (line a.dir (a.from + d)) (lines_for line a.dir (run (suc (a.from + d)) (a.many - suc d))) (lines_asked line (asked_from asked (suc j) k))))

module _ (asked : List ℕ) (n : ℕ) (q : Question) where
  -- past the last line
  pub end-text : (line : Dir → ℕ → List ℕ) → n ≤ q.line → [] ≡ text_from line asked n q
  unfolding text_from
  end-text line h = let e : n - q.line ≡ 0 = omega arith in rw e

  module _ (h : q.line < n) (a : Asked) (e : asked_of a ≡ asked_at asked q.line) where
    one-line : n - q.line ≡ suc (n - suc q.line)
    one-line = omega arith

    -- at the end of a line
    pub line-text : (line : Dir → ℕ → List ℕ) → a.many ≤ q.done → text_from line asked n (record { line = q.line + 1; done = 0 }) ≡ text_from line asked n q
    unfolding text_from
    line-text line k =
        let m : (asked_at asked q.line).many ≡ a.many = ap (λ (x : program.Asked). x.many) (sym e) in
        let z : (asked_at asked q.line).many - q.done ≡ 0 = omega arith in
        rw (add-one q.line, one-line, z) (from_start line asked (suc q.line) (n - suc q.line))

    pub line-falls : suc (turns_from asked n (record { line = q.line + 1; done = 0 })) < suc (turns_from asked n q)
    unfolding turns_from
    line-falls = rw (add-one q.line, one-line) (omega arith)

    -- at a value
    module _ (k : q.done < a.many) where
      inside : q.done < (asked_at asked q.line).many
      inside = let m : (asked_at asked q.line).many ≡ a.many = ap (λ (x : program.Asked). x.many) (sym e) in omega arith

      pub value-text : (line : Dir → ℕ → List ℕ) → line (direction_of a.direction) (a.from + q.done) ++ text_from line asked n (record { line = q.line; done = q.done + 1 })
          ≡ text_from line asked n q
      unfolding text_from
      value-text line =
          rw (add-one q.done)
          (ap (λ (x : program.Asked). line x.dir (x.from + q.done) ++ lines_from line asked q.line (suc q.done) (n - q.line)) e
          ∙ from-value line asked q.line q.done (n - q.line) (n - suc q.line) one-line inside)

      pub value-falls : suc (turns_from asked n (record { line = q.line; done = q.done + 1 })) < suc (turns_from asked n q)
      unfolding turns_from
      value-falls = rw (add-one q.done, one-line) (omega (arith, inside))
