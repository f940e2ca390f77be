-- Words stored from a place on, and a state's parts, one behind the other, which take all of its words. Assumes nothing.
use Rattle.std.proofs.Common.{◌≡◌, refl, ◌∙◌, ap₂, ℕ, ◌+◌, ◌≤◌, ◌<◌, List, ◌++◌, arith, length, drop, set, get_or, append_assoc, append-nil, length-append, add-one, drop-cons}
use Rattle.std.proofs.lemmas.List.Edits.{sets, sets-eq}
use lib.ListN.{drop_of_length-le}
use Rattle.model.proofs.Buffer.{sets-append}
use Rattle.model.specs.Machine.{Party, Shared}
use Rattle.capi.specs.Words.{numbers_of}

-- what is left from the place i on gives the whole
module _ (source : List ℕ) (a i : ℕ) (to c : List ℕ) where
  pub put_step : i < length source → sets to (a + i) (drop i source) ≡ c → sets (set to (a + i) (get_or source i 0)) (a + (i + 1)) (drop (i + 1) source) ≡ c
  put_step h inv =
      let e : a + (i + 1) ≡ (a + i) + 1 = omega arith in
      rw (e, add-one (a + i), add-one i) (rw (drop-cons source i 0 h) at inv)

  pub put_end : length source ≤ i → sets to (a + i) (drop i source) ≡ c → to ≡ c
  put_end h inv = rw (drop_of_length-le source h) at inv

-- the numbers before the arrays
pub numbers_length : (p : Party) (s : Shared) → length (numbers_of p s) ≡ 14
unfolding numbers_of
numbers_length p s = refl

-- as many words as there are places take the places of all
put_whole : (l vs : List ℕ) → length vs ≡ length l → sets l 0 vs ≡ vs
put_whole l vs e =
    let h : 0 + length vs ≤ length l = omega arith in
    let k : 0 + length vs ≡ length l = omega arith in
    let n : length l ≤ length l = omega arith in
    sets-eq vs l 0 h ∙ rw (k, drop_of_length-le l n) (append-nil vs)

-- the words of two lists, one behind the other
put_two : (l xs ys : List ℕ) (i n : ℕ) {l₁ l₂ : List ℕ} → n ≡ i + length xs → l₁ ≡ sets l i xs → l₂ ≡ sets l₁ n ys → l₂ ≡ sets l i (xs ++ ys)
put_two l xs ys i n e e₁ e₂ = e₂ ∙ ap₂ (λ (m : List ℕ) (k : ℕ). sets m k ys) e₁ e ∙ sets-append xs ys l i

pub all_stored : (l h a b o : List ℕ) {l₁ l₂ l₃ l₄ : List ℕ} → length l ≡ 318 → length h ≡ 14 → length a ≡ 128 → length b ≡ 128 → length o ≡ 48
    → l₁ ≡ sets l 0 h → l₂ ≡ sets l₁ 14 a → l₃ ≡ sets l₂ 142 b → l₄ ≡ sets l₃ 270 o → l₄ ≡ h ++ a ++ b ++ o
all_stored l h a b o ln hn an bn on e₁ e₂ e₃ e₄ =
    let one : 14 ≡ 0 + length h = omega arith in
    let two : 142 ≡ 0 + length (h ++ a) = simp length-append (omega arith) in
    let three : 270 ≡ 0 + length ((h ++ a) ++ b) = simp length-append (omega arith) in
    let all : length (((h ++ a) ++ b) ++ o) ≡ length l = simp length-append (omega arith) in
    put_two l ((h ++ a) ++ b) o 0 270 three (put_two l (h ++ a) b 0 142 two (put_two l h a 0 14 one e₁ e₂) e₃) e₄ ∙ put_whole l (((h ++ a) ++ b) ++ o) all ∙ simp append_assoc
