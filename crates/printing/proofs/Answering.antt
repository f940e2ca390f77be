-- The word of an answer: an answered word is its literal's. Assumes nothing.
use mathlib.Core.Path.{◌≡◌, refl, ap, sym, ◌∙◌}
use mathlib.Core.Bool.{false}
use mathlib.Core.List.{List}
use Prim.Native.Nat.{ℕ, zero, suc, ◌<◌}
use native.Mathlib.Nat.{mod-eq_of_lt}
use native.Mathlib.Omega.{arith}
use lib.IntN.{ℤ, pos, negsuc, neg_ℤ}
use Rattle.std.specs.Prelude.{Result, Ok, Err, Option, Some, None}
use Rattle.std.specs.Result.{result_unwrap_or}
use Rattle.model.specs.Logic.{Lit, positive, negative, variable}
use Rattle.model.specs.Words.{word, lit_of}
use Rattle.model.specs.Signs.{Dir, if_above, only_if_above}
use Rattle.model.specs.Machine.{Party}
use Rattle.model.specs.Calls as calls
use Rattle.literal.specs.declared.Literal.{Literal}
use Rattle.literal.specs.declared.refusal.Refusal.{Refusal}
use Rattle.answers.specs.Read.{lit_in, cut_lit, cut, enforced_in, upper_answer, lower_answer}
use Rattle.answers.proofs.Questions.{ub-sound, lb-sound}
use Rattle.printing.specs.Asking.{enforced_by, word_answered, word_in}

-- the literal is one whose variable was cut to a word's 31 bits
cut_small : (l : Lit) → variable (cut_lit l) < 2147483648
unfolding variable
cut_small (positive n) = omega arith
cut_small (negative n) = omega arith

word_back : (δ : Dir) (z : ℤ) → variable (lit_in δ z) < 2147483648 → word (lit_in δ z) ≡ z
unfolding variable lit_in lit_of word
word_back if_above (pos zero) h = refl
word_back if_above (pos (suc n)) h = ap pos (mod-eq_of_lt h)
word_back if_above (negsuc n) h = ap (λ (m : ℕ). neg_ℤ (pos m)) (mod-eq_of_lt h)
word_back only_if_above (pos n) h = ap pos (mod-eq_of_lt h)
word_back only_if_above (negsuc n) h = ap (λ (m : ℕ). neg_ℤ (pos m)) (mod-eq_of_lt h)

same_word : (δ : Dir) (z : ℤ) (x : calls.Enforced) → calls.literal (lit_in δ z) ≡ cut x → word (lit_in δ z) ≡ z
same_word δ z calls.nothing e = absurd (let o : ◌≡◌ {A = ℕ} 0 1 = cc in omega arith)
same_word δ z (calls.literal l) e = let o : lit_in δ z ≡ cut_lit l = cc in word_back δ z (rw o (cut_small l))
same_word δ z (calls.refused r) e = absurd (let o : ◌≡◌ {A = ℕ} 0 1 = cc in omega arith)

answered : (δ : Dir) (r : Result (Option Literal) Refusal) (x : calls.Enforced) → enforced_in δ r ≡ cut x → word_in (result_unwrap_or r None) ≡ word_answered (enforced_in δ r)
answered δ (Ok None) x e = refl
answered δ (Ok (Some l)) x e = ap Some (sym (same_word δ l.word x e))
answered δ (Err r) x e = refl

-- what the code has of each direction: an answer without the test of damage, over what is not damaged
module _ (v : ℕ) (p : Party) (t : List ℕ) (d : calls.enforce_damaged p t ≡ false) (r : Result (Option Literal) Refusal) where
  pub upper-word : enforced_in if_above r ≡ cut (upper_answer v p t) → word_in (result_unwrap_or r None) ≡ word_answered (enforced_by if_above v p t)
  upper-word e =
      answered if_above r (upper_answer v p t) e ∙ ap word_answered (ub-sound p t (calls.enforce_damaged p t) refl v d (enforced_in if_above r) e)

  pub lower-word : enforced_in only_if_above r ≡ cut (lower_answer v p t) → word_in (result_unwrap_or r None) ≡ word_answered (enforced_by only_if_above v p t)
  lower-word e =
      answered only_if_above r (lower_answer v p t) e ∙ ap word_answered (lb-sound p t (calls.enforce_damaged p t) refl v d (enforced_in only_if_above r) e)
