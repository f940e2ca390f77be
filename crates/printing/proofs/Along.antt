-- So far a writing has come. Assumes nothing.
use mathlib.Core.Path.{◌≡◌, refl, ap, sym, ◌∙◌}
use mathlib.Core.List.{List}
use mathlib.Core.Logic.{◌⊎◌, inl, inr}
use Prim.Native.Nat.{ℕ, suc, ◌+◌, ◌-◌, ◌≤◌, ◌<◌}
use native.Mathlib.Omega.{arith}
use lib.ListN.{length, drop}
use lib.Seq.{drop-drop}
use Rattle.std.specs.Prelude.{Option, Some, None, IsSome}
use Rattle.printing.specs.Pieces.{rest_at, left_at, Put, Token, Piece}

none_some : {A : Type 0} (part : Option A) → part ≡ None → IsSome part → ⊥
none_some None e s = absurd (let o : ◌≡◌ {A = ℕ} 0 1 = cc in omega arith)
none_some (Some part) e s = absurd (let o : ◌≡◌ {A = ℕ} 0 1 = cc in omega arith)

module _ {A : Type 0} (rest : A → List ℕ) (left : A → ℕ) (part₀ : Option A) (out₀ : List ℕ) where
  pub record Along (part : Option A) (at : ℕ) (out : List ℕ) : Type 0 where
    pub size : length out ≡ length out₀
    pub put : Put (rest_at rest part₀) (rest_at rest part) 0 at out₀ out
    pub moved : (left_at left part < left_at left part₀) ⊎ ((part ≡ part₀) × (at ≡ 0))

  module _ (part : Option A) (at : ℕ) (out : List ℕ) (a : Along part at out) where
    pub along-token : {here : A} → part ≡ Some here → {next : Option A} {at' : ℕ} {out' : List ℕ} → length out' ≡ length out
        → Token rest left here next at at' out out' → Along next at' out'
    along-token {here} e {next} {at'} {out'} l t =
        let q = t.put in
        let s : at + (at' - at) ≡ at' = omega (arith, q.forth) in
        let d : drop at' out ≡ drop at' out₀
        = rw (← s) (sym (drop-drop (at' - at) at out) ∙ ap (drop (at' - at)) a.put.beyond ∙ drop-drop (at' - at) at out₀) in
        record {
          size = l ∙ a.size;
          put = record { forth = omega arith; within = q.within; text = q.text ∙ (rw e at a.put.text); beyond = q.beyond ∙ d };
          moved = inl (go (ap (left_at left) e) t.falls a.moved);
        }
      where
        go : left_at left part ≡ suc (left here) → left_at left next < suc (left here)
            → (left_at left part < left_at left part₀) ⊎ ((part ≡ part₀) × (at ≡ 0)) → left_at left next < left_at left part₀
        go k f (inl h) = omega arith
        go k f (inr h) = let o : left_at left part ≡ left_at left part₀ = ap (left_at left) h.0 in omega arith

    along-end : (longest : ℕ) → (IsSome part₀ → longest ≤ length out₀ → left_at left part < left_at left part₀) → Piece rest left longest part₀ part at out₀ out
    along-end longest f = record { size = a.size; within = a.put.within; text = a.put.text; beyond = a.put.beyond; falls = f }

    -- the text ends, or there is no room for the longest token
    pub along-done : (longest : ℕ) → part ≡ None → Piece rest left longest part₀ part at out₀ out
    along-done longest e = along-end longest (λ s l. go s a.moved)
      where
        go : IsSome part₀ → (left_at left part < left_at left part₀) ⊎ ((part ≡ part₀) × (at ≡ 0)) → left_at left part < left_at left part₀
        go s (inl h) = h
        go s (inr h) = absurd (none_some part₀ (sym h.0 ∙ e) s)

    pub along-full : (longest : ℕ) → length out - at < longest → Piece rest left longest part₀ part at out₀ out
    along-full longest full = along-end longest (λ s l. go l a.moved)
      where
        go : longest ≤ length out₀ → (left_at left part < left_at left part₀) ⊎ ((part ≡ part₀) × (at ≡ 0)) → left_at left part < left_at left part₀
        go l (inl h) = h
        go l (inr h) = absurd (omega (arith, a.size))
