-- How far a text was written, in pieces. Assumes nothing.
use mathlib.Core.Path.{◌≡◌, refl, sym, ap, ◌∙◌}
use mathlib.Core.List.{List, [], ◌++◌, append_assoc, append-nil}
use Prim.Native.Nat.{ℕ}
use Rattle.std.specs.Prelude.{Option, Some, None}
use Rattle.std.specs.Io.KnownBytes.{Appends}
use Rattle.printing.specs.Pieces.{rest_at}

appended : (a b c : Option (List ℕ)) (xs ys : List ℕ) → Appends a b xs → Appends b c ys → Appends a c (xs ++ ys)
appended None b c xs ys e f = tt
appended (Some a) None c xs ys e f = absurd e
appended (Some a) (Some b) None xs ys e f = absurd f
appended (Some a) (Some b) (Some c) xs ys e f = f ∙ ap (λ (t : List ℕ). t ++ ys) e ∙ append_assoc a xs ys

module _ {A : Type 0} (rest : A → List ℕ) (known : Option (List ℕ)) (first : Option A) where
  pub record Sent (known' : Option (List ℕ)) (next : Option A) : Type 0 where
    pub bytes : List ℕ
    pub appends : Appends known known' bytes
    pub text : bytes ++ rest_at rest next ≡ rest_at rest first

  pub sent_none : Sent known first
  sent_none = record { bytes = []; appends = nothing known; text = refl }
    where
      nothing : (k : Option (List ℕ)) → Appends k k []
      nothing None = tt
      nothing (Some xs) = sym (append-nil xs)

  pub sent_more : (k k' : Option (List ℕ)) (part part' : Option A) (piece : List ℕ) → Sent k part → Appends k k' piece
      → piece ++ rest_at rest part' ≡ rest_at rest part → Sent k' part'
  sent_more k k' part part' piece s a t = record {
    bytes = s.bytes ++ piece;
    appends = appended known k k' s.bytes piece s.appends a;
    text = append_assoc s.bytes piece (rest_at rest part') ∙ ap (λ (x : List ℕ). s.bytes ++ x) t ∙ s.text;
  }

  pub sent_all : (k : Option (List ℕ)) (part : Option A) → Sent k part → part ≡ None → Appends known k (rest_at rest first)
  sent_all k part s e =
      let t : s.bytes ≡ rest_at rest first = sym (append-nil s.bytes) ∙ ap (λ (p : Option A). s.bytes ++ rest_at rest p) (sym e) ∙ s.text in
      rw (← t) s.appends
