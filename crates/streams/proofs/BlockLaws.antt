-- How far a text was read, and handed on in blocks. Assumes nothing.
use mathlib.Core.Path.{◌≡◌, refl, sym, ap, ◌∙◌, subst}
use mathlib.Core.List.{List, [], ◌∷◌, ◌++◌, append_assoc, append-nil}
use Prim.Native.Nat.{ℕ}
use Rattle.std.specs.Prelude.{Option, Some, None, IfSome}
use Rattle.std.specs.Borrow.{Bor}
use Rattle.std.specs.Fn.{Mut, CalledAt}
use Rattle.std.specs.Io.KnownBytes.{Consumes, IsAtEnd}
use Rattle.streams.specs.Blocks.{joined, TakesEach, TakesAll}

-- one block after another is consumed
consumed : (a b c : Option (List ℕ)) (xs ys : List ℕ) → Consumes a b xs → Consumes b c ys → Consumes a c (xs ++ ys)
consumed None b c xs ys e f = tt
consumed (Some a) None c xs ys e f = absurd e
consumed (Some a) (Some b) None xs ys e f = absurd f
consumed (Some a) (Some b) (Some c) xs ys e f = e ∙ ap (λ (t : List ℕ). xs ++ t) f ∙ sym (append_assoc xs ys c)

joined_more : (bs : List (List ℕ)) (b : List ℕ) → joined (bs ++ (b ∷ [])) ≡ joined bs ++ b
joined_more [] b = append-nil b
joined_more (c ∷ bs) b = ap (λ (t : List ℕ). c ++ t) (joined_more bs b) ∙ sym (append_assoc c (joined bs) b)

module _ {F : Type 0} (g : Mut F (Bor (List ℕ) × Unit {0}) (Unit {0})) where
  each_more : (f p q : F) (bs : List (List ℕ)) (b : List ℕ) → TakesEach g f bs p → CalledAt g p b tt q → TakesEach g f (bs ++ (b ∷ [])) q
  each_more f p q [] b e c = (q, subst (λ (x : F). CalledAt g x b tt q) (sym e) c, refl)
  each_more f p q (d ∷ bs) b e c = (e.0, e.1, each_more e.0 p q bs b e.2 c)

  module _ (f : F) (known : Option (List ℕ)) where
    pub record Taken (known' : Option (List ℕ)) (p : F) : Type 0 where
      pub blocks : List (List ℕ)
      pub each : TakesEach g f blocks p
      pub read : Consumes known known' (joined blocks)

    pub taken_none : Taken known f
    taken_none = record { blocks = []; each = refl; read = nothing known }
      where
        nothing : (k : Option (List ℕ)) → Consumes k k []
        nothing None = tt
        nothing (Some xs) = refl

    pub taken_more : (k k' : Option (List ℕ)) (p q : F) (b : List ℕ) → Taken k p → Consumes k k' b → CalledAt g p b tt q → Taken k' q
    taken_more k k' p q b t r c = record {
      blocks = t.blocks ++ (b ∷ []);
      each = each_more f p q t.blocks b t.each c;
      read = rw (joined_more t.blocks b) (consumed known k k' (joined t.blocks) b t.read r);
    }

    pub taken_all : (k k' : Option (List ℕ)) (p : F) → Taken k p → Consumes k k' [] → IsAtEnd k' → IfSome known (TakesAll g f)
    taken_all k k' p t r a = go known k k' t.blocks t.each t.read r a
      where
        go : (x y z : Option (List ℕ)) (bs : List (List ℕ)) → TakesEach g f bs p → Consumes x y (joined bs) → Consumes y z [] → IsAtEnd z → IfSome x (TakesAll g f)
        go None y z bs e h i j = tt
        go (Some x) None z bs e h i j = absurd h
        go (Some x) (Some y) None bs e h i j = absurd i
        go (Some x) (Some y) (Some z) bs e h i j = (bs, p, e, sym (h ∙ ap (λ (t : List ℕ). joined bs ++ t) (i ∙ j) ∙ append-nil (joined bs)))
