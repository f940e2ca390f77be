-- What becomes of the emitter's state at one node, and at a connection. Assumes nothing.
use Rattle.std.proofs.Common.{◌&&◌, add-one, drop, drop-cons, slice_set, Option, ◌≡◌, ◌≢◌, ◌<◌, ◌≤◌, ◌∙◌, sym, ℕ, zero, suc, ◌+◌, ◌*◌, ◌/◌, ◌%◌, ◌^◌, Bool, true, false, cond, List, refl, ap, length, get_or, get_or-set_other, arith, ℤ, ltb, Some, None}
use Rattle.std.specs.Prelude.{eqb}
use Rattle.std.specs.Option.{is_some}
use lib.ListN.{drop_of_length-le}
use Rattle.std.proofs.lemmas.Bool.Decides.{nat_tests}
use Rattle.model.specs.Logic.{Lit, positive}
use Rattle.model.specs.Signs.{Kind, Bit, sum, carry, Dir, gate}
use Rattle.model.specs.Words.{buffer, flat, lay, put_batch, raised, Sink}
use Rattle.model.specs.Nodes.{bit_place, bump, in_table, lit_at, marked, mark_place, node_at, set_mark, set_var, var}
use Rattle.model.specs.Emit.{by_kind, children, Em, emit, emit_all, gate_at, mark, node, take_var, write}
use Rattle.gates.specs.Named.{named}
use Rattle.emitter.specs.declared.Cursor.{Cursor}
use Rattle.emitter.specs.State.{claimed, em, em_of, kids_of, marked_with, node_words, tab, wanted_by}
use Rattle.literal.specs.Kinds.{connection_by, connection_named}
use Rattle.literal.specs.declared.Literal.{Literal}
use Rattle.literal.specs.declared.connection.Connection.{Connection}
use Rattle.literal.specs.declared.connection.Connection.TheVariants as kinds

module _ (t : List ℕ) (ws ws' : List ℤ) (β : Bit) (δ : Dir) (n : ℕ) (c : Cursor) where
  pub finished : (κ : Kind) (vs : List ℤ) (f q r : ℕ) → κ ≡ (node_at t n).kind → vs ≡ node_words t β n
      → ((a b k o : Lit) → vs ≡ named a b k o → buffer f ws' ≡ lay (flat (gate κ β δ a b k o)) (buffer c.fill ws))
      → ((a b k o : Lit) → r ≡ length (gate κ β δ a b k o)) → q ≡ raised c.clauses r
      → em t ws' (record { next = c.next; fill = f; clauses = q }) ≡ write put_batch β δ n (em t ws c)
  unfolding write gate_at put_batch
  finished κ vs f q r kind words laid counted up =
      let a : Lit = lit_at t (node_at t n).a in
      let b : Lit = lit_at t (node_at t n).b in
      let k : Lit = lit_at t (node_at t n).c in
      let o : Lit = positive (var t β n) in
      let put : buffer f ws' ≡ lay (flat (gate (node_at t n).kind β δ a b k o)) (buffer c.fill ws) = rw kind at (laid a b k o words) in
      let more : q ≡ raised c.clauses (length (gate (node_at t n).kind β δ a b k o)) = rw (counted a b k o, kind) at up in
      rw (put, more) refl

-- ---- a node begun: what is so of the table and the number alone is so beside any sink
lifted : (b : Bool) (t t₁ t₂ : List ℕ) (x x₁ x₂ : ℕ) (s : Sink) → tab t₁ x₁ ≡ cond b (tab t₂ x₂) (tab t x) → em_of t₁ x₁ s ≡ cond b (em_of t₂ x₂ s) (em_of t x s)
lifted true t t₁ t₂ x x₁ x₂ s h = ap (λ (e : Em (Unit {0})). em_of e.table e.next s) h
lifted false t t₁ t₂ x x₁ x₂ s h = ap (λ (e : Em (Unit {0})). em_of e.table e.next s) h

pub begun : (β : Bit) (n m : ℕ) (t t₁ t₂ : List ℕ) (x x₁ : ℕ) (s : Sink) → tab t₁ x₁ ≡ take_var bump β n (tab t x) → t₂ ≡ slice_set t₁ (8 * n + 6) m
    → em_of t₂ x₁ s ≡ marked_with n m (take_var bump β n (em_of t x s))
unfolding take_var
begun β n m t t₁ t₂ x x₁ s h p = rw (p, ← lifted (eqb (var t β n) 0) t t₁ (set_var t β n x) x x₁ (bump x) s h) refl

-- ---- a connection by its limit and kind: below the limit it is emitted as at its node's own number
module _ (δ : Dir) (w : ℕ) (e : Em Sink) where
  step : (l : ℕ) → w / 4 ≡ l → emit bump put_batch δ (suc l) w e ≡ by_kind bump put_batch (w % 4) δ (w / 4) (λ δ'. emit bump put_batch δ' l) e
  unfolding emit
  step l h = let a : ltb (w / 4) l ≡ false = grind (arith, nat_tests) in let b : eqb (w / 4) l ≡ true = grind (arith, nat_tests) in rw (a, b) refl

  skip : (l : ℕ) → w / 4 < l → emit bump put_batch δ (suc l) w e ≡ emit bump put_batch δ l w e
  unfolding emit
  skip l h = let a : ltb (w / 4) l ≡ true = grind (arith, nat_tests) in rw a refl

  by_test : (l : ℕ) (q : Bool) → eqb (w / 4) l ≡ q → w / 4 < suc l → (w / 4 < l → emit bump put_batch δ l w e ≡ by_kind bump put_batch (w % 4) δ (w / 4) (λ δ'. emit bump put_batch δ' (w / 4)) e)
      → emit bump put_batch δ (suc l) w e ≡ by_kind bump put_batch (w % 4) δ (w / 4) (λ δ'. emit bump put_batch δ' (w / 4)) e
  by_test l true t h ih = let p : w / 4 ≡ l = grind (arith, nat_tests) in step l p ∙ ap (λ (m : ℕ). by_kind bump put_batch (w % 4) δ (w / 4) (λ δ'. emit bump put_batch δ' m) e) (sym p)
  by_test l false t h ih = let lt : w / 4 < l = grind (arith, nat_tests) in skip l lt ∙ ih lt

  pub emit_at : (l : ℕ) → w / 4 < l → emit bump put_batch δ l w e ≡ by_kind bump put_batch (w % 4) δ (w / 4) (λ δ'. emit bump put_batch δ' (w / 4)) e
  emit_at zero h = absurd (omega arith)
  emit_at (suc l) h = by_test l (eqb (w / 4) l) refl h (emit_at l)

  pub emit_out : (l : ℕ) → l ≤ w / 4 → e ≡ emit bump put_batch δ l w e
  unfolding emit
  emit_out zero h = refl
  emit_out (suc l) h = let a : ltb (w / 4) l ≡ false = grind (arith, nat_tests) in let b : eqb (w / 4) l ≡ false = grind (arith, nat_tests) in rw (a, b) refl

  -- by what the connection word names
  sum_at : (k n : ℕ) (l : ℕ) → connection_by k n ≡ kinds.Sum n → (below : Dir → ℕ → Em Sink → Em Sink) → by_kind bump put_batch k δ n below e ≡ node bump put_batch sum δ n (below δ) e
  unfolding by_kind
  sum_at zero n l h below = cc
  sum_at (suc zero) n l h below = cc
  sum_at (suc (suc zero)) n l h below = refl
  sum_at (suc (suc (suc k))) n l h below = cc

  carry_at : (k n : ℕ) (l : ℕ) → connection_by k n ≡ kinds.Carry n → (below : Dir → ℕ → Em Sink → Em Sink) → by_kind bump put_batch k δ n below e ≡ node bump put_batch carry δ n (below δ) e
  unfolding by_kind
  carry_at zero n l h below = cc
  carry_at (suc zero) n l h below = cc
  carry_at (suc (suc zero)) n l h below = cc
  carry_at (suc (suc (suc k))) n l h below = refl

  literal_at : (k n : ℕ) (z : Literal) → connection_by k n ≡ kinds.Literal z → (below : Dir → ℕ → Em Sink → Em Sink) → e ≡ by_kind bump put_batch k δ n below e
  unfolding by_kind
  literal_at zero n z h below = refl
  literal_at (suc zero) n z h below = refl
  literal_at (suc (suc zero)) n z h below = cc
  literal_at (suc (suc (suc k))) n z h below = cc

  number_of : (k n m : ℕ) → (connection_by k n ≡ kinds.Sum m) → n ≡ m
  number_of zero n m h = cc
  number_of (suc zero) n m h = cc
  number_of (suc (suc zero)) n m h = cc
  number_of (suc (suc (suc k))) n m h = cc

  number_of_carry : (k n m : ℕ) → (connection_by k n ≡ kinds.Carry m) → n ≡ m
  number_of_carry zero n m h = cc
  number_of_carry (suc zero) n m h = cc
  number_of_carry (suc (suc zero)) n m h = cc
  number_of_carry (suc (suc (suc k))) n m h = cc

  pub fetch_sum : (l n : ℕ) (e' : Em Sink) → connection_named w ≡ kinds.Sum n → n < l → e' ≡ node bump put_batch sum δ n (emit bump put_batch δ n) e → e' ≡ emit bump put_batch δ l w e
  fetch_sum l n e' h lt p =
      let m : w / 4 ≡ n = number_of (w % 4) (w / 4) n h in
      let named : connection_by (w % 4) (w / 4) ≡ kinds.Sum (w / 4) = h ∙ ap kinds.Sum (sym m) in
      rw (emit_at l (omega arith), sum_at (w % 4) (w / 4) l named (λ δ'. emit bump put_batch δ' (w / 4)), m) p

  pub fetch_carry : (l n : ℕ) (e' : Em Sink) → connection_named w ≡ kinds.Carry n → n < l → e' ≡ node bump put_batch carry δ n (emit bump put_batch δ n) e → e' ≡ emit bump put_batch δ l w e
  fetch_carry l n e' h lt p =
      let m : w / 4 ≡ n = number_of_carry (w % 4) (w / 4) n h in
      let named : connection_by (w % 4) (w / 4) ≡ kinds.Carry (w / 4) = h ∙ ap kinds.Carry (sym m) in
      rw (emit_at l (omega arith), carry_at (w % 4) (w / 4) l named (λ δ'. emit bump put_batch δ' (w / 4)), m) p

  pub sum_out : (l n : ℕ) → connection_named w ≡ kinds.Sum n → l ≤ n → e ≡ emit bump put_batch δ l w e
  sum_out l n h out = emit_out l (omega (arith, number_of (w % 4) (w / 4) n h))

  pub carry_out : (l n : ℕ) → connection_named w ≡ kinds.Carry n → l ≤ n → e ≡ emit bump put_batch δ l w e
  carry_out l n h out = emit_out l (omega (arith, number_of_carry (w % 4) (w / 4) n h))

  by_limit : (l : ℕ) (z : Literal) (q : Bool) → ltb (w / 4) l ≡ q → connection_named w ≡ kinds.Literal z → e ≡ emit bump put_batch δ l w e
  by_limit l z true t h = let lt : w / 4 < l = grind (arith, nat_tests) in rw (emit_at l lt) (literal_at (w % 4) (w / 4) z h (λ δ'. emit bump put_batch δ' (w / 4)))
  by_limit l z false t h = emit_out l (grind (arith, nat_tests))

  pub fetch_literal : (l : ℕ) (z : Literal) → connection_named w ≡ kinds.Literal z → e ≡ emit bump put_batch δ l w e
  fetch_literal l z h = by_limit l z (ltb (w / 4) l) refl h

-- ---- a node's bit
idle_by : {E : Type 0} (a b : Bool) (k : ℕ) (e d : E) → cond a (cond b None (Some k)) None ≡ None → e ≡ cond a (cond b e d) e
idle_by true true k e d h = refl
idle_by true false k e d h = cc
idle_by false b k e d h = refl

busy_by : {E : Type 0} (a b : Bool) (k m : ℕ) (e d : E) → cond a (cond b None (Some k)) None ≡ Some m → (cond a (cond b e d) e ≡ d) × (k ≡ m)
busy_by true true k m e d h = cc
busy_by true false k m e d h = (refl, cc)
busy_by false b k m e d h = cc

module _ (β : Bit) (δ : Dir) (n : ℕ) (below : ℕ → Em Sink → Em Sink) (e : Em Sink) where
  pub idle : claimed e.table β δ n ≡ None → e ≡ node bump put_batch β δ n below e
  unfolding node claimed
  idle h = idle_by (in_table e.table n) (marked e.table β δ n) _ e _ h

  -- the marks before and after the variable is taken are the same word
  spot : (γ : Bit) → 8 * n + 6 ≢ 8 * n + bit_place γ
  spot sum h = omega arith
  spot carry h = omega arith

  same_marks : get_or (set_var e.table β n e.next) (8 * n + 6) 0 ≡ get_or e.table (8 * n + 6) 0
  unfolding set_var
  same_marks = get_or-set_other e.table (8 * n + bit_place β) (8 * n + 6) e.next 0 (spot β)

  marked_by : (q : Bool) (m : ℕ) → eqb (var e.table β n) 0 ≡ q → get_or e.table (8 * n + 6) 0 + 2 ^ mark_place β δ ≡ m
      → marked_with n m (take_var bump β n e) ≡ mark β δ n (take_var bump β n e)
  unfolding take_var mark set_mark
  marked_by true m q h = rw (q, same_marks, h) refl
  marked_by false m q h = rw (q, h) refl

  pub busy : (e₁ e₂ : Em Sink) (m : ℕ) → claimed e.table β δ n ≡ Some m → e₁ ≡ marked_with n m (take_var bump β n e)
      → e₂ ≡ write put_batch β δ n (below (node_at e.table n).c (below (node_at e.table n).b (below (node_at e.table n).a e₁))) → e₂ ≡ node bump put_batch β δ n below e
  unfolding node claimed
  busy e₁ e₂ m h p q =
      let parts = busy_by (in_table e.table n) (marked e.table β δ n) _ m e (write put_batch β δ n (children below (node_at e.table n) (mark β δ n (take_var bump β n e)))) h in
      let begun : e₁ ≡ mark β δ n (take_var bump β n e) = p ∙ marked_by (eqb (var e.table β n) 0) m refl parts.1 in
      q ∙ ap (λ d. write put_batch β δ n (children below (node_at e.table n) d)) begun ∙ sym parts.0

  pub busy_kids : (ks : List ℕ) (e₁ e₂ e₃ e₄ e₅ : Em Sink) (m : ℕ) → claimed e.table β δ n ≡ Some m → ks ≡ kids_of e.table n → e₁ ≡ marked_with n m (take_var bump β n e)
      → e₂ ≡ below (get_or ks 0 0) e₁ → e₃ ≡ below (get_or ks 1 0) e₂ → e₄ ≡ below (get_or ks 2 0) e₃ → e₅ ≡ write put_batch β δ n e₄ → e₅ ≡ node bump put_batch β δ n below e
  busy_kids ks e₁ e₂ e₃ e₄ e₅ m h k p a b c w = busy e₁ e₅ m h p (w ∙ ap (write put_batch β δ n) ((rw k at c) ∙ ap (below (node_at e.table n).c) ((rw k at b) ∙ ap (below (node_at e.table n).b) (rw k at a))))

-- ---- a connection at which nothing is wanted has nothing to emit
module _ (δ : Dir) (w l : ℕ) (e : Em Sink) where
  no_sum : (n : ℕ) (b : Bool) (o : Option ℕ) → connection_named w ≡ kinds.Sum n → ltb n l ≡ b → claimed e.table sum δ n ≡ o → b && is_some o ≡ false → e ≡ emit bump put_batch δ l w e
  no_sum n false o h t p u = sum_out δ w e l n h (grind (arith, nat_tests))
  no_sum n true None h t p u = fetch_sum δ w e l n e h (grind (arith, nat_tests)) (idle sum δ n (emit bump put_batch δ n) e p)
  no_sum n true (Some m) h t p u = cc

  no_carry : (n : ℕ) (b : Bool) (o : Option ℕ) → connection_named w ≡ kinds.Carry n → ltb n l ≡ b → claimed e.table carry δ n ≡ o → b && is_some o ≡ false → e ≡ emit bump put_batch δ l w e
  no_carry n false o h t p u = carry_out δ w e l n h (grind (arith, nat_tests))
  no_carry n true None h t p u = fetch_carry δ w e l n e h (grind (arith, nat_tests)) (idle carry δ n (emit bump put_batch δ n) e p)
  no_carry n true (Some m) h t p u = cc

  by_name : (x : Connection) → connection_named w ≡ x → wanted_by e.table δ l x ≡ false → e ≡ emit bump put_batch δ l w e
  by_name (kinds.Literal z) h u = fetch_literal δ w e l z h
  by_name (kinds.Sum n) h u = no_sum n (ltb n l) (claimed e.table sum δ n) h refl refl u
  by_name (kinds.Carry n) h u = no_carry n (ltb n l) (claimed e.table carry δ n) h refl refl u

  pub unwanted : wanted_by e.table δ l (connection_named w) ≡ false → e ≡ emit bump put_batch δ l w e
  unwanted u = by_name (connection_named w) refl u

-- ---- the loop over the outputs
module _ (δ : Dir) (l : ℕ) (os : List ℕ) (i : ℕ) (e : Em Sink) where
  pub outputs_step : i < length os → emit_all bump put_batch δ l (drop i os) e ≡ emit_all bump put_batch δ l (drop (i + 1) os) (emit bump put_batch δ l (get_or os i 0) e)
  outputs_step h = rw (add-one i, drop-cons os i 0 h) refl

  pub outputs_end : length os ≤ i → emit_all bump put_batch δ l (drop i os) e ≡ e
  outputs_end h = rw (drop_of_length-le os h) refl

-- whether there is something to emit at a bit of a node below the limit
pub bit_wanted : (t : List ℕ) (β : Bit) (δ : Dir) (l n : ℕ) (o : Option ℕ) (b : Bool) → n < l → o ≡ claimed t β δ n → b ≡ is_some o → b ≡ (ltb n l && is_some (claimed t β δ n))
bit_wanted t β δ l n o b h e f =
    let below : ltb n l ≡ true = grind (arith, nat_tests) in
    rw (below, ← e) f
