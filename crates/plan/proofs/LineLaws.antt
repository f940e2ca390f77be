-- What a reply makes of a line, on each way of the code; and a line by its form and by the plan's stage. Assumes nothing.
use mathlib.Core.Path.{◌≡◌, refl, sym, ap, ◌∙◌}
use mathlib.Core.Bool.{Bool, false}
use mathlib.Core.List.{List, [], ◌∷◌, ◌++◌}
use Prim.Native.Nat.{ℕ, ◌<◌, ◌≤◌}
use borrow.Author.Tests.{lt-ltb, le-ltb}
use lib.Dec.{eqb}
use lib.IntN.{ℤ, pos}
use lib.ListN.{length, replicate}
use Rattle.std.specs.Prelude.{Result, Ok, Err}
use Rattle.std.specs.Result.{IsErrAnd}
use Rattle.model.specs.Logic.{Term, term}
use Rattle.model.specs.Machine.{Party, Machine, total_of}
use Rattle.model.specs.Replies.{number}
use Rattle.model.specs.Calls.{start, add, Replied}
use Rattle.model.specs.Calls as calls
use Rattle.model.specs.Program.{going, stopped, first_machine, first_step, add_line, ask_line, later_step}
use Rattle.model.specs.Program as program
use Rattle.model.specs.Text as text
use Rattle.literal.specs.Kinds.{refused}
use Rattle.literal.specs.declared.kind.Direction.{Direction}
use Rattle.literal.specs.declared.kind.Direction.TheVariants.{If, OnlyIf}
use Rattle.literal.specs.declared.refusal.Refusal.{Refusal}
use Rattle.literal.specs.declared.refusal.Refusal.TheVariants.{BadTerm, SumTooLarge, PendingFull, NotEncoded, Unsat, EqualityRefused, TooManyBounds, TooWide, NoNodes, NoVariables, NoRoom, Damaged, BadStart, BadConstraint}
use Rattle.party.specs.Read.{machine_of, started_of}
use Rattle.encoder.specs.Read.{replied_of}
use Rattle.text.specs.declared.line.Line.{Line}
use Rattle.text.specs.declared.line.Line.TheVariants.{First, Term as TermLine, Upper, Lower}
use Rattle.text.specs.declared.line.NoForm.{NoForm}
use Rattle.text.specs.Scans.{line_read}
use Rattle.plan.specs.declared.lines.Fault.{Fault}
use Rattle.plan.specs.declared.lines.Fault.TheVariants.{BadLine, Refused}
use Rattle.plan.specs.declared.Stage.{Stage}
use Rattle.plan.specs.declared.Stage.TheVariants as stages
use Rattle.plan.specs.Reading.{Progress, after, stage_at, stepped, take_line}
use Rattle.plan.specs.Noting.{asking_line, cut_range, encode_in, lit_by}

-- an error that `?` hands on
pub handed_on : {T E : Type 0} (r : Result T E) (e : E) → IsErrAnd r (λ d. d ≡ e) → r ≡ Err e
handed_on (Ok x) e h = absurd h
handed_on (Err d) e h = ap Err h

-- no refusal has the number of acceptance
not_zero : (r : Refusal) → eqb (number (refused r)) 0 ≡ false
unfolding number
not_zero (BadTerm k) = refl
not_zero SumTooLarge = refl
not_zero PendingFull = refl
not_zero NotEncoded = refl
not_zero Unsat = refl
not_zero EqualityRefused = refl
not_zero TooManyBounds = refl
not_zero TooWide = refl
not_zero NoNodes = refl
not_zero NoVariables = refl
not_zero NoRoom = refl
not_zero Damaged = refl
not_zero BadStart = refl
not_zero BadConstraint = refl

-- `f F`
module _ (F : ℕ) (r : Result Party Refusal) (e : started_of F r ≡ start F) where
  pub start_refused : (f : Refusal) → r ≡ Err f → (x : Result (Unit {0}) Fault) → x ≡ Err (Refused f) → (p : program.Plan) → stepped 1 x p ≡ first_step (text.first_line F)
  unfolding first_step
  start_refused f h x w p =
      let d : started_of F (Err f) ≡ start F = ap (started_of F) (sym h) ∙ e in
      rw (w, ← d, not_zero f) refl

  abbrev machine_from : calls.Started → List ℕ → List ℕ → List ℤ → Machine
  machine_from s nodes bounds clauses = record { party = s.party; shared = s.shared; next = F; nodes = nodes; bounds = bounds; clauses = clauses }

  pub start_done : (p : Party) → r ≡ Ok p → (next : ℕ) → next ≡ F → (nodes bounds : List ℕ) (clauses : List ℤ)
      → nodes ≡ replicate 8192 0 → bounds ≡ replicate 3072 0 → clauses ≡ replicate 12288 (pos 0)
      → going (record { machine = machine_of p (record { fill = 0; left = F }) next nodes bounds clauses; asked = [] }) ≡ first_step (text.first_line F)
  unfolding first_step first_machine number
  start_done p h next i nodes bounds clauses n b c =
      let d : started_of F (Ok p) ≡ start F = ap (started_of F) (sym h) ∙ e in
      rw (← d, i, n, b, c) refl

-- `u from to` and `l from to`
module _ (d : Direction) (k a b : ℕ) (p : program.Plan) (n : ℕ) (l : length p.asked ≡ n) where
  abbrev more : program.Asked
  more = cut_range d a b (total_of p.machine.party)

  asks : later_step k (asking_line d a b) p ≡ ask_line k more (encode_in d a b p.machine) p
  unfolding later_step
  asks = go d
    where
      go : (δ : Direction) → later_step k (asking_line δ a b) p ≡ ask_line k (cut_range δ a b (total_of p.machine.party)) (encode_in δ a b p.machine) p
      go If = refl
      go OnlyIf = refl

  pub ask_full : 256 ≤ n → stopped 1 k ≡ later_step k (asking_line d a b) p
  unfolding ask_line
  ask_full h = rw (asks, l, le-ltb n 256 h) refl

  module _ (room : n < 256) (r : Result (Unit {0}) Refusal) (m : Machine) (e : replied_of r m ≡ encode_in d a b p.machine) where
    pub ask_refused : (f : Refusal) → r ≡ Err f → (x : Result (Unit {0}) Fault) → x ≡ Err (Refused f) → (q : program.Plan) → stepped k x q ≡ later_step k (asking_line d a b) p
    unfolding ask_line
    ask_refused f h x w q =
        let t : replied_of (Err f) m ≡ encode_in d a b p.machine = ap (λ (s : Result (Unit {0}) Refusal). replied_of s m) (sym h) ∙ e in
        rw (w, asks, l, lt-ltb n 256 room, ← t, not_zero f) refl

    pub ask_done : (u : Unit {0}) → r ≡ Ok u → (ls : List program.Asked) → ls ≡ p.asked ++ (more ∷ []) → going (record { machine = m; asked = ls }) ≡ later_step k (asking_line d a b) p
    unfolding ask_line number
    ask_done u h ls w =
        let t : replied_of (Ok u) m ≡ encode_in d a b p.machine = ap (λ (s : Result (Unit {0}) Refusal). replied_of s m) (sym h) ∙ e in
        rw (asks, l, lt-ltb n 256 room, ← t, w) refl

-- the first line, and a later one, by their forms
module _ (l : Result Line NoForm) where
  pub first_none : (e : NoForm) → l ≡ Err e → (x : Result (Unit {0}) Fault) → x ≡ Err BadLine → (q : program.Plan) → stepped 1 x q ≡ first_step (line_read l)
  unfolding first_step
  first_none e h x w q = rw (h, w) refl

  pub first_other : (v : Line) → l ≡ Ok v → ((F : ℕ) → v ≡ First F → ⊥) → stopped 1 1 ≡ first_step (line_read l)
  unfolding first_step
  first_other v h n = rw h (go v n)
    where
      go : (w : Line) → ((F : ℕ) → w ≡ First F → ⊥) → stopped 1 1 ≡ first_step (line_read (Ok w))
      go (First F) m = absurd (m F refl)
      go (TermLine x y z) m = refl
      go (Upper a b) m = refl
      go (Lower a b) m = refl

module _ (k : ℕ) (l : Result Line NoForm) (p : program.Plan) where
  pub later_none : (e : NoForm) → l ≡ Err e → (x : Result (Unit {0}) Fault) → x ≡ Err BadLine → (q : program.Plan) → stepped k x q ≡ later_step k (line_read l) p
  unfolding later_step
  later_none e h x w q = rw (h, w) refl

  pub later_first : (v : Line) (F : ℕ) → l ≡ Ok v → v ≡ First F → stopped 1 k ≡ later_step k (line_read l) p
  unfolding later_step
  later_first v F h e = rw (h, e) refl

  pub later_term : (v : Line) (w : ℕ) (m : Bool) (n : ℕ) → l ≡ Ok v → v ≡ TermLine w m n → (u : Term) → ((q : Party) → add (u ∷ []) q ≡ add (term w (lit_by m n) ∷ []) q)
      → (x : program.Outcome) → x ≡ add_line k u p → x ≡ later_step k (line_read l) p
  unfolding later_step add_line
  later_term v w m n h e u same x q = rw (h, e, ← same p.machine.party) q

-- a line, by the plan's stage
module _ (k : ℕ) (l : text.Line) (p : program.Plan) (s : Stage) where
  pub take_first : (x : Progress) → s ≡ stages.First → x ≡ after (first_step l) → x ≡ take_line k l (stage_at s p)
  unfolding take_line
  take_first x e h = rw e h

  pub take_later : (x : Progress) → s ≡ stages.Going → x ≡ after (later_step k l p) → x ≡ take_line k l (stage_at s p)
  unfolding take_line
  take_later x e h = rw e h

  pub take_none : (f : Fault) (j : ℕ) → s ≡ stages.Stopped f j → stage_at s p ≡ take_line k l (stage_at s p)
  unfolding take_line
  take_none f j e = rw e
