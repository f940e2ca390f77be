-- Room for a build, and what a refusal in the middle of a call leaves. Assumes nothing.
use mathlib.Core.Path.{◌≡◌, refl, sym, ap, ◌∙◌}
use mathlib.Core.Bool.{Bool, true, false, cond, false≢true}
use Prim.Native.Nat.{ℕ, ◌+◌, ◌/◌, ◌≤◌, ◌<◌, min}
use native.Mathlib.Omega.{arith}
use borrow.Author.Tests.{lt-ltb, le-ltb, ltb-false}
use lib.Dec.{ltb}
use lib.ListN.{length}
use Rattle.std.specs.Prelude.{Result, Ok, Err}
use Rattle.model.specs.Limits.{most_outputs, most_nodes}
use Rattle.model.specs.Replies.{too_wide, no_nodes}
use Rattle.model.specs.Machine.{Party, Machine, pending}
use Rattle.model.specs.Calls.{Replied, is_too_wide, lacks_nodes}
use Rattle.model.specs.Calls as calls
use Rattle.std.specs.Result.{IsErrAnd}
use Rattle.literal.specs.Kinds.{refused, replied}
use Rattle.literal.specs.declared.refusal.Refusal.{Refusal}
use Rattle.literal.specs.declared.refusal.Refusal.TheVariants.{TooWide, NoNodes}
use Rattle.buckets.specs.Read.{needs_after}
use Rattle.buckets.specs.declared.Needs.{Needs}
use Rattle.staging.specs.Built.{Wide, Buildable, nodes_of}
use Rattle.staging.specs.Sound.{Sound}
use Rattle.stages.specs.Ask.{values_of, Ready}
use Rattle.stages.specs.declared.Cut.{Cut}
use Rattle.encoder.specs.Read.{room_for, room_for_build, too_many}
use Rattle.encoder.proofs.Ranges.{asks_both}

-- a refusal leaves the machine as it was; else the call goes on
abbrev pub or_refused : {A : Type 0} → Result A Refusal → Machine → Replied → Replied
or_refused (Ok x) m r = r
or_refused (Err e) m r = calls.replied (refused e) m

-- a call that hands a refusal on
pub refuses : {A B : Type 0} (x : Result A Refusal) (r : Result B Refusal) (e : Refusal) (m : Machine) (rest : Replied) → x ≡ Err e → IsErrAnd r (λ d. d ≡ e)
    → calls.replied (replied r) m ≡ or_refused x m rest
refuses x (Ok y) e m rest h k = absurd k
refuses x (Err d) e m rest h k = ap (λ (y : Refusal). calls.replied (refused y) m) k ∙ sym (ap (λ y. or_refused y m rest) h)

abbrev is_ok : {A : Type 0} → Result A Refusal → Bool
is_ok (Ok x) = true
is_ok (Err e) = false

abbrev needs_in : Needs → Result Needs Refusal → Needs
needs_in d (Ok n) = n
needs_in d (Err e) = d

module _ (m : Machine) where
  abbrev needs : Needs
  needs = needs_after (pending m.party) m.party.structure.outputs m.party.structure.nodes

  pub room-is : (r : Replied) → or_refused (room_for_build m.party (length m.nodes)) m r
      ≡ cond (is_too_wide m) (calls.replied too_wide m) (cond (lacks_nodes m) (calls.replied no_nodes m) r)
  unfolding room_for_build is_too_wide lacks_nodes
  room-is r = go (ltb most_outputs needs.positions) (ltb (min most_nodes (length m.nodes / 8)) needs.nodes)
    where
      go : (a b : Bool) → or_refused (cond a (Err TooWide) (cond b (Err NoNodes) (Ok needs))) m r ≡ cond a (calls.replied too_wide m) (cond b (calls.replied no_nodes m) r)
      go true b = refl
      go false true = refl
      go false false = refl

  -- where there is room
  pub record Roomy (n : Needs) : Type 0 where
    pub are : n ≡ needs
    pub wide : n.positions ≤ most_outputs
    pub many : n.nodes ≤ min most_nodes (length m.nodes / 8)

  pub roomy : (n : Needs) → room_for_build m.party (length m.nodes) ≡ Ok n → Roomy n
  unfolding room_for_build
  roomy n h = go (ltb most_outputs needs.positions) (ltb (min most_nodes (length m.nodes / 8)) needs.nodes) refl refl h
    where
      go : (a b : Bool) → ltb most_outputs needs.positions ≡ a → ltb (min most_nodes (length m.nodes / 8)) needs.nodes ≡ b
          → cond a (Err TooWide) (cond b (Err NoNodes) (Ok needs)) ≡ Ok n → Roomy n
      go true b p q z = absurd (false≢true (ap is_ok z))
      go false true p q z = absurd (false≢true (ap is_ok z))
      go false false p q z =
          let e : needs ≡ n = ap (needs_in needs) z in
          record {
            are = sym e;
            wide = rw (← e) (ltb-false most_outputs needs.positions p);
            many = rw (← e) (ltb-false (min most_nodes (length m.nodes / 8)) needs.nodes q);
          }

  -- what a build and what follows it lean on
  module _ (sound : Sound m) (n : Needs) (r : Roomy n) where
    pub nodes-are : n.nodes ≡ nodes_of m.party
    unfolding nodes_of
    nodes-are = ap (λ (y : Needs). y.nodes) r.are

    pub can-build : Buildable m.party m.nodes
    can-build = record { terms = sound.terms; outputs = sound.outputs; nodes = sound.nodes; old = sound.in_nodes; new = omega (arith, nodes-are, r.many) }

    pub few-nodes : n.nodes ≤ 4096
    few-nodes = omega (arith, r.many)

    pub ready : Wide m.party → (up down : Cut) → too_many (values_of up) (values_of down) m ≡ false → up.base + up.n ≤ 4294967296 → down.base + down.n ≤ 4294967296
        → Ready m.party m.nodes m.bounds up down
    ready w up down f i j = record {
      builds = can-build;
      bounds = sound.bounds;
      total = sound.total;
      positions = omega (arith, ap (λ (y : Needs). y.positions) r.are, r.wide);
      asks = asks_both m up down w f i j;
    }

-- the code's answer, case by case
module _ (p : Party) (n : Needs) (e : n ≡ needs_after (pending p) p.structure.outputs p.structure.nodes) (words : ℕ) where
  same : room_for n words ≡ room_for_build p words
  unfolding room_for_build
  same = ap (λ (y : Needs). room_for y words) e

  pub room-wide : most_outputs < n.positions → Err TooWide ≡ room_for_build p words
  room-wide h = by (rw (lt-ltb most_outputs n.positions h) refl)
    where
      by : Err TooWide ≡ room_for n words → Err TooWide ≡ room_for_build p words
      by q = q ∙ same

  module _ (fits : n.positions ≤ most_outputs) where
    pub room-nodes : min most_nodes (words / 8) < n.nodes → Err NoNodes ≡ room_for_build p words
    room-nodes h = by (rw (le-ltb most_outputs n.positions fits, lt-ltb (min most_nodes (words / 8)) n.nodes h) refl)
      where
        by : Err NoNodes ≡ room_for n words → Err NoNodes ≡ room_for_build p words
        by q = q ∙ same

    pub room-there : n.nodes ≤ min most_nodes (words / 8) → Ok n ≡ room_for_build p words
    room-there h = by (rw (le-ltb most_outputs n.positions fits, le-ltb (min most_nodes (words / 8)) n.nodes h) refl)
      where
        by : Ok n ≡ room_for n words → Ok n ≡ room_for_build p words
        by q = q ∙ same
