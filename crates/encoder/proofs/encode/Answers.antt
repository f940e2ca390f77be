-- `encode` is the model's encode: Damaged, an empty range, or what is asked. Assumes nothing.
use Rattle.std.proofs.Common.{◌≡◌, sym, ◌∙◌, arith, false}
use Rattle.model.specs.Machine.{Machine, total_of}
use Rattle.model.specs.Bounds.{up_values, down_values}
use Rattle.model.specs.Damage.{all_damaged}
use Rattle.party.specs.Read.{machine_of}
use Rattle.encoder.specs.Read.{range_of, up_range, down_range, Cuts}
use Rattle.encoder.proofs.Unharmed.{sound}
use Rattle.encoder.proofs.Ranges.{cut_at}
use Rattle.encoder.proofs.Encodes.{ask-damaged, ask-none, ask-some, some-ups, some-downs}
use Rattle.encoder.proofs.encode.Goals as goal
use Rattle.encoder.proofs.encode.Goals.{else-is_empty-via-then-is_empty+else-is_empty-2, else-is_empty-via-else-is_empty}

pub returns-then-all_damaged : goal.returns-then-all_damaged
returns-then-all_damaged c = ask-damaged c.args.ask _ (sym (rw c.next.ensures at c.all_damaged.ensures) ∙ c.if-all_damaged.true)

pub cut_up-up-requires : goal.cut_up-up-requires
cut_up-up-requires c = omega (arith, c.total-total.ensures.total, (sound _ (sym c.all_damaged.ensures ∙ c.if-all_damaged.false)).total)

pub cut_down-down-requires : goal.cut_down-down-requires
cut_down-down-requires c = omega (arith, c.total-total.ensures.total, (sound _ (sym c.all_damaged.ensures ∙ c.if-all_damaged.false)).total)

pub returns-then-is_empty-2 : goal.returns-then-is_empty-2
returns-then-is_empty-2 c =
    let a = c.args in
    let m : Machine = machine_of a.encoder.now a.shared.now a.source.now a.nodes.now a.bounds.now a.clauses.now in
    let d : all_damaged m ≡ false = sym (rw c.next.ensures at c.all_damaged.ensures) ∙ c.if-all_damaged.false in
    let u : Cuts (up_values (range_of (up_range a.ask)) (total_of m.party)) c.cut_up-up.result = cut_at _ _ _ _ _ c.up.ensures c.total-total.ensures.total up_values c.cut_up-up.ensures in
    let l : Cuts (down_values (range_of (down_range a.ask)) (total_of m.party)) c.cut_down-down.result = cut_at _ _ _ _ _ c.down.ensures c.total-total.ensures.total down_values c.cut_down-down.ensures in
    ask-none a.ask m d _ _ u l (sym c.is_empty.ensures ∙ c.if-is_empty.true) (sym c.is_empty-then-is_empty.ensures ∙ c.if-is_empty-2.true) _ c.next-shared.ensures

pub encode_values-requires : goal.encode_values-requires
encode_values-requires c =
    (sound _ (sym (rw c.next.ensures at c.all_damaged.ensures) ∙ c.if-all_damaged.false), c.cut_up-up.ensures.small, c.cut_down-down.ensures.small)

pub returns : goal.returns
returns c =
    let a = c.args in
    let m : Machine = machine_of a.encoder.now a.shared.now a.source.now a.nodes.now a.bounds.now a.clauses.now in
    let d : all_damaged m ≡ false = sym (rw c.next.ensures at c.all_damaged.ensures) ∙ c.if-all_damaged.false in
    let u : Cuts (up_values (range_of (up_range a.ask)) (total_of m.party)) c.cut_up-up.result = cut_at _ _ _ _ _ c.up.ensures c.total-total.ensures.total up_values c.cut_up-up.ensures in
    let l : Cuts (down_values (range_of (down_range a.ask)) (total_of m.party)) c.cut_down-down.result = cut_at _ _ _ _ _ c.down.ensures c.total-total.ensures.total down_values c.cut_down-down.ensures in
    elim c.else-is_empty.branch [
      | else-is_empty-via-then-is_empty+else-is_empty-2 w ↦ ask-some a.ask m d _ _ u l (some-downs _ _ (sym w.is_empty-then-is_empty.ensures ∙ w.if-is_empty-2.false)) _ c.encode_values.ensures
      | else-is_empty-via-else-is_empty w ↦ ask-some a.ask m d _ _ u l (some-ups _ _ (sym c.is_empty.ensures ∙ w.if-is_empty.false)) _ c.encode_values.ensures
    ]
