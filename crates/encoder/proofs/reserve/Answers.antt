-- `reserve` is the model's reserve: each refusal in its place, then the run. Assumes nothing.
use Rattle.std.proofs.Common.{sym, ◌∙◌, ltb-false}
use Rattle.model.specs.Machine.{Machine}
use Rattle.party.specs.Read.{machine_of}
use Rattle.encoder.proofs.Unharmed.{sound, within}
use Rattle.encoder.proofs.Rooms.{roomy, nodes-are, can-build, few-nodes}
use Rattle.encoder.proofs.Reserves.{reserve-damaged, reserve-no_room, reserve-numbers, reserve-done}
use Rattle.encoder.proofs.reserve.Goals as goal

pub returns-then-all_damaged : goal.returns-then-all_damaged
returns-then-all_damaged c = reserve-damaged _ (sym (rw c.next-next.ensures at c.all_damaged.ensures) ∙ c.if-all_damaged.true)

pub room_for_build-requires : goal.room_for_build-requires
room_for_build-requires c = within _ (sound _ (sym c.all_damaged.ensures ∙ c.if-all_damaged.false))

pub returns-in_err-needs : goal.returns-in_err-needs
returns-in_err-needs c =
    let d = sym (rw c.next-next.ensures at c.all_damaged.ensures) ∙ c.if-all_damaged.false in
    reserve-no_room _ d _ c.in_err-needs.field-0.0 (sym c.room_for_build.ensures.answer ∙ c.in_err-needs.was) c.from_residual.ensures.1

pub reserve_short-requires : goal.reserve_short-requires
reserve_short-requires c =
    let a = c.args in
    let m : Machine = machine_of a.encoder.now a.shared.now c.next-next.result a.nodes.now a.bounds.now a.clauses.now in
    let z = sound m (sym c.all_damaged.ensures ∙ c.if-all_damaged.false) in
    let r = roomy m _ (sym c.room_for_build.ensures.answer ∙ c.in_ok-needs.was) in
    (can-build m z _ r, nodes-are m z _ r, few-nodes m z _ r)

pub returns-then-reserve_short : goal.returns-then-reserve_short
returns-then-reserve_short c =
    let d = sym (rw c.next-next.ensures at c.all_damaged.ensures) ∙ c.if-all_damaged.false in
    reserve-numbers _ d _ (sym c.room_for_build.ensures.answer ∙ c.in_ok-needs.was) (sym (rw c.next-next.ensures at c.reserve_short.ensures _ _ _) ∙ c.if-reserve_short.true)

pub reserve_on-requires-clause-sound : goal.reserve_on-requires-clause-sound
reserve_on-requires-clause-sound c =
    let a = c.args in
    let m : Machine = machine_of a.encoder.now a.shared.now c.next-next.result a.nodes.now a.bounds.now a.clauses.now in
    let z = sound m (sym c.all_damaged.ensures ∙ c.if-all_damaged.false) in
    let r = roomy m _ (sym c.room_for_build.ensures.answer ∙ c.in_ok-needs.was) in
    (can-build m z _ r, z.total, z.drawn)

pub reserve_on-requires-clause-numbers : goal.reserve_on-requires-clause-numbers
reserve_on-requires-clause-numbers c = λ bs ws. ltb-false _ _ (sym (c.reserve_short.ensures _ bs ws) ∙ c.if-reserve_short.false)

pub returns : goal.returns
returns c =
    let a = c.args in
    let m : Machine = machine_of a.encoder.now a.shared.now a.source.now a.nodes.now a.bounds.now a.clauses.now in
    let x : Machine = machine_of c.reserve_on.new.encoder c.reserve_on.new.shared c.reserve_on.new.next c.reserve_on.new.nodes a.bounds.now a.clauses.now in
    let d = sym (rw c.next-next.ensures at c.all_damaged.ensures) ∙ c.if-all_damaged.false in
    let low = sym (rw c.next-next.ensures at c.reserve_short.ensures _ _ _) ∙ c.if-reserve_short.false in
    rw c.new.ensures (reserve-done m d _ (sym c.room_for_build.ensures.answer ∙ c.in_ok-needs.was) low x (rw c.next-next.ensures at c.reserve_on.ensures _ _))
