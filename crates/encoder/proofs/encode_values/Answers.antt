-- `encode_values` gives each refusal in its place, then the run. That the verdict is the one that `?` met is left to `grind`, which goes
-- through a `match` between the two as well. Assumes nothing.
use Rattle.std.proofs.Common.{◌≡◌, sym, ◌∙◌, refl, Ok, arith, rules}
use Rattle.model.specs.Machine.{Machine}
use Rattle.party.specs.Read.{machine_of}
use Rattle.stages.specs.Ask.{values_of}
use Rattle.encoder.proofs.Rooms.{roomy, ready, few-nodes}
use Rattle.encoder.proofs.Encodes.{values-many, values-no_room, values-short, values-done}
use Rattle.encoder.proofs.encode_values.Goals as goal

pub returns-then-too_many : goal.returns-then-too_many
returns-then-too_many c = values-many _ _ _ (sym (c.too_many.ensures _ _ _ _) ∙ c.if-too_many.true)

pub returns-in_err-needs : goal.returns-in_err-needs
returns-in_err-needs c =
    values-no_room _ _ _ (sym (c.too_many.ensures _ _ _ _) ∙ c.if-too_many.false) _ c.in_err-needs.field-0.0 (sym c.room_for_build.ensures.answer ∙ c.in_err-needs.was)
    c.from_residual.ensures.1

pub encode_short-fits-requires-clause-ready : goal.encode_short-fits-requires-clause-ready
encode_short-fits-requires-clause-ready c =
    let a = c.args in
    let m : Machine = machine_of a.encoder.now a.shared.now a.source.now a.nodes.now a.bounds.now a.clauses.now in
    let f = sym (c.too_many.ensures _ _ _ _) ∙ c.if-too_many.false in
    let room = sym c.room_for_build.ensures.answer ∙ c.in_ok-needs.was in
    ready m c.requires.0 _ (roomy m _ room) c.room_for_build.ensures.wide a.up a.down f c.requires.1 c.requires.2

pub encode_short-fits-requires-clause-needs : goal.encode_short-fits-requires-clause-needs
encode_short-fits-requires-clause-needs c =
    let a = c.args in
    let m : Machine = machine_of a.encoder.now a.shared.now a.source.now a.nodes.now a.bounds.now a.clauses.now in
    (roomy m _ (sym c.room_for_build.ensures.answer ∙ c.in_ok-needs.was)).are

pub encode_short-fits-requires-clause-few : goal.encode_short-fits-requires-clause-few
encode_short-fits-requires-clause-few c =
    let a = c.args in
    let m : Machine = machine_of a.encoder.now a.shared.now a.source.now a.nodes.now a.bounds.now a.clauses.now in
    few-nodes m c.requires.0 _ (roomy m _ (sym c.room_for_build.ensures.answer ∙ c.in_ok-needs.was))

pub returns-in_err-fits : goal.returns-in_err-fits
returns-in_err-fits c =
    values-short _ _ _ (sym (c.too_many.ensures _ _ _ _) ∙ c.if-too_many.false) _ (sym c.room_for_build.ensures.answer ∙ c.in_ok-needs.was) _ c.in_err-fits.field-0.0
    (sym (rw c.next-next.ensures at (c.encode_short-fits.ensures c.args.clauses.now refl (omega arith))) ∙ grind arith) c.from_residual-in_err-fits.ensures.1 _ (grind arith)

pub perform-requires-clause-ready : goal.perform-requires-clause-ready
perform-requires-clause-ready c =
    let a = c.args in
    let m : Machine = machine_of a.encoder.now a.shared.now a.source.now a.nodes.now a.bounds.now a.clauses.now in
    let f = sym (c.too_many.ensures _ _ _ _) ∙ c.if-too_many.false in
    let room = sym c.room_for_build.ensures.answer ∙ c.in_ok-needs.was in
    ready m c.requires.0 _ (roomy m _ room) c.room_for_build.ensures.wide a.up a.down f c.requires.1 c.requires.2

pub perform-requires-clause-enough : goal.perform-requires-clause-enough
perform-requires-clause-enough c = record { none = sym (c.encode_short-fits.ensures c.args.clauses.now refl (omega arith)) ∙ grind arith; filled = c.requires.0.counted; drawn = c.requires.0.drawn }

pub returns : goal.returns
returns c =
    let a = c.args in
    let m : Machine = machine_of a.encoder.now a.shared.now a.source.now a.nodes.now a.bounds.now a.clauses.now in
    let x : Machine = machine_of c.perform.new.encoder c.perform.new.shared c.perform.new.next c.perform.new.nodes c.perform.new.bounds c.perform.new.clauses in
    let fits : c.encode_short-fits.result ≡ Ok tt = grind arith in
    let f = sym (c.too_many.ensures _ _ _ _) ∙ c.if-too_many.false in
    let none = sym (rw c.next-next.ensures at (c.encode_short-fits.ensures c.args.clauses.now refl (omega arith))) ∙ fits in
    values-done (values_of a.up) (values_of a.down) m f _ (sym c.room_for_build.ensures.answer ∙ c.in_ok-needs.was) none x (rw c.next-next.ensures at c.perform.ensures) _ (search rules)
