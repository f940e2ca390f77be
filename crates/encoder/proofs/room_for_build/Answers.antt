-- `room_for_build` tells what a build needs, or the first refusal that stands against it. Assumes nothing.
use Rattle.std.proofs.Common.{arith}
use Rattle.staging.proofs.Builds.{needs-are}
use Rattle.encoder.proofs.Rooms.{room-wide, room-nodes, room-there}
use Rattle.encoder.proofs.room_for_build.Goals as goal

pub returns-clause-wide : goal.returns-clause-wide
returns-clause-wide c = let w = c.terms-terms.ensures.widths in rw (← c.terms-terms.ensures.terms) (record { weights = w.0; words = w.1 })

pub returns-then-needs-gt-OUTPUTS-clause-answer : goal.returns-then-needs-gt-OUTPUTS-clause-answer
returns-then-needs-gt-OUTPUTS-clause-answer c =
    let t = c.terms-terms.ensures in
    let n = needs-are _ c.terms-terms.result.now t.terms t.widths.0 t.widths.1 c.requires.terms c.structure-old.result.now c.structure-old.ensures.structure _ c.needs_after-needs.ensures in
    room-wide _ _ n _ c.if-needs-gt-OUTPUTS.true

pub returns-then-min-needs-clause-answer : goal.returns-then-min-needs-clause-answer
returns-then-min-needs-clause-answer c =
    let t = c.terms-terms.ensures in
    let n = needs-are _ c.terms-terms.result.now t.terms t.widths.0 t.widths.1 c.requires.terms c.structure-old.result.now c.structure-old.ensures.structure _ c.needs_after-needs.ensures in
    room-nodes _ _ n _ c.if-needs-gt-OUTPUTS.false (omega (arith, c.min.ensures, c.if-min-needs.true))

pub returns-clause-answer : goal.returns-clause-answer
returns-clause-answer c =
    let t = c.terms-terms.ensures in
    let n = needs-are _ c.terms-terms.result.now t.terms t.widths.0 t.widths.1 c.requires.terms c.structure-old.result.now c.structure-old.ensures.structure _ c.needs_after-needs.ensures in
    room-there _ _ n _ c.if-needs-gt-OUTPUTS.false (omega (arith, c.min.ensures, c.if-min-needs.false))
