-- A reserve on a scratch table needs as many numbers as the model's. Assumes nothing.
use Rattle.std.proofs.Common.{arith}
use Rattle.party.specs.Read.{machine_of}
use Rattle.staging.proofs.Builds.{buildable}
use Rattle.staging.proofs.Reserving.{reserve-counts}
use Rattle.staging.proofs.reserve_within.Goals as goal

pub copy_words-requires : goal.copy_words-requires
copy_words-requires g c =
    let b = buildable _ _ _ _ c.requires.0 c.requires.1 c.scratch-room.ensures in
    (omega (arith, c.requires.0.old, c.nodes.ensures), omega (arith, b.old, c.nodes.ensures))

pub returns : goal.returns
returns g c = λ shared bs ws.
    let m = machine_of c.args.encoder.now shared c.args.next c.args.nodes.now bs ws in
    reserve-counts m c.build_on-built.result _ c.scratch-room.result _ _ _ c.requires.0 (omega (arith, c.requires.1, c.scratch-room.ensures))
    (rw c.nodes.ensures at c.copy_words.ensures) c.build_on-built.ensures.answer (rw c.present.ensures at c.reserve_outputs.ensures)
