-- `dry_run` tells on scratch tables what the model's work lacks. Assumes nothing.
use Rattle.std.proofs.Common.{◌∙◌, [], arith}
use Rattle.model.specs.Machine.{Machine}
use Rattle.party.specs.Read.{machine_of}
use Rattle.stages.proofs.Drying.{rooms, scratch-asks, scratch-tells}
use Rattle.stages.proofs.dry_run.Goals as goal

pub copy_words-requires : goal.copy_words-requires
copy_words-requires g c =
    let r = rooms _ _ _ _ _ _ _ c.requires in
    (omega (arith, r.0, c.nodes.ensures), omega (arith, r.1, c.nodes.ensures, c.scratch-table.ensures))

pub both-requires : goal.both-requires
both-requires g c =
    let a = c.args in
    let m : Machine = machine_of a.encoder.now a.shared a.next a.nodes.now a.bounds.now [] in
    scratch-asks m c.kept_bounds-old.ensures.wide a.up a.down _ _ c.requires _ _ c.scratch-table.ensures c.scratch-records.ensures c.build_on-built.result _ _ _ _
    c.kept_bounds-old.ensures.kept (rw c.nodes.ensures at c.copy_words.ensures) c.copy_words-2.ensures c.build_on-built.ensures.answer

pub returns : goal.returns
returns g c = λ ws long short.
    let a = c.args in
    let m : Machine = machine_of a.encoder.now a.shared a.next a.nodes.now a.bounds.now ws in
    (rw (← long) at c.verdict.ensures)
    ∙ scratch-tells m c.kept_bounds-old.ensures.wide a.up a.down _ _ c.requires _ _ c.scratch-table.ensures c.scratch-records.ensures c.build_on-built.result _ _ _ _
    c.kept_bounds-old.ensures.kept (rw c.nodes.ensures at c.copy_words.ensures) c.copy_words-2.ensures c.build_on-built.ensures.answer [] _ _ _ c.both.new.bounded
    (rw c.clauses.ensures at c.both.ensures) (omega (arith, long, short))
