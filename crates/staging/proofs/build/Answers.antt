-- `build` is the model's build, without pending terms and with them. Assumes nothing.
use Rattle.std.proofs.Common.{rules}
use Rattle.party.specs.Read.{machine_of}
use Rattle.staging.proofs.Builds.{built-none, built-some}
use Rattle.staging.proofs.build.Goals as goal

pub returns-then-pending-ne0-clause-machine : goal.returns-then-pending-ne0-clause-machine
returns-then-pending-ne0-clause-machine c = λ shared next bs ws.
    let a = c.args in
    built-some (machine_of a.encoder.now shared next a.nodes.now bs ws) _ c.build_on-built.result _ (search rules) c.build_on-built.ensures.wide
    (rw c.pending.ensures at c.if-pending-ne0.true) c.build_on-built.ensures.answer

pub returns-else-pending-ne0-clause-machine : goal.returns-else-pending-ne0-clause-machine
returns-else-pending-ne0-clause-machine c = λ shared next bs ws.
    let a = c.args in
    built-none (machine_of a.encoder.now shared next a.nodes.now bs ws) _ c.build_on-built.result
    (rw c.pending.ensures at c.if-pending-ne0.false) c.build_on-built.ensures.answer
