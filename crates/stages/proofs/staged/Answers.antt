-- `staged` is one direction of the model. Assumes nothing.
use Rattle.std.proofs.Common.{◌≡◌, ◌≤◌, refl, arith, length, rules}
use Rattle.model.specs.Compare.{out_lits}
use Rattle.stages.proofs.Steps.{stage-some}
use Rattle.stages.proofs.staged.Goals as goal
use Rattle.stages.proofs.staged.Given.{Over}
use Rattle.stages.proofs.staged.Goals.{Start}

wide : (g : Over) (c : goal.Start g) → length c.args.built.now.outputs ≡ 48
wide g c = search rules

pub returns : goal.returns
returns g c =
    let t = c.emit_outputs.new.nodes in
    let os = c.args.built.now.outputs in
    let l : c.args.built.now.len ≤ length os = omega (arith, c.requires.asked.outputs, wide g (goal.at.returns g c).Start) in
    stage-some _ _ _ c.args.cut _ t _ _ _ _ _ c.args.bounded.now _ _ _ refl c.requires.some (rw c.present.ensures at c.emit_outputs.ensures)
    (c.bound_all.ensures t os (c.pairs_of-pairs.ensures (out_lits t os) c.resolve-codes.ensures) l)
