-- `any_bad_output` is the model's search. Assumes nothing.
use Rattle.std.proofs.Common.{rules, refl}
use Rattle.std.proofs.lemmas.List.Recursion.{or_is}
use Rattle.model.specs.Damage.{any_bad_output, bad_output}
use Rattle.party.proofs.check.any_bad_output.Goals as goal

pub returns : goal.returns
returns c =
    or_is (any_bad_output c.args.nodes) (bad_output c.args.nodes) refl (λ _ _. refl) c.args.outputs.now 0 c.any.result
    (search rules) (search rules)
