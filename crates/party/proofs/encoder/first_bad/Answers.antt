-- `first_bad` finds the first bad term. Assumes nothing.
use Rattle.std.proofs.Common.{arith, ◌∙◌, sym, ap}
use Rattle.model.specs.Calls.{is_bad_term}
use Rattle.party.specs.Laying.{term_of}
use Rattle.party.proofs.AddLaws.{found_at, none_found}
use Rattle.party.proofs.EachLaws.{no_term}
use Rattle.party.proofs.encoder.first_bad.Goals as goal

pub returns-then-is_bad : goal.returns-then-is_bad
returns-then-is_bad g c =
    let bad = ap (λ t. is_bad_term c.args.first (term_of t)) (c.at.ensures no_term) in
    found_at _ (g.L.TermList.terms c.args.terms.now) c.loop-i.i no_term (omega arith) c.loop-i.invariant (sym bad ∙ sym c.is_bad.ensures ∙ c.if-is_bad.true)

pub returns : goal.returns
returns g c = none_found _ (g.L.TermList.terms c.args.terms.now) c.loop-i.i no_term (omega arith) c.loop-i.invariant
