-- `finish` gives the model's answer to the list of terms that the run was folded over. Assumes nothing.
use Rattle.std.proofs.Common.{arith, ◌∙◌, sym}
use Rattle.party.proofs.AddLaws.{add_damaged}
use Rattle.party.proofs.RunLaws.{all_held, no_place, one_bad, too_heavy}
use Rattle.party.proofs.adding.Adding.finish.Goals as goal

pub returns-then-is_damaged : goal.returns-then-is_damaged
returns-then-is_damaged c = λ ts e. sym (add_damaged _ _ (sym c.is_damaged.ensures.damaged ∙ c.if-is_damaged.true))

pub returns-then-self : goal.returns-then-self
returns-then-self c =
    let sound = sym c.is_damaged.ensures.damaged ∙ c.if-is_damaged.false in
    λ ts e. sym (one_bad _ _ ts c.if-is_damaged.ensures.widths sound c.if-is_damaged.ensures.within e c.if-self.true)

pub returns-then-self-gt-MOST_SUM : goal.returns-then-self-gt-MOST_SUM
returns-then-self-gt-MOST_SUM c =
    let sound = sym c.is_damaged.ensures.damaged ∙ c.if-is_damaged.false in
    λ ts e. sym (too_heavy _ _ ts c.if-is_damaged.ensures.widths sound c.if-is_damaged.ensures.within e c.if-self.false (omega (arith, c.if-self-gt-MOST_SUM.true)))

pub returns-then-self-2 : goal.returns-then-self-2
returns-then-self-2 c =
    let sound = sym c.is_damaged.ensures.damaged ∙ c.if-is_damaged.false in
    λ ts e. sym (no_place _ _ ts c.if-is_damaged.ensures.widths sound c.if-is_damaged.ensures.within e c.if-self.false (omega (arith, c.if-self-gt-MOST_SUM.false)) c.if-self-2.true)

pub returns : goal.returns
returns c =
    let sound = sym c.is_damaged.ensures.damaged ∙ c.if-is_damaged.false in
    λ ts e. rw c.replace_terms.ensures (sym (all_held _ _ ts c.if-is_damaged.ensures.widths sound c.if-is_damaged.ensures.within e c.if-self.false (omega (arith, c.if-self-gt-MOST_SUM.false)) c.if-self-2.false))
