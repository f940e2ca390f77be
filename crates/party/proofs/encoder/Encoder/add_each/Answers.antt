-- `add_each` is the model's `add`, refusal by refusal. Assumes nothing.
use Rattle.std.proofs.Common.{arith, ◌≤◌, ◌-◌, ◌∙◌, sym, length}
use Rattle.party.proofs.AddLaws.{add_bad, add_damaged, all_added, bad_at, here, surely, too_large, too_many, total_fits, weights_fit}
use Rattle.party.proofs.encoder.Encoder.add_each.Goals as goal

pub returns-then-is_damaged : goal.returns-then-is_damaged
returns-then-is_damaged g c = sym (add_damaged _ _ (sym c.is_damaged.ensures.damaged ∙ c.if-is_damaged.true))

pub returns-in-Some : goal.returns-in-Some
returns-in-Some g c =
    let damage = rw (← c.self.view_is) at c.if-is_damaged.ensures in
    let bad = bad_at c.self.inside.given.first (g.L.TermList.terms c.args.terms.now) c.in-Some.place (sym c.in-Some.ensures) in
    rw (← c.self.view_is) (sym (add_bad _ _ (sym damage.damaged) _ bad.0 bad.1))

pub keeps_total-requires : goal.keeps_total-requires
keeps_total-requires g c =
    let r = here _ _ c.self.view_is (g.L.TermList.terms c.args.terms.now) _ c.total-total.ensures.total c.total-total.ensures.widths c.if-is_damaged.ensures.damaged c.if-is_damaged.ensures.within c.in_default.ensures in
    rw r.1 (total_fits _ _ r.0)

pub returns-then-not-keeps_total : goal.returns-then-not-keeps_total
returns-then-not-keeps_total g c =
    let r = here _ _ c.self.view_is (g.L.TermList.terms c.args.terms.now) _ c.total-total.ensures.total c.total-total.ensures.widths c.if-is_damaged.ensures.damaged c.if-is_damaged.ensures.within c.in_default.ensures in
    rw (← c.self.view_is) (sym (too_large _ _ r.0 (rw r.1 at c.if-not-keeps_total.ensures)))

pub lay_all-requires-clause-fits : goal.lay_all-requires-clause-fits
lay_all-requires-clause-fits g c =
    let r = here _ _ c.self.view_is (g.L.TermList.terms c.args.terms.now) _ c.total-total.ensures.total c.total-total.ensures.widths c.if-is_damaged.ensures.damaged c.if-is_damaged.ensures.within c.in_default.ensures in
    weights_fit _ _ r.0 (rw r.1 at c.if-not-keeps_total.ensures)

pub lay_all-requires-2-clause-fits : goal.lay_all-requires-2-clause-fits
lay_all-requires-2-clause-fits g c =
    let r = here _ _ c.self.view_is (g.L.TermList.terms c.args.terms.now) _ c.total-total.ensures.total c.total-total.ensures.widths c.if-is_damaged.ensures.damaged c.if-is_damaged.ensures.within c.in_default.ensures in
    weights_fit _ _ r.0 (rw r.1 at c.if-not-keeps_total.ensures)

pub returns-in_default-lay_all : goal.returns-in_default-lay_all
returns-in_default-lay_all g c =
    let r = here _ _ c.self.view_is (g.L.TermList.terms c.args.terms.now) _ c.total-total.ensures.total c.total-total.ensures.widths c.if-is_damaged.ensures.damaged c.if-is_damaged.ensures.within c.in_default.ensures in
    let few : length (g.L.TermList.terms c.args.terms.now) ≤ 128 - c.self.inside.terms.count = omega (arith, c.count.ensures) in
    absurd (omega (arith, c.in_default-lay_all.ensures.full, surely _ _ r.0 few))

pub returns-in_default-lay_all-2 : goal.returns-in_default-lay_all-2
returns-in_default-lay_all-2 g c =
    let r = here _ _ c.self.view_is (g.L.TermList.terms c.args.terms.now) _ c.total-total.ensures.total c.total-total.ensures.widths c.if-is_damaged.ensures.damaged c.if-is_damaged.ensures.within c.in_default.ensures in
    rw (← c.self.view_is) (sym (too_many _ _ r.0 (rw r.1 at c.if-not-keeps_total.ensures) c.in_default-lay_all-2.ensures.full))

pub returns-then-count : goal.returns-then-count
returns-then-count g c =
    let r = here _ _ c.self.view_is (g.L.TermList.terms c.args.terms.now) _ c.total-total.ensures.total c.total-total.ensures.widths c.if-is_damaged.ensures.damaged c.if-is_damaged.ensures.within c.in_default.ensures in
    rw (← c.self.view_is) (sym (all_added _ _ r.0 (rw r.1 at c.if-not-keeps_total.ensures) _ _ _ (omega arith) (omega arith) c.in-Some-lay_all.ensures.within c.in-Some-lay_all.ensures.laid))

pub returns : goal.returns
returns g c =
    let r = here _ _ c.self.view_is (g.L.TermList.terms c.args.terms.now) _ c.total-total.ensures.total c.total-total.ensures.widths c.if-is_damaged.ensures.damaged c.if-is_damaged.ensures.within c.in_default.ensures in
    rw (← c.self.view_is) (sym (all_added _ _ r.0 (rw r.1 at c.if-not-keeps_total.ensures) _ _ _ (omega arith) (omega arith) c.in-Some-lay_all-2.ensures.within c.in-Some-lay_all-2.ensures.laid))
