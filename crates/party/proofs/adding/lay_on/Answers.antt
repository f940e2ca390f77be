-- `lay_on` lays a term where its literal is pending already, or behind the last. Assumes nothing.
use Rattle.std.proofs.Common.{arith}
use Rattle.party.specs.Adding.{held}
use Rattle.party.proofs.PlaceLaws.{laid_behind, laid_full, laid_heavy, laid_raised}
use Rattle.party.proofs.adding.lay_on.Goals as goal

pub returns-then-known-weight : goal.returns-then-known-weight
returns-then-known-weight c =
    let s = c.args in
    λ F. laid_heavy (held F s.weights.now s.words.now s.counts) _ _ _ c.min-used.result c.if-counts.false (omega arith) (omega arith) c.in-Some.k c.in-Some.ensures.found.0 c.in-Some.ensures.found.1 c.in-Some.ensures.first (omega arith)

pub returns-else-known-weight : goal.returns-else-known-weight
returns-else-known-weight c =
    let s = c.args in
    λ F. laid_raised (held F s.weights.now s.words.now s.counts) _ _ _ c.min-used.result c.if-counts.false (omega arith) (omega arith) c.in-Some.k c.in-Some.ensures.found.0 c.in-Some.ensures.found.1 c.in-Some.ensures.first (omega arith)

pub returns-then-used-eq-MOST_TERMS : goal.returns-then-used-eq-MOST_TERMS
returns-then-used-eq-MOST_TERMS c =
    let s = c.args in
    λ F. laid_full (held F s.weights.now s.words.now s.counts) _ _ _ c.min-used.result c.if-counts.false (omega arith) (omega arith) c.in-None.ensures.none (omega arith)

pub returns-else-used-eq-MOST_TERMS : goal.returns-else-used-eq-MOST_TERMS
returns-else-used-eq-MOST_TERMS c =
    let s = c.args in
    λ F. laid_behind (held F s.weights.now s.words.now s.counts) _ _ _ c.min-used.result c.if-counts.false (omega arith) (omega arith) c.in-None.ensures.none (omega arith)
