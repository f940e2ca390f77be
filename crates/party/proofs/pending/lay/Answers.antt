-- `lay` raises the weight that stands there, or comes behind the last. Assumes nothing.
use Rattle.std.proofs.Common.{arith, rules, ◌<◌, ◌+◌, ◌^◌, get_or}
use Rattle.party.proofs.LayingLaws.{appended, cut, grown, raised, weight_within}
use Rattle.party.proofs.pending.lay.Goals as goal

pub overflow_add-raised : goal.overflow_add-raised
overflow_add-raised c =
    let within : c.in-Some.k < c.args.count = omega (arith, c.in-Some.ensures.found, cut c.args.weights.now c.args.words.now c.args.count 0 0 (omega arith) (omega arith)) in
    let bound : get_or c.args.weights.now c.in-Some.k 0 + c.args.weight < 2 ^ 32 = omega (arith, weight_within c.args.weights.now c.args.words.now c.args.count c.in-Some.k (omega arith) (omega arith) within) in
    search rules

pub returns-in-Some-clause-laid : goal.returns-in-Some-clause-laid
returns-in-Some-clause-laid c = raised _ _ _ _ _ (omega arith) (omega arith) _ c.in-Some.ensures.found.0 c.in-Some.ensures.found.1 c.in-Some.ensures.first

pub returns-then-count-eq-MOST_TERMS-clause-full : goal.returns-then-count-eq-MOST_TERMS-clause-full
returns-then-count-eq-MOST_TERMS-clause-full c = omega (arith, grown c.args.weights.now c.args.words.now c.args.count c.args.weight c.args.word (omega arith) (omega arith) c.in-None.ensures.none)

pub returns-else-count-eq-MOST_TERMS-clause-laid : goal.returns-else-count-eq-MOST_TERMS-clause-laid
returns-else-count-eq-MOST_TERMS-clause-laid c = appended _ _ _ _ _ (omega arith) (omega arith) c.in-None.ensures.none (omega arith) (omega arith)
