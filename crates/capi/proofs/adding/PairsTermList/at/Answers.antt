-- Both lists reach as far as the terms do. Assumes nothing.
use Rattle.std.proofs.Common.{arith, rules, ◌≡◌, ◌<◌, length, get_or, pos, to_z, of_z, w32}
use Rattle.capi.proofs.Pairs.{pair_at, pairs_count}
use Rattle.capi.proofs.adding.PairsTermList.at.Goals as goal

pub bounds-self-i : goal.bounds-self-i
bounds-self-i c = omega (arith, c.requires, pairs_count c.args.self.now.weights.now c.args.self.now.literals.now)

pub offset_bounds-self-i : goal.offset_bounds-self-i
offset_bounds-self-i c = let h : c.args.i < length c.args.self.now.weights.now = omega (arith, c.requires, pairs_count c.args.self.now.weights.now c.args.self.now.literals.now) in search rules

pub bounds-self-i-2 : goal.bounds-self-i-2
bounds-self-i-2 c = omega (arith, c.requires, pairs_count c.args.self.now.weights.now c.args.self.now.literals.now)

pub offset_bounds-self-i-2 : goal.offset_bounds-self-i-2
offset_bounds-self-i-2 c = let h : c.args.i < length c.args.self.now.literals.now = omega (arith, c.requires, pairs_count c.args.self.now.weights.now c.args.self.now.literals.now) in search rules

pub returns : goal.returns
returns c = λ d.
    let s = c.args.self.now in
    let h : c.args.i < length s.literals.now = omega (arith, c.requires, pairs_count s.weights.now s.literals.now) in
    let word : to_z w32 (of_z w32 (get_or s.literals.now c.args.i (pos 0))) ≡ get_or s.literals.now c.args.i (pos 0) = search rules in
    rw word (pair_at s.weights.now s.literals.now c.args.i d c.requires)
