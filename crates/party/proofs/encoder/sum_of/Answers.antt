-- `sum_of` is the sum, and 128 weights stay below 2^40. Assumes nothing.
use Rattle.std.proofs.Common.{arith, rules, ◌≡◌, ◌<◌, ◌^◌, ℕ, get_or, sum}
use Rattle.party.proofs.StateLaws.{sum_at_most}
use Rattle.party.proofs.encoder.sum_of.Goals as goal

pub returns-clause-bounded : goal.returns-clause-bounded
returns-clause-bounded c =
    let total : c.sum.result ≡ sum c.args.weights.now = search rules in
    let fits : (k : ℕ) → get_or c.args.weights.now k 0 < 2 ^ 32 = λ k. omega (arith, c.type_inv.weights k) in
    omega (arith, total, sum_at_most c.args.weights.now fits)
