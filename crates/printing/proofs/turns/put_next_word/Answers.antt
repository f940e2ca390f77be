-- `put_next_word` lays a word, or goes on to the answers. Assumes nothing.
use Rattle.std.proofs.Common.{◌<◌, arith, length, get_or, ℤ, pos}
use Rattle.literal.proofs.Signed.{back}
use Rattle.printing.specs.Rest.{word_row}
use Rattle.printing.specs.Printed.{printed_of}
use Rattle.printing.proofs.Putting.{token-put, token-none}
use Rattle.printing.proofs.Resting.{word-short, word-rest, word-left, words-rest, words-left}
use Rattle.printing.proofs.turns.put_next_word.Goals as goal

pub returns-then-i-end : goal.returns-then-i-end
returns-then-i-end c =
    token-none _ _ _ _ 64 _ _ (omega arith) (omega arith) (words-rest _ _ (omega (arith, c.min-end.ensures))) (words-left _ _)

pub returns : goal.returns
returns c =
    let o = printed_of c.args.printed.now in
    let i = c.args.i in
    let z : ℤ = get_or o.machine.clauses i (pos 0) in
    let h : i < o.machine.shared.fill = omega (arith, c.min-end.ensures, c.if-i-end.false) in
    let k : i < length o.machine.clauses = omega (arith, c.min-end.ensures, c.if-i-end.false) in
    token-put _ _ _ _ 64 _ _ (omega arith) (omega arith) (word_row z) (word-short z) (rw (back (record { sfits = c.word-1.given })) at c.put_word-len.ensures) (word-rest o i h k) (word-left o i h)
