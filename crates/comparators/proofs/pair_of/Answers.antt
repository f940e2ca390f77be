-- `pair_of` is a code's word, as it stands and negated. Assumes nothing.
use Rattle.std.proofs.Common.{◌∙◌, arith}
use Rattle.literal.proofs.Signed.{back}
use Rattle.comparators.proofs.Codings.{word_none, word-plain, word-minus}
use Rattle.comparators.proofs.pair_of.Goals as goal

pub returns-then-code-eq0 : goal.returns-then-code-eq0
returns-then-code-eq0 c = λ o e. (word_none _ 0 c.if-code-eq0.true o e (omega arith), word_none _ 1 c.if-code-eq0.true o e (omega arith))

pub returns-then-code-eq0-2 : goal.returns-then-code-eq0-2
returns-then-code-eq0-2 c = λ o e. (
  word-plain _ 0 _ c.if-code-eq0.false c.if-code-eq0-2.true (back (record { sfits = c.plain_word-plain.type_inv }) ∙ c.plain_word-plain.ensures) o e (omega arith),
  word-minus _ 1 _ c.if-code-eq0.false (λ d. omega (arith, d, c.if-code-eq0-2.true)) (back (record { sfits = c.minus_word-minus.type_inv }) ∙ c.minus_word-minus.ensures) o e (omega arith),
)

pub returns-else-code-eq0-2 : goal.returns-else-code-eq0-2
returns-else-code-eq0-2 c = λ o e. (
  word-minus _ 0 _ c.if-code-eq0.false c.if-code-eq0-2.false (back (record { sfits = c.minus_word-minus.type_inv }) ∙ c.minus_word-minus.ensures) o e (omega arith),
  word-plain _ 1 _ c.if-code-eq0.false (omega (arith, c.if-code-eq0-2.false)) (back (record { sfits = c.plain_word-plain.type_inv }) ∙ c.plain_word-plain.ensures) o e (omega arith),
)
