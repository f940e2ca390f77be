-- `step_on` takes one term to what is held. Assumes nothing.
use Rattle.std.proofs.Common.{arith, rules, ◌≡◌, ◌∙◌, sym}
use Rattle.model.specs.Words.{connection_of}
use Rattle.party.specs.Adding.{held}
use Rattle.party.proofs.RunLaws.{ended, lays_at, passes, stays, stops}
use Rattle.party.proofs.adding.step_on.Goals as goal

pub returns-then-counts : goal.returns-then-counts
returns-then-counts c =
    let s = c.args in
    sym (ended (held s.first s.weights.now s.words.now s.counts) s.term s.place c.if-counts.true)

pub returns-then-is_bad : goal.returns-then-is_bad
returns-then-is_bad c =
    let s = c.args in
    sym (stops (held s.first s.weights.now s.words.now s.counts) s.term s.place c.if-counts.false (sym c.is_bad.ensures ∙ c.if-is_bad.true))

pub returns-then-counts-gt-MOST_SUM : goal.returns-then-counts-gt-MOST_SUM
returns-then-counts-gt-MOST_SUM c =
    let s = c.args in
    sym (stays (held s.first s.weights.now s.words.now s.counts) s.term s.place c.if-counts.false (sym c.is_bad.ensures ∙ c.if-is_bad.false) (omega (arith, c.if-counts-gt-MOST_SUM.true)))

pub returns-then-raised-gt-MOST_SUM : goal.returns-then-raised-gt-MOST_SUM
returns-then-raised-gt-MOST_SUM c =
    let s = c.args in
    sym (passes (held s.first s.weights.now s.words.now s.counts) s.term s.place c.if-counts.false (sym c.is_bad.ensures ∙ c.if-is_bad.false) (omega (arith, c.if-counts-gt-MOST_SUM.false)) _ (omega (arith, c.from.ensures)) (omega (arith, c.if-raised-gt-MOST_SUM.true)))

pub returns : goal.returns
returns c =
    let s = c.args in
    let word : c.connection-word.result ≡ connection_of s.term.literal = search rules in
    c.lay_on.ensures s.first
    ∙ lays_at (held s.first s.weights.now s.words.now s.counts) s.term s.place c.if-counts.false (sym c.is_bad.ensures ∙ c.if-is_bad.false) (omega (arith, c.if-counts-gt-MOST_SUM.false)) _ (omega (arith, c.from.ensures)) (omega (arith, c.if-raised-gt-MOST_SUM.false)) _ word
