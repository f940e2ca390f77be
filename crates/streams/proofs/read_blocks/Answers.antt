-- `read_blocks` hands on a block a turn. Assumes nothing.
use Rattle.std.proofs.Common.{rules, of_calls, refl}
use Rattle.streams.proofs.BlockLaws.{taken_more}
use Rattle.streams.proofs.read_blocks.Goals as goal

pub loop-preserved : goal.loop-preserved
loop-preserved g c =
    (λ a. let b = c.loop.invariant.0 a in search of_calls, taken_more g.F.FnMut _ _ _ _ _ _ _ c.loop.invariant.1 (search rules) (record { shown = _; shows = refl; called = c.take.ensures }))
