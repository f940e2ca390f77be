-- `write_text` writes a piece a turn. Assumes nothing.
use Rattle.std.proofs.Common.{rules}
use Rattle.streams.proofs.PieceLaws.{sent_more}
use Rattle.streams.proofs.write_text.Goals as goal

pub loop-preserved : goal.loop-preserved
loop-preserved g c =
    sent_more _ _ _ _ _ _ _ _ c.loop.invariant (search rules) c.write-wrote.ensures.text
