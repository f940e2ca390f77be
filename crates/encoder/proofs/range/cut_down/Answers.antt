-- `cut_down` gives the lower values' records. Assumes nothing.
use Rattle.encoder.proofs.Ranges.{down-cut}
use Rattle.encoder.proofs.range.cut_down.Goals as goal

pub returns : goal.returns
returns c = down-cut c.args.range _ _ _ _ c.max-low.ensures c.min.ensures c.span.ensures
