-- `cut_up` gives the upper values. Assumes nothing.
use Rattle.encoder.proofs.Ranges.{up-cut}
use Rattle.encoder.proofs.range.cut_up.Goals as goal

pub returns : goal.returns
returns c = up-cut c.args.range _ _ _ c.min.ensures c.span.ensures
