use Rattle.std.proofs.Common.{sym, ◌∙◌}
use Rattle.capi.proofs.Pairs.{pairs_count}
use Rattle.capi.proofs.adding.PairsTermList.count.Goals as goal

pub returns : goal.returns
returns c = c.min.ensures ∙ sym (pairs_count _ _)
