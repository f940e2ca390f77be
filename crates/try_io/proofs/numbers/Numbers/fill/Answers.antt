-- `fill` takes a number for each item. Assumes nothing.
use Rattle.std.proofs.Common.{◌∙◌, ap, drop}
use Rattle.std.proofs.lemmas.List.{drop-drop}
use Rattle.try_io.proofs.numbers.Numbers.fill.Goals as goal

pub loop-item-preserved : goal.loop-item-preserved
loop-item-preserved g c = c.read.ensures.left ∙ ap (drop 1) c.loop-item.invariant ∙ drop-drop 1 c.loop-item.item-index c.args.self.now
