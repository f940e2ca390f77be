-- `close_line` takes the line and begins the next. Assumes nothing.
use Rattle.text.proofs.Steps.{raised_is}
use Rattle.plan.proofs.Blocks.{line_closed}
use Rattle.plan.proofs.Reading.close_line.Goals as goal

pub returns : goal.returns
returns c = line_closed _ _ _ _ _ _ c.args.self.now.fresh _ c.line_of-line.ensures c.take_line.ensures c.begin_line-self.ensures (raised_is _ _ _ c.saturating_add-self.ensures)
