-- `take_line` is the model's step, by the plan's stage. Assumes nothing.
use Rattle.std.proofs.Common.{ap, ◌∙◌}
use Rattle.plan.specs.Reading.{after}
use Rattle.plan.proofs.LineLaws.{take_first, take_later, take_none}
use Rattle.plan.proofs.Plan.take_line.Goals as goal

pub returns-in-First : goal.returns-in-First
returns-in-First c = take_first _ _ _ c.args.self.now.stage _ c.in-First.is (c.go_on.ensures _ _ _ _ ∙ ap after (c.first_line-done.ensures _))

pub returns-in-Going : goal.returns-in-Going
returns-in-Going c = take_later _ _ _ c.args.self.now.stage _ c.in-Going.is (c.go_on-in-Going.ensures _ _ _ _ ∙ ap after (c.later_line-done.ensures _))

pub returns-in-Stopped : goal.returns-in-Stopped
returns-in-Stopped c = take_none _ _ _ c.args.self.now.stage _ _ c.in-Stopped.is
