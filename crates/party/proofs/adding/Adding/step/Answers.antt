-- `step` is `step_on`, of the run's own lists. Assumes nothing.
use Rattle.party.proofs.adding.Adding.step.Goals as goal

pub returns : goal.returns
returns c = c.step_on-counts.ensures
