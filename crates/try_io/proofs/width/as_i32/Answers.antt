-- `as_i32` gives the nearest word. Assumes nothing.
use Rattle.std.proofs.Common.{rules}
use Rattle.try_io.proofs.Wide.{nearest}
use Rattle.try_io.proofs.width.as_i32.Goals as goal

pub returns : goal.returns
returns c = nearest c.args.x c.clamp.result (record { sfits = search rules }) c.clamp.ensures.value
