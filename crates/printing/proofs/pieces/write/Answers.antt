-- `write` takes turns: at each, what was put from the buffer's first byte on and what is left to write are the whole. Assumes nothing.
use Rattle.std.proofs.Common.{arith}
use Rattle.printing.proofs.Along.{along-token, along-done, along-full}
use Rattle.printing.proofs.pieces.write.Goals as goal

pub loop-out-preserved : goal.loop-out-preserved
loop-out-preserved g c =
    along-token _ _ _ _ _ _ _ c.loop-out.invariant c.in-Some.is (omega arith) c.put_token-wrote.ensures

pub returns-in_default : goal.returns-in_default
returns-in_default g c = along-done _ _ _ _ _ _ _ c.loop-out.invariant _ c.in_default.is

pub returns : goal.returns
returns g c = along-full _ _ _ _ _ _ _ c.loop-out.invariant _ (omega (arith, c.longest.ensures))
