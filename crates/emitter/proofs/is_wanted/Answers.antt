-- A connection is wanted where its node's bit is. Assumes nothing.
use Rattle.emitter.proofs.EmitLaws.{bit_wanted}
use Rattle.emitter.proofs.is_wanted.Goals as goal

pub returns-then-n-limit : goal.returns-then-n-limit
returns-then-n-limit c =
    rw (← c.from.ensures, c.in-Sum.is) (bit_wanted _ _ _ _ _ _ _ c.if-n-limit.true c.claim.ensures c.is_some.ensures)

pub returns-then-n-limit-2 : goal.returns-then-n-limit-2
returns-then-n-limit-2 c =
    rw (← c.from.ensures, c.in-Carry.is) (bit_wanted _ _ _ _ _ _ _ c.if-n-limit-2.true c.claim-then-n-limit-2.ensures c.is_some-then-n-limit-2.ensures)
