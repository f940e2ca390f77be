-- `read_blocks` hands on a block a turn. Assumes nothing.
use denote.Param.Always.{always_mut}
use Rattle.streams.proofs.BlockLaws.{Taken}
use Rattle.streams.proofs.read_blocks.Given as goal

abbrev pub invariant-loop : goal.invariant-loop
invariant-loop g l =
    (always_mut g.F.FnMut l.initial.take → always_mut g.F.FnMut l.take)
    × Taken g.F.FnMut l.initial.take (g.R.Read.remaining l.initial.input) (g.R.Read.remaining l.input) l.take
