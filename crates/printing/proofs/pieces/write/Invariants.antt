-- `write` takes turns: at each, what was put from the buffer's first byte on and what is left to write are the whole. Assumes nothing.
use Rattle.printing.specs.Pieces.{left_at}
use Rattle.printing.proofs.Along.{Along}
use Rattle.printing.proofs.pieces.write.Given as goal

abbrev pub invariant-loop-out : goal.invariant-loop-out
invariant-loop-out g l = Along (g.P.Pieces.rest l.text) (g.P.Pieces.left l.text) l.initial.wrote.next l.initial.out l.wrote.next l.wrote.len l.out

abbrev pub decreases-loop-out : goal.decreases-loop-out
decreases-loop-out g l = left_at (g.P.Pieces.left l.text) l.wrote.next
