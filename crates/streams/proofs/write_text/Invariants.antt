-- `write_text` writes a piece a turn. Assumes nothing.
use Rattle.streams.proofs.PieceLaws.{Sent}
use Rattle.streams.proofs.write_text.Given as goal

abbrev pub invariant-loop : goal.invariant-loop
invariant-loop g l = Sent (g.T.Pieces.rest l.text) (g.W.Write.contents l.initial.out) l.initial.next (g.W.Write.contents l.out) l.next
