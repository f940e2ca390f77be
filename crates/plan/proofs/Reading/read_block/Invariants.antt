-- `read_block` reads a byte a turn: what is left, read from here, is the whole. Assumes nothing.
use Rattle.std.proofs.Common.{◌≡◌, ◌≤◌, length, drop}
use Rattle.plan.specs.Reading.{read_all, held_of, Room}
use Rattle.plan.proofs.Reading.read_block.Given as goal

abbrev pub invariant-loop-byte : goal.invariant-loop-byte
invariant-loop-byte l =
    (l.byte-index ≤ length l.bytes) × Room l.nodes l.bounds l.clauses l.asked
    × (read_all (held_of l.self l.nodes l.bounds l.clauses l.asked) (drop l.byte-index l.bytes)
    ≡ read_all (held_of l.initial.self l.initial.nodes l.initial.bounds l.initial.clauses l.initial.asked) l.bytes)
