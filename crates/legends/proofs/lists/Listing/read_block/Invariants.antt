-- `read_block` reads a byte a turn: what is left, read from here, is the whole. Assumes nothing.
use Rattle.std.proofs.Common.{◌≡◌, ◌≤◌, length, drop}
use Rattle.text.specs.Folding.{fold_bytes}
use Rattle.legends.specs.Listed.{closed, listing_of}
use Rattle.legends.proofs.lists.Listing.read_block.Given as goal

abbrev pub invariant-loop-byte : goal.invariant-loop-byte
invariant-loop-byte l =
    (l.byte-index ≤ length l.bytes)
    × (fold_bytes closed (listing_of l.self l.terms) (drop l.byte-index l.bytes) ≡ fold_bytes closed (listing_of l.initial.self l.initial.terms) l.bytes)
