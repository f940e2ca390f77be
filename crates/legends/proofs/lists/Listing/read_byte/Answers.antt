-- `read_byte` closes the line at a newline. Assumes nothing.
use Rattle.legends.specs.Listed.{listing_of}
use Rattle.legends.proofs.Storing.{newline_read, other_read}
use Rattle.legends.proofs.lists.Listing.read_byte.Goals as goal

pub returns-then-byte-eq10 : goal.returns-then-byte-eq10
returns-then-byte-eq10 c = newline_read _ _ _ c.if-byte-eq10.true c.close_line.ensures

pub returns-else-byte-eq10 : goal.returns-else-byte-eq10
returns-else-byte-eq10 c =
    other_read (listing_of c.args.self.now c.args.terms.now) _ _ c.if-byte-eq10.false c.take.ensures
