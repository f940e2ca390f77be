-- `finish` closes a last line without a newline. Assumes nothing.
use Rattle.legends.specs.Listed.{listing_of}
use Rattle.legends.proofs.Storing.{end_fresh, end_line}
use Rattle.legends.proofs.lists.Listing.finish.Goals as goal

pub returns-then-not-listing : goal.returns-then-not-listing
returns-then-not-listing c =
    end_line (listing_of c.args.self c.args.terms.now) _ c.if-not-listing.true c.close_line.ensures

pub returns-else-not-listing : goal.returns-else-not-listing
returns-else-not-listing c = end_fresh (listing_of c.args.self c.args.terms.now) c.if-not-listing.false
