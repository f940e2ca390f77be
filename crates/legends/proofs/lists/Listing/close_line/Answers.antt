-- `close_line` notes the line's term and begins the next line. Assumes nothing.
use Rattle.text.proofs.Steps.{raised_is}
use Rattle.legends.specs.Listed.{listing_of}
use Rattle.legends.proofs.Storing.{line_none, line_term}
use Rattle.legends.proofs.lists.Listing.close_line.Goals as goal

pub returns-in_default : goal.returns-in_default
returns-in_default c =
    line_none (listing_of c.args.self.now c.args.terms.now) _ c.line_of-line.ensures c.begin_line-self.ensures _ c.term_of.ensures c.in_default.is

pub returns : goal.returns
returns c =
    line_term (listing_of c.args.self.now c.args.terms.now) _ c.line_of-line.ensures c.begin_line-self.ensures _ c.term_of.ensures _ c.in-Some.is c.note.ensures
    (raised_is _ _ _ c.saturating_add-self.ensures)
