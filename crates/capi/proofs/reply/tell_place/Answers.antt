use Rattle.std.proofs.Common.{refl}
use Rattle.capi.specs.Lent.{place_after}
use Rattle.capi.proofs.Replies.{told_none}
use Rattle.capi.proofs.reply.tell_place.Goals as goal

pub returns-in-BadTerm-clause-told : goal.returns-in-BadTerm-clause-told
unfolding place_after
returns-in-BadTerm-clause-told c = rw c.in-BadTerm.is refl

pub returns-in_default : goal.returns-in_default
returns-in_default c = record { same = refl; told = told_none c.args.at c.args.told.now c.args.refusal c.in_default.not-BadTerm }
