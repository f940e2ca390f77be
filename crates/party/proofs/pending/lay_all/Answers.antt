-- `lay_all` lays term after term. Assumes nothing.
use Rattle.std.proofs.Common.{arith, rules, ◌≡◌, ◌∙◌, ◌≤◌, ◌<◌, ◌+◌, sym, ap, ℕ, List, [], length, drop, take, Option, Some, None, IfNone}
use Rattle.model.specs.Buckets.{Pending}
use Rattle.model.specs.Machine.{add_to, pending_of}
use Rattle.model.specs.Words.{connection_of}
use Rattle.party.specs.Laying.{added_each, pending_term}
use Rattle.party.proofs.EachLaws.{drop_further, no_term, longer, longer_each, turn, turn_weight, weighed-add_to}
use Rattle.party.proofs.LayingLaws.{length-pending_of}
use lib.ListN.{drop_of_length-le}
use Rattle.party.proofs.pending.lay_all.Goals as goal

none_holds : (o : Option ℕ) (P : Type 0) → P → IfNone o P
none_holds None P h = h
none_holds (Some k) P h = cc

pub lay-requires-clause-fits : goal.lay-requires-clause-fits
lay-requires-clause-fits g c =
    omega (arith, c.loop-i.invariant.fits, turn_weight (g.L.TermList.terms c.args.terms.now) c.loop-i.i c.at-term.result (omega arith) (c.at-term.ensures no_term))

pub returns-in_err-used-clause-full : goal.returns-in_err-used-clause-full
returns-in_err-used-clause-full g c =
    let t = c.at-term.result in
    let qs : List Pending = pending_of (take c.loop-i.used c.loop-i.weights) (take c.loop-i.used c.loop-i.words) in
    let word : c.connection-word.result ≡ connection_of t.literal = search rules in
    let over : 128 < length (add_to (pending_term t) qs) = rw word at c.in_err-used.ensures.full in
    let whole : added_each (drop (c.loop-i.i + 1) (g.L.TermList.terms c.args.terms.now)) (add_to (pending_term t) qs) ≡ added_each (g.L.TermList.terms c.args.terms.now) (pending_of (take c.args.count c.args.weights.now) (take c.args.count c.args.words.now)) =
    sym (turn (g.L.TermList.terms c.args.terms.now) c.loop-i.i t (omega arith) (c.at-term.ensures no_term) qs) ∙ c.loop-i.invariant.so_far in
    let far : 128 < length (added_each (g.L.TermList.terms c.args.terms.now) (pending_of (take c.args.count c.args.weights.now) (take c.args.count c.args.words.now))) =
    omega (arith, over, longer_each (drop (c.loop-i.i + 1) (g.L.TermList.terms c.args.terms.now)) (add_to (pending_term t) qs), ap length whole) in
    none_holds _ _ far

pub loop-i-preserved : goal.loop-i-preserved
loop-i-preserved g c =
    let t = c.at-term.result in
    let qs : List Pending = pending_of (take c.loop-i.used c.loop-i.weights) (take c.loop-i.used c.loop-i.words) in
    let word : c.connection-word.result ≡ connection_of t.literal = search rules in
    let laid : pending_of (take c.in_ok-used.used c.lay.new.weights) (take c.in_ok-used.used c.lay.new.words) ≡ add_to (pending_term t) qs = rw word at c.in_ok-used.ensures.laid.laid in
    let counted : c.in_ok-used.used ≡ length (add_to (pending_term t) qs) = rw word at c.in_ok-used.ensures.laid.counted in
    let long : length qs ≡ c.loop-i.used = length-pending_of c.loop-i.weights c.loop-i.words c.loop-i.used (omega arith) (omega arith) in
    let later : c.loop-i.used ≤ c.in_ok-used.used = omega (arith, counted, long, longer (pending_term t) qs) in
    let whole : added_each (drop (c.loop-i.i + 1) (g.L.TermList.terms c.args.terms.now)) (add_to (pending_term t) qs) ≡ added_each (g.L.TermList.terms c.args.terms.now) (pending_of (take c.args.count c.args.weights.now) (take c.args.count c.args.words.now)) =
    sym (turn (g.L.TermList.terms c.args.terms.now) c.loop-i.i t (omega arith) (c.at-term.ensures no_term) qs) ∙ c.loop-i.invariant.so_far in
    record {
      so_far = rw laid whole;
      fits = rw laid (omega (arith, weighed-add_to (pending_term t) qs, turn_weight (g.L.TermList.terms c.args.terms.now) c.loop-i.i t (omega arith) (c.at-term.ensures no_term), c.loop-i.invariant.fits));
      within = c.in_ok-used.ensures.within;
      weights_behind = c.in_ok-used.ensures.laid.weights_behind ∙ drop_further c.loop-i.weights c.args.weights.now c.loop-i.used c.in_ok-used.used later c.loop-i.invariant.weights_behind;
      words_behind = c.in_ok-used.ensures.laid.words_behind ∙ drop_further c.loop-i.words c.args.words.now c.loop-i.used c.in_ok-used.used later c.loop-i.invariant.words_behind;
    }

pub returns-clause-laid : goal.returns-clause-laid
returns-clause-laid g c =
    let over : drop c.loop-i.i (g.L.TermList.terms c.args.terms.now) ≡ [] = drop_of_length-le (g.L.TermList.terms c.args.terms.now) (omega arith) in
    let same : pending_of (take c.loop-i.used c.loop-i.weights) (take c.loop-i.used c.loop-i.words) ≡ added_each (g.L.TermList.terms c.args.terms.now) (pending_of (take c.args.count c.args.weights.now) (take c.args.count c.args.words.now)) = rw over at c.loop-i.invariant.so_far in
    let long : length (pending_of (take c.loop-i.used c.loop-i.weights) (take c.loop-i.used c.loop-i.words)) ≡ c.loop-i.used = length-pending_of c.loop-i.weights c.loop-i.words c.loop-i.used (omega arith) (omega arith) in
    record { counted = sym long ∙ ap length same; laid = same; weights_behind = c.loop-i.invariant.weights_behind; words_behind = c.loop-i.invariant.words_behind }
