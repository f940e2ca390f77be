-- The numbers, the terms and the outputs take all places. Assumes nothing.
use Rattle.std.proofs.Common.{◌∙◌, ap, length}
use Rattle.party.specs.Read.{shared_of}
use Rattle.capi.specs.Words.{words_of}
use Rattle.capi.proofs.Storing.{all_stored, numbers_length}
use Rattle.capi.proofs.state.store.Goals as goal

pub returns : goal.returns
unfolding words_of
returns c =
    let s = c.args in
    let terms = c.terms-terms.ensures in
    let structure = c.structure.ensures in
    rw (← c.numbers.ensures, ← ap (λ t. t.weights) terms.terms, ← ap (λ t. t.words) terms.terms, ← ap (λ t. t.outputs.words) structure.structure)
    (all_stored s.words.now _ _ _ _ c.requires (ap length c.numbers.ensures ∙ numbers_length s.encoder.now (shared_of s.shared)) terms.widths.0 terms.widths.1 structure.width
    c.put.ensures c.put-2.ensures c.put-3.ensures c.put-4.ensures)
