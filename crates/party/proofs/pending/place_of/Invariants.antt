-- `place_of`: the least place, below i, where the word stands. Assumes nothing.
use Rattle.std.proofs.Common.{◌≡◌, ◌≢◌, ◌<◌, ◌≤◌, ℕ, get_or}
use Rattle.party.proofs.pending.place_of.Given as goal

abbrev pub invariant-loop-i : goal.invariant-loop-i
invariant-loop-i l = record {
  within : l.place ≤ l.none;
  found : l.place < l.none → (l.place < l.i) × (get_or l.words l.place 0 ≡ l.word);
  first : (j : ℕ) → j < l.i → j < l.place → get_or l.words j 0 ≢ l.word;
}
