-- `need_at` counts one bit a turn. Assumes nothing.
use Rattle.std.proofs.Common.{◌≡◌, ◌≤◌, ◌*◌}
use Rattle.model.specs.Logic.{Lit}
use Rattle.model.specs.Signs.{Dir}
use Rattle.model.specs.Compare.{Outs}
use Rattle.comparators.specs.Rows.{wants}
use Rattle.comparators.proofs.Counting.{Coding, Counting}
use Rattle.comparators.proofs.need_at.Given as goal

abbrev pub invariant-loop-j : goal.invariant-loop-j
invariant-loop-j g l = record {
  within : l.j ≤ l.len;
  few : l.n ≤ l.j;
  words : l.w ≤ 48 * l.j;
  so_far : (δ : Dir) (os : Outs) (b : Lit) → g.row.WANT ≡ wants δ → Coding os l.len l.codes → Counting δ os l.r b l.w l.n l.left l.j;
}
