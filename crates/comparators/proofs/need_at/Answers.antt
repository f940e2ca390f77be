-- `need_at` counts one bit a turn. Assumes nothing.
use Rattle.std.proofs.Common.{◌≤◌, refl, arith, take}
use Rattle.comparators.proofs.Counting.{coding, counting-none, counting-there, counting-absent, counting-shut, counting-all}
use Rattle.comparators.proofs.Walks.{few_more}
use Rattle.comparators.proofs.need_at.Goals as goal
use Rattle.comparators.proofs.need_at.Goals.{then-code-ne0, else-code-ne0+then-bit-eq1, else-code-ne0+else-bit-eq1}

pub loop-j-init : goal.loop-j-init
loop-j-init g c = record { within = omega arith; few = omega arith; words = omega arith; so_far = λ δ os b u k. counting-none δ os c.args.r b }

pub loop-j-preserved : goal.loop-j-preserved
loop-j-preserved g c =
    let s = c.args in
    elim c.if-code-ne0.branch [
      | then-code-ne0 w ↦
          let e = w.from-n.ensures in
          let small : w.from-n.result ≤ 1 = rw e (few_more _) in
          rw (w.w-is, w.n-is) (record {
            within = omega arith;
            few = omega (arith, small);
            words = omega (arith, small);
            so_far = λ δ os b u k. rw e (counting-there δ os s.len s.codes.now k g.row.WANT u s.r b c.loop-j.w c.loop-j.n c.loop-j.left c.loop-j.j (c.loop-j.invariant.so_far δ os b u k) c.loop-j-test.true _ refl w.if-code-ne0.true);
          })
      | else-code-ne0+then-bit-eq1 w ↦ rw (w.w-is, w.n-is) (record {
        within = omega arith;
        few = omega arith;
        words = omega arith;
        so_far = λ δ os b u k. counting-shut δ os s.len s.codes.now k g.row.WANT u s.r b c.loop-j.w c.loop-j.n c.loop-j.left c.loop-j.j (c.loop-j.invariant.so_far δ os b u k) c.loop-j-test.true _ refl w.if-code-ne0.false w.if-bit-eq1.true;
      })
      | else-code-ne0+else-bit-eq1 w ↦ rw (w.w-is, w.n-is) (record {
        within = omega arith;
        few = omega arith;
        words = omega arith;
        so_far = λ δ os b u k. counting-absent δ os s.len s.codes.now k g.row.WANT u s.r b c.loop-j.w c.loop-j.n c.loop-j.left c.loop-j.j (c.loop-j.invariant.so_far δ os b u k) c.loop-j-test.true _ refl w.if-code-ne0.false w.if-bit-eq1.false;
      })
    ]

pub returns : goal.returns
returns g c =
    let s = c.args in
    λ δ os b u e h. let k = coding os s.len s.codes.now e h in
    counting-all δ (take s.len os) s.len s.r b c.loop-j.w c.loop-j.n c.loop-j.left c.loop-j.j (c.loop-j.invariant.so_far δ (take s.len os) b u k) k.long c.loop-j-test.false
