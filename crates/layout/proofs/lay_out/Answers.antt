-- One object more, among the safe ones or among the others.
use Prim.Native.Nat.{◌≤◌}
use lib.ListN.{length, take}
use Rattle.std.proofs.Common.{arith}
use Rattle.std.proofs.lemmas.List.{length-take}
use borrow.Author.Tests.{eq-eqb, ne_eqb}
use Rattle.layout.proofs.Pieces.{placed_safe, placed_unsafe}
use Rattle.layout.proofs.lay_out.Goals as goal
use Rattle.layout.proofs.lay_out.Goals.{then-object-eq0, else-object-eq0}

pub loop-g-preserved : goal.loop-g-preserved
loop-g-preserved c =
    let few : length (take c.min-count.result c.args.objects.now.list) ≤ 400 = omega (arith, length-take c.min-count.result c.args.objects.now.list) in
    elim c.if-object-eq0.branch [
      | then-object-eq0 w ↦ rw (w.starts-is, w.safe_at-is, w.unsafe_at-is) (
        omega arith,
        omega arith,
        placed_safe _ c.loop-g.invariant.2 c.loop-g-test.true few (eq-eqb _ _ w.if-object-eq0.true) _ c.space_of-space.ensures.value,
      )
      | else-object-eq0 w ↦ rw (w.starts-is, w.safe_at-is, w.unsafe_at-is) (
        omega arith,
        omega arith,
        placed_unsafe _ c.loop-g.invariant.2 c.loop-g-test.true few (ne_eqb _ _ w.if-object-eq0.false) _ c.space_of-space.ensures.value,
      )
    ]
