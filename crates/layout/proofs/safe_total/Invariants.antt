-- The sum is the total of the objects passed.
use Prim.Native.Nat.{◌*◌, ◌≤◌}
use mathlib.Core.Path.{◌≡◌}
use Rattle.layout.specs.Layout.{safe_space}
use Rattle.layout.proofs.Pieces.{before}
use Rattle.layout.proofs.safe_total.Given as goal

abbrev pub invariant-loop-object : goal.invariant-loop-object
invariant-loop-object l = (l.sum ≤ 65544 * l.object-index) × (l.sum ≡ before l.objects (safe_space 0) l.object-index)
