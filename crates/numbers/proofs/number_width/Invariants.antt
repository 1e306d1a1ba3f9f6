-- `numbers::number_width` meets its contract. The invariant: the bytes counted, the last of them not yet
-- passed, and the width of what is left make the width and one.
use mathlib.Core.Path.{◌≡◌}
use Prim.Native.Nat.{◌+◌, ◌<◌, ◌^◌}
use Rattle.numbers.specs.Number.{width}
use Rattle.numbers.proofs.number_width.Given as goal

abbrev pub invariant-loop-rest : goal.invariant-loop-rest
invariant-loop-rest l = (l.rest < 2 ^ 32) × (l.bytes + width l.rest ≡ width l.n + 1)

abbrev pub decreases-loop-rest : goal.decreases-loop-rest
decreases-loop-rest l = l.rest
