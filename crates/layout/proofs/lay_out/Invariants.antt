-- The next places and the starts so far are those of the objects passed (`Placed` of Pieces), and they are small
-- enough not to wrap.
use Prim.Native.Nat.{◌+◌, ◌*◌, ◌≤◌}
use Rattle.layout.proofs.Pieces.{Placed}
use Rattle.layout.proofs.lay_out.Given as goal

abbrev pub invariant-loop-g : goal.invariant-loop-g
invariant-loop-g l =
    (l.safe_at ≤ 8 + 65544 * l.g)
    × (l.unsafe_at ≤ 26217616 + 65544 * l.g)
    × Placed l.named l.starts l.safe_at l.unsafe_at l.g
