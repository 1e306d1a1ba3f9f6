use Rattle.std.proofs.Common.{rules, sym, subst}
use Rattle.std.specs.Io.KnownBytes.{Consumes}
use Rattle.std.proofs.KnownBytes.{Consumes-trans}
use Rattle.input.proofs.Front.{front_read}
use Rattle.input.proofs.read_full.Goals as goal

-- what the reader has lost since the beginning is what this read took behind what was taken before
pub loop-done-preserved : goal.loop-done-preserved
loop-done-preserved g c =
    let front = front_read _ _ _ _ _ c.loop-done.invariant.0 c.in_ok-n.ensures.bound.0 in (
      search rules,
      search rules,
      subst (Consumes _ _) (sym front) (Consumes-trans _ _ _ _ _ c.loop-done.invariant.2 c.in_ok-n.ensures.bytes.0),
    )
