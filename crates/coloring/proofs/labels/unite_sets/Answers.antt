use Rattle.std.proofs.Common.{arith}
use Rattle.std.proofs.lemmas.Grind.{common_steps}
use Rattle.coloring.proofs.Turns.{used_turn, unused_turn}
use Rattle.coloring.proofs.labels.unite_sets.Goals as goal
use Rattle.coloring.proofs.labels.unite_sets.Goals.{then-used-s, else-used-s}

pub loop-s-preserved : goal.loop-s-preserved
loop-s-preserved c =
    elim c.if-used-s.branch [
      | then-used-s w ↦ grind (arith, common_steps, used_turn)
      | else-used-s w ↦ grind (arith, common_steps, unused_turn)
    ]
