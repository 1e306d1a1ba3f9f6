use Rattle.std.proofs.Common.{arith, refl}
use Rattle.std.proofs.lemmas.Grind.{common_steps}
use Rattle.coloring.specs.Colored.{tinted}
use Rattle.coloring.specs.Labels.{classes_in}
use Rattle.coloring.proofs.Numbered.{classes_own, classes_other, own_turn, other_turn}
use Rattle.coloring.proofs.painting.give_colors.Goals as goal
use Rattle.coloring.proofs.painting.give_colors.Goals.{then-lowest-x, else-lowest-x}

pub loop-x-init : goal.loop-x-init
unfolding classes_in tinted
loop-x-init c = record { next = refl; count = refl; done = refl }

pub loop-x-preserved : goal.loop-x-preserved
loop-x-preserved c =
    elim c.if-lowest-x.branch [
      | then-lowest-x w ↦ grind (arith, common_steps, classes_own, own_turn c.args.labels.now c.requires.lowest)
      | else-lowest-x w ↦ grind (arith, common_steps, classes_other, other_turn c.args.labels.now c.requires.lowest)
    ]
