use mathlib.Core.Path.{◌≡◌}
use Rattle.files.proofs.SetLoop.{Gathering}
use Rattle.files.proofs.sets.read_sets.Given as goal

abbrev pub invariant-loop-i : goal.invariant-loop-i
invariant-loop-i l =
    (l.sets.count ≡ l.count)
    × Gathering l.objects l.count l.file l.initial.next.at l.sets.ends l.sets.members l.place l.next.at l.i
