-- `mark_all` meets its contract. The loop's invariant: what the instructions before the index say is marked.
use Rattle.std.proofs.Common.{◌≡◌, take}
use Rattle.safety.specs.Unsafe.{size_of}
use Rattle.coloring.specs.Labels.{owns_marked, uses_marked}
use Rattle.coloring.proofs.labels.mark_all.Given as goal

abbrev pub invariant-loop-instr : goal.invariant-loop-instr
invariant-loop-instr l =
    (l.labels ≡ owns_marked (size_of l.objects) l.initial.labels (take l.instr-index l.code))
    × (l.used ≡ uses_marked (size_of l.objects) l.initial.used (take l.instr-index l.code))
