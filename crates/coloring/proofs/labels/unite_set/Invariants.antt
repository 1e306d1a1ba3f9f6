-- `unite_set` meets its contract. The loop's invariant: the members before the index are joined.
use Rattle.std.proofs.Common.{◌≡◌, take}
use Rattle.std.specs.List.{fold}
use Rattle.coloring.specs.Labels.{joined_to}
use Rattle.coloring.proofs.labels.unite_set.Given as goal

abbrev pub invariant-loop-x : goal.invariant-loop-x
invariant-loop-x l = l.labels ≡ fold (joined_to l.first) l.initial.labels (take l.x-index l.set)
