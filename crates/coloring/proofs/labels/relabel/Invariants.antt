-- `relabel` meets its contract. The loop's invariant: the labels before the index are renamed.
use Rattle.std.proofs.Common.{◌≡◌, ◌++◌, map, take, drop}
use Rattle.coloring.specs.Labels.{renamed}
use Rattle.coloring.proofs.labels.relabel.Given as goal

abbrev pub invariant-loop-label : goal.invariant-loop-label
invariant-loop-label l =
    l.labels ≡ map (renamed l.from l.to) (take l.label-index l.initial.labels) ++ drop l.label-index l.initial.labels
