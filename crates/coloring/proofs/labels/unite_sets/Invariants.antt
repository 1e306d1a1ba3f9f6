-- `unite_sets` meets its contract. The loop's invariant: what is left to join from here is all that was to be joined.
use Rattle.std.proofs.Common.{◌≡◌, ◌<◌, ◌≤◌, get_or, drop}
use Rattle.coloring.specs.Labels.{sets_joined, cut}
use Rattle.coloring.proofs.labels.unite_sets.Given as goal

abbrev pub invariant-loop-s : goal.invariant-loop-s
invariant-loop-s l =
    record {
      within : l.from ≤ 16384;
      before : l.s < l.sets.count → l.from ≤ get_or l.sets.ends l.s 0;
      left :
          sets_joined l.used l.s l.labels (cut l.from (drop l.s l.ends) l.sets.members)
          ≡ sets_joined l.used 0 l.initial.labels (cut 0 l.ends l.sets.members);
    }
