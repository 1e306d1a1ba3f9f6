-- `give_colors` meets its contract. The loop's invariant: `next` is the color of the next class, and the objects
-- before `x` have their colors.
use Rattle.std.proofs.Common.{◌≡◌, ◌+◌, ◌++◌, take, drop}
use Rattle.coloring.specs.Colored.{tinted}
use Rattle.coloring.specs.Labels.{classes_in, color_by}
use Rattle.coloring.proofs.painting.give_colors.Given as goal

abbrev pub invariant-loop-x : goal.invariant-loop-x
invariant-loop-x l =
    record {
      next : l.next ≡ 2 + classes_in (take l.x l.labels);
      count : l.objects.count ≡ l.initial.objects.count;
      done : l.objects.list ≡ tinted (color_by l.labels) 0 (take l.x l.initial.objects.list) ++ drop l.x l.initial.objects.list;
    }
