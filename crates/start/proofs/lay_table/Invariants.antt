-- What is left to paint gives what all of it gives.
use mathlib.Core.Path.{◌≡◌}
use lib.ListN.{take}
use Rattle.std.specs.Iterator.Adapters.{zip_first, zip_second}
use Rattle.std.specs.Slice.Iter.{iter_rest}
use Rattle.start.specs.Held.{paint_held}
use Rattle.start.proofs.lay_table.Given as goal

abbrev pub invariant-loop-start : goal.invariant-loop-start
invariant-loop-start l =
    paint_held (iter_rest (zip_first l.start-iterator)) (iter_rest (zip_second l.start-iterator)) l.table
    ≡ paint_held l.starts (take l.count l.objects.list) l.initial.table
