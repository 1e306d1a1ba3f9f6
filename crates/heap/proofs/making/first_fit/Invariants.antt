-- `heap::making::first_fit` meets its contract. The invariant: what was found so far, taken on over the walk
-- that is left, is what is to be found (`Way` of Walks). The measure is what is left up to the end slot.
use Prim.Native.Nat.{◌-◌}
use Rattle.heap.specs.Heap.{end_slot, walk}
use Rattle.heap.specs.Search.{fit_in}
use Rattle.heap.proofs.Walks.{Way}
use Rattle.heap.proofs.making.first_fit.Given as goal

abbrev pub invariant-loop-at : goal.invariant-loop-at
invariant-loop-at l = Way l.memory l.at (fit_in l.found l.want) (fit_in 0 l.want (walk l.memory))

abbrev pub decreases-loop-at : goal.decreases-loop-at
decreases-loop-at l = end_slot - l.at
