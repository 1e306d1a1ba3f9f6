-- `heap::freeing::find_live` meets its contract. The invariant: where the joined block starts as found so
-- far, taken on over the walk that is left, is what is to be found (`Way` of Walks); and what the block
-- before adds lies inside the heap.
use Prim.Native.Nat.{◌+◌, ◌-◌, ◌≤◌}
use Rattle.heap.specs.Heap.{end_slot, heap_start, walk}
use Rattle.heap.specs.Search.{live_in}
use Rattle.heap.proofs.Walks.{Way}
use Rattle.heap.proofs.freeing.find_live.Given as goal

abbrev pub invariant-loop-at : goal.invariant-loop-at
invariant-loop-at l = Way l.memory l.at (live_in l.start l.spare l.address)
    (live_in 0 0 l.address (walk l.memory)) × (l.spare + heap_start ≤ l.at)

abbrev pub decreases-loop-at : goal.decreases-loop-at
decreases-loop-at l = end_slot - l.at
