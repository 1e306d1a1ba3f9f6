-- `heap::freeing::free` meets its contract. Each return by its law of Lives.
use mathlib.Core.Path.{sym, ◌∙◌}
use Rattle.heap.proofs.Lives.{found_joins}
use Rattle.heap.proofs.freeing.free.Goals as goal

pub join-requires : goal.join-requires
join-requires c = let s = c.args in
    found_joins s.memory.now s.address _ (sym c.in_ok-start.was ∙ c.find_live.ensures) s.table.now c.if-memory-ne-MEMORY.false
    c.if-table-ne-TABLE.false c.if-start-eq0.false
