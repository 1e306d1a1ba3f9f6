-- `heap::making::alloc` meets its contract. Each return by its law of Fits.
use mathlib.Core.Path.{sym, ◌∙◌}
use Rattle.heap.proofs.Fits.{found_fits}
use Rattle.heap.proofs.making.alloc.Goals as goal

pub take_block-requires : goal.take_block-requires
take_block-requires c = let s = c.args in
    found_fits s.memory.now _ _ (sym c.in_ok-header.was ∙ c.first_fit.ensures) s.table.now c.if-memory-ne-MEMORY.false
    c.if-table-ne-TABLE.false c.if-header-eq0.false
