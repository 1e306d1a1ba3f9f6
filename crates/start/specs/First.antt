-- "Memory and table are cleared and laid out at the start": what both then hold.
use Rattle.std.specs.Prelude.{ℕ, ◌+◌, List, [], ◌∷◌, true, false, replicate, eqb}
use Rattle.opcodes.specs.declared.Object.{Object}
use Rattle.files.specs.Program.{Program}
use Rattle.opcodes.specs.View.{extent}
use Rattle.layout.specs.Layout.{Piece, pieces_of, start_of}
use Rattle.memory.specs.Memory.{memory_size, table_size, paint}
use Rattle.heap.specs.Heap.{heap_start, end_slot, empty_heap}

-- ---- memory: all 0 but for the header of one free block

unfoldable pub blank_memory : List ℕ
blank_memory = replicate memory_size 0

abbrev pub first_memory : List ℕ
first_memory = empty_heap blank_memory

-- ---- the table: "guards have 0"; "Color 1 is for heap headers"; "The end slot .. is color 1"

unfoldable pub paint_globals : List Piece → (g : ℕ) → List Object → (table : List ℕ) → List ℕ
paint_globals pieces g [] table = table
paint_globals pieces g (o ∷ os) table =
    paint_globals pieces (g + 1) os
    (elim (eqb o.kind 0) [ true ↦ paint table (start_of pieces g) (extent o.size) o.color | false ↦ table ])

unfoldable pub blank_table : List ℕ
blank_table = replicate table_size 0

unfoldable pub first_table : Program → List ℕ
first_table p =
    paint (paint (paint_globals (pieces_of p.objects) 0 p.objects blank_table) heap_start 8 1) end_slot 8 1
