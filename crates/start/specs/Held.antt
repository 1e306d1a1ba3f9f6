-- The start of a run from objects that are held in an array: words of contracts; no demand cites them.
use Rattle.std.specs.Prelude.{ℕ, List, [], ◌∷◌, true, false, length, take, replicate, eqb}
use Rattle.opcodes.specs.declared.Object.{Object}
use Rattle.opcodes.specs.View.{extent}
use Rattle.files.specs.declared.arrays.Objects.{Objects}
use Rattle.layout.specs.Layout.{Piece, fits}
use Rattle.layout.specs.Arrays.{counted, pieces_in, layout_of}
use Rattle.heap.specs.Heap.{heap_start, end_slot}
use Rattle.memory.specs.Lent.{painted}
use Rattle.heap.specs.Lent.{After, started}
use Rattle.start.specs.declared.Laid.{Laid}

-- the slots of a global; a heap site has none at the start
abbrev pub paint_one : (table : List ℕ) (start : ℕ) → Object → List ℕ
paint_one table start o = elim (eqb o.kind 0) [ true ↦ painted table start (extent o.size) o.color | false ↦ table ]

-- the objects one after the other, each from its start on
unfoldable pub paint_held : (starts : List ℕ) → List Object → (table : List ℕ) → List ℕ
paint_held [] os table = table
paint_held (start ∷ starts) [] table = table
paint_held (start ∷ starts) (o ∷ os) table = paint_held starts os (paint_one table start o)

-- a table that is cleared and laid out
unfoldable pub laid_table : (starts : List ℕ) → Objects → (table : List ℕ) → List ℕ
laid_table starts o table =
    painted (painted (paint_held starts (take (counted o.count) o.list) (replicate (length table) 0)) heap_start 8 1) end_slot 8 1

-- whether the globals fit, and where they start
abbrev pub laid_for : List Piece → Laid
laid_for os = record { fits = fits os; starts = (layout_of os).starts }

-- where they fit, memory and table are laid out; else nothing changes
unfoldable pub laid_start : Objects → (memory table : List ℕ) → After Laid
laid_start o memory table =
    record {
      answer = laid_for (pieces_in o);
      memory = elim (fits (pieces_in o)) [ true ↦ started memory | false ↦ memory ];
      table = elim (fits (pieces_in o)) [ true ↦ laid_table (layout_of (pieces_in o)).starts o table | false ↦ table ];
    }
