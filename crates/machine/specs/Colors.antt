-- The rule of the color table: a check passes where every byte that it covers lies in memory, in a slot
-- of its color; stores are not asked.
use Rattle.std.specs.Prelude.{ℕ, Bool, true, List, slice_index_or}
use Rattle.opcodes.specs.declared.Object.{Object}
use Rattle.files.specs.Program.{Program}
use Rattle.opcodes.specs.View.{View, act, jump, jump_if, store, check}
use Rattle.layout.specs.Layout.{pieces_of, start_of}
use Rattle.memory.specs.Memory.{has_color, every_byte}
use Rattle.heap.specs.Heap.{paint_made, paint_freed}
use Rattle.machine.specs.State.{Span, Rule}

abbrev pub table_allows : (table : List ℕ) → View → Span → Bool
table_allows table (act x) span = true
table_allows table (jump p) span = true
table_allows table (jump_if a p) span = true
table_allows table (store aim b s) span = true
table_allows table (check aim c) span = every_byte span.count (has_color table c) span.address

abbrev pub color_of_object : List Object → (g : ℕ) → ℕ
color_of_object objects g = (slice_index_or objects g (record { kind = 0; size = 0; color = 0 })).color

unfoldable pub table_rule : Program → Rule (List ℕ)
table_rule p =
    record {
      code = p.code;
      start = start_of (pieces_of p.objects);
      allows = table_allows;
      making = λ table site k. paint_made table (color_of_object p.objects site) k;
      freeing = λ table address f. paint_freed table f;
    }
