-- The start has the tie: one free block, and a table in which only the globals, the first header and the
-- end slot are painted.
use Prim.Native.Nat.{ℕ, ◌+◌, ◌/◌, ◌<◌, ◌≤◌}
use native.Mathlib.Omega.{arith}
use mathlib.Core.Path.{◌≡◌, refl, sym, ◌∙◌, ap, subst}
use mathlib.Core.List.{List, [], ◌∷◌}
use mathlib.Core.Bool.{true, false}
use lib.ListN.{length, length-replicate, get_or-replicate}
use Rattle.opcodes.specs.declared.Object.{Object}
use Rattle.files.specs.Program.{Program}
use Rattle.safety.specs.Unsafe.{unsafe_sets}
use Rattle.coloring.specs.Colored.{tinted}
use Rattle.layout.specs.Layout.{fits, pieces_of}
use Rattle.plain.specs.Guards.{Guards}
use Rattle.memory.specs.Memory.{memory_size, table_size, color_at, paint}
use Rattle.heap.specs.Heap.{heap_start, end_slot, Block, empty_heap}
use Rattle.memory.proofs.Memory.{length-paint, paint_outside, paint_inside}
use Rattle.plain.proofs.HeapHeaders.{length-put_header, header_size, header_mark}
use Rattle.plain.proofs.HeapAlloc.{Tied}
use Rattle.start.specs.First.{blank_memory, paint_globals, blank_table, first_table}
use Rattle.plain.specs.Live.{owns}
use Rattle.plain.specs.Plain.{globals}
use Rattle.plain.proofs.Owners.{Each, each_map, owns_outside, Tells}
use Rattle.plain.proofs.Bodies.{live_of}
use Rattle.plain.proofs.Painting.{Whole, painted, length-painted, painted_outside, painted_owned}
use Rattle.routines.proofs.Layouts.{pieces_same}
use Rattle.plain.proofs.Globals.{paint_globals_lem, globals_whole, globals_share_none}
use Rattle.plain.proofs.Holding.{Holds}
use Rattle.routines.specs.Accepted.{plain_pieces}

-- ---- blank lists

length-blank_memory : length blank_memory ≡ memory_size
unfolding blank_memory
length-blank_memory = length-replicate {A = ℕ} memory_size 0

length-blank_table : length blank_table ≡ table_size
unfolding blank_table
length-blank_table = length-replicate {A = ℕ} table_size 0

blank_color : (a : ℕ) → a < memory_size → color_at blank_table a ≡ 0
unfolding color_at blank_table
blank_color a inside = get_or-replicate table_size (a / 8) 0 0 (omega arith)

-- ---- the table, from the inside out: the globals, the first header, the end slot

module _ (p q : Program) (guards : Guards p q) (fitting : fits (plain_pieces p) ≡ true) where
  abbrev color : ℕ → ℕ
  color = guards.color

  t₀ : List ℕ
  t₀ = painted color (globals p) blank_table

  t₁ : List ℕ
  t₁ = paint t₀ heap_start 8 1

  t₂ : List ℕ
  t₂ = paint t₁ end_slot 8 1

  first_is : first_table q ≡ t₂
  unfolding first_table t₂ t₁ t₀ globals
  first_is =
      ap (λ t. paint (paint t heap_start 8 1) end_slot 8 1)
      (ap (λ (os : List Object). paint_globals (pieces_of os) 0 os blank_table) guards.objects
      ∙ ap (λ pieces. paint_globals pieces 0 (tinted color 0 p.objects) blank_table) (pieces_same (unsafe_sets p) color guards.exact.safe guards.exact.low p.objects 0)
      ∙ paint_globals_lem color (plain_pieces p) p.objects 0 blank_table)

  slots₀ : length t₀ ≡ table_size
  unfolding t₀
  slots₀ = length-painted color (globals p) blank_table length-blank_table (globals_whole p fitting)

  slots₁ : length t₁ ≡ table_size
  unfolding t₁
  slots₁ = length-paint t₀ heap_start 8 1 refl refl (omega (arith, slots₀)) ∙ slots₀

  slots₂ : length t₂ ≡ table_size
  unfolding t₂
  slots₂ = length-paint t₁ end_slot 8 1 refl refl (omega (arith, slots₁)) ∙ slots₁

  outside₁ : (a : ℕ) → (heap_start ≤ a → a < heap_start + 8 → ⊥) → color_at t₁ a ≡ color_at t₀ a
  unfolding t₁
  outside₁ = paint_outside t₀ heap_start 8 1 refl refl (omega (arith, slots₀))

  inside₁ : (a : ℕ) → heap_start ≤ a → a < heap_start + 8 → color_at t₁ a ≡ 1
  unfolding t₁
  inside₁ = paint_inside t₀ heap_start 8 1 refl refl (omega (arith, slots₀))

  outside₂ : (a : ℕ) → (end_slot ≤ a → a < end_slot + 8 → ⊥) → color_at t₂ a ≡ color_at t₁ a
  unfolding t₂
  outside₂ = paint_outside t₁ end_slot 8 1 refl refl (omega (arith, slots₁))

  inside₂ : (a : ℕ) → end_slot ≤ a → a < end_slot + 8 → color_at t₂ a ≡ 1
  unfolding t₂
  inside₂ = paint_inside t₁ end_slot 8 1 refl refl (omega (arith, slots₁))

  -- where no global is, nothing is painted at first
  clear₀ : (a : ℕ) → a < memory_size → Each (λ o. owns o a ≡ false) (globals p) → color_at t₀ a ≡ 0
  unfolding t₀
  clear₀ a inside none = painted_outside color a (globals p) blank_table length-blank_table (globals_whole p fitting) none ∙ blank_color a inside

  above : (a : ℕ) → heap_start ≤ a → Each (λ o. owns o a ≡ false) (globals p)
  above a low = each_map Whole (λ o. owns o a ≡ false) (λ o w. owns_outside o a (λ x y. omega (arith, w.below))) (globals p) (globals_whole p fitting)

  -- ---- the heap

  only : Block
  only = record { header = heap_start; size = 28656; mark = 0 }

  heap_start_lem : Tied color (empty_heap blank_memory) t₂ (only ∷ [])
  unfolding empty_heap only
  heap_start_lem =
      record {
        bytes = length-put_header blank_memory heap_start 28656 0 ∙ length-blank_memory;
        slots = slots₂;
        segment = (
          record {
            header = refl;
            least = omega arith;
            whole = refl;
            size = header_size blank_memory heap_start 28656 0 (omega arith) (omega (arith, length-blank_memory));
            mark = header_mark blank_memory heap_start 28656 0 (omega arith) (omega (arith, length-blank_memory));
            head = λ a x y. outside₂ a (λ z w. omega arith) ∙ inside₁ a x y;
            body = λ a x y. outside₂ a (λ z w. omega arith) ∙ outside₁ a (λ z w. omega arith) ∙ clear₀ a (omega arith) (above a (omega arith));
          },
          refl,
        );
        last = λ a x y. inside₂ a x (omega arith);
      }

  owners_start : (a : ℕ) → a < heap_start → Tells color (globals p) (color_at t₀ a) a
  unfolding t₀
  owners_start a low =
      record {
        owned = painted_owned color a (globals p) blank_table length-blank_table (globals_whole p fitting) (globals_share_none p fitting);
        clear = λ none. omega (arith, clear₀ a (omega arith) none);
      }

  pub holds_start : Holds p color [] (first_table q, []) (empty_heap blank_memory)
  unfolding only live_of
  holds_start =
      record {
        blocks = only ∷ [];
        tied = subst (λ t. Tied color (empty_heap blank_memory) t (only ∷ [])) (sym first_is) heap_start_lem;
        bodies = refl;
        recorded = refl;
        owners = λ a low.
            subst (λ t. Tells color (globals p) (color_at t a) a) (sym first_is)
            (subst (λ c. Tells color (globals p) c a) (sym (outside₂ a (λ z w. omega arith) ∙ outside₁ a (λ z w. omega arith))) (owners_start a low));
      }
