-- Every contract but one says all that it says by equations, and two things that are equal to one value are
-- equal. That one is `read_full` of `input`, whose answer comes from outside (Known).
use Prim.Native.Nat.{ℕ}
use lib.ListN.{take, drop}
use mathlib.Core.Path.{◌≡◌, refl, sym, ◌∙◌, ap}
use mathlib.Core.List.{List, [], ◌∷◌}
use mathlib.Core.Bool.{Bool, true, false}
use denote.Ref.{Bor}
use Rattle.reader.specs.declared.Reader.{Reader}
use Rattle.opcodes.specs.declared.Instr.{Instr}
use Rattle.std.specs.Prelude.{Option, Some, None}
use Rattle.checks.specs.Held.{as_list}
use Rattle.stops.specs.declared.Run.{Run}
use Rattle.machine.specs.Running.{Lent, Answer, lent_of, answered}
use Rattle.unique.specs.Once.{Once}
use Rattle.unique.specs.Once.{numbers_number, numbers_read_number, numbers_number_width, numbers_write_number}
use Rattle.unique.specs.Once.{reader_open, reader_after, reader_number, reader_read_at}
use Rattle.unique.specs.Once.{table_row_of, table_has_opcode}
use Rattle.unique.specs.Once.{opcodes_has_group, opcodes_is_present, opcodes_is_within, opcodes_is_color, opcodes_is_allowed, opcodes_extent_of}
use Rattle.unique.specs.Once.{instructions_instr_of, instructions_parts_of}
use Rattle.unique.specs.Once.{files_read_routine, files_read_program}
use Rattle.unique.specs.Once.{writer_write_program}
use Rattle.unique.specs.Once.{safety_by_opcode, safety_nature_of}
use Rattle.unique.specs.Once.{checks_copy_of, checks_check_before}
use Rattle.unique.specs.Once.{coloring_read_colored}
use Rattle.unique.specs.Once.{layout_lay_out}
use Rattle.unique.specs.Once.{memory_bytes, memory_read, memory_write, memory_fill, memory_load, memory_number_at, memory_store, memory_check, memory_paint, memory_are_exact}
use Rattle.unique.specs.Once.{heap_start, heap_alloc, heap_free}
use Rattle.unique.specs.Once.{instrumenter_instrument}
use Rattle.unique.specs.Once.{start_lay}
use Rattle.unique.specs.Once.{stops_refused, stops_numbers_of, stops_place_of, stops_recorded}
use Rattle.unique.specs.Once.{machine_run_file}
use Rattle.unique.specs.Once.{controller_control, controller_toltjebrim_control}
use Rattle.unique.specs.Once.{input_read_full}
use Rattle.unique.proofs.Known.{Took, same_count, first_and_rest}

-- ---- the law, and its forms for several values

once : {A : Type 0} {c : A} → Once (λ (r : A). r ≡ c)
once a b p q = p ∙ sym q

pair_once : {A B : Type 0} {c : A} {d : B} → Once {A = A × B} (λ (x, y). (x ≡ c) × (y ≡ d))
pair_once a b p q = λ i. (once a.0 b.0 p.0 q.0 i, once a.1 b.1 p.1 q.1 i)

triple_once : {A B C : Type 0} {c : A} {d : B} {e : C} → Once {A = A × B × C} (λ (x, y, z). (x ≡ c) × (y ≡ d) × (z ≡ e))
triple_once a b p q =
    λ i. (once a.0 b.0 p.0 q.0 i, once a.1 b.1 p.1 q.1 i, once a.2 b.2 p.2 q.2 i)

reader_once : {f : Bor (List ℕ)} {n : ℕ} → Once {A = Reader} (λ q. (q.file ≡ f) × (q.at ≡ n))
reader_once a b p q =
    ap (λ (x : Bor (List ℕ) × ℕ). record { file = x.0; at = x.1 }) (pair_once (a.file, a.at) (b.file, b.at) p q)

-- a run's record and the lent buffers, by one equation; the buffers and the five numbers, by two
run_once : {c : Answer} → Once {A = Run × List ℕ × List ℕ × List ℕ} (λ (r, memory, table, room). answered r (lent_of memory table room) ≡ c)
run_once a b p q =
    ap (λ (x : Answer). (x.run, x.lent.memory, x.lent.table, x.lent.room)) (p ∙ sym q)

lent_once : {c : List ℕ} {d : Lent} → Once {A = List ℕ × List ℕ × List ℕ × List ℕ} (λ (memory, table, room, numbers). (numbers ≡ c) × (lent_of memory table room ≡ d))
lent_once a b p q =
    ap (λ (x : List ℕ × Lent). (x.1.memory, x.1.table, x.1.room, x.0))
    (pair_once (a.3, lent_of a.0 a.1 a.2) (b.3, lent_of b.0 b.1 b.2) p q)

-- ---- numbers

pub numbers_number_once : numbers_number
numbers_number_once self = once

pub numbers_read_number_once : numbers_read_number
numbers_read_number_once file from = once

pub numbers_number_width_once : numbers_number_width
numbers_number_width_once n = once

pub numbers_write_number_once : numbers_write_number
numbers_write_number_once room at n = pair_once

-- ---- reader

pub reader_open_once : reader_open
reader_open_once file = reader_once

pub reader_after_once : reader_after
reader_after_once self read = reader_once

pub reader_number_once : reader_number
reader_number_once self = once

pub reader_read_at_once : reader_read_at
reader_read_at_once file from = once

-- ---- opcodes

pub table_row_of_once : table_row_of
table_row_of_once op = once

pub table_has_opcode_once : table_has_opcode
table_has_opcode_once version op = once

pub opcodes_has_group_once : opcodes_has_group
opcodes_has_group_once version group = once

pub opcodes_is_present_once : opcodes_is_present
opcodes_is_present_once version kind = once

pub opcodes_is_within_once : opcodes_is_within
opcodes_is_within_once low high n = once

pub opcodes_is_color_once : opcodes_is_color
opcodes_is_color_once n = once

pub opcodes_is_allowed_once : opcodes_is_allowed
opcodes_is_allowed_once objects scope kind n = once

-- ---- instructions

pub instructions_instr_of_once : instructions_instr_of
instructions_instr_of_once op x y z w = once

pub instructions_parts_of_once : instructions_parts_of
instructions_parts_of_once i = once

pub opcodes_extent_of_once : opcodes_extent_of
opcodes_extent_of_once size = once

-- ---- files

pub files_read_routine_once : files_read_routine
files_read_routine_once file = once

pub files_read_program_once : files_read_program
files_read_program_once file = once

-- ---- writer

pub writer_write_program_once : writer_write_program
writer_write_program_once p room = pair_once

-- ---- safety

pub safety_by_opcode_once : safety_by_opcode
safety_by_opcode_once opcode x y z w size = once

pub safety_nature_of_once : safety_nature_of
safety_nature_of_once i objects = once

-- ---- checks

pub checks_copy_of_once : checks_copy_of
checks_copy_of_once i places = once

-- what stands before a copy, as a list, says which it is
abbrev of_list : List Instr → Option Instr
of_list [] = None
of_list (i ∷ is) = Some i

back : (b : Option Instr) → of_list (as_list b) ≡ b
back None = refl
back (Some i) = refl

pub checks_check_before_once : checks_check_before
checks_check_before_once i objects ends members a b p q = sym (back a) ∙ ap of_list (p ∙ sym q) ∙ back b

-- ---- coloring

pub coloring_read_colored_once : coloring_read_colored
coloring_read_colored_once file = once

-- ---- layout

pub layout_lay_out_once : layout_lay_out
layout_lay_out_once objects = once

-- ---- memory: a width is known by how many bytes it covers

pub memory_bytes_once : memory_bytes
memory_bytes_once bytes = once

pub memory_read_once : memory_read
memory_read_once bytes part = once

pub memory_write_once : memory_write
memory_write_once bytes part value = once

pub memory_fill_once : memory_fill
memory_fill_once part value = once

pub memory_load_once : memory_load
memory_load_once bytes memory address = once

pub memory_number_at_once : memory_number_at
memory_number_at_once memory address = once

pub memory_store_once : memory_store
memory_store_once bytes memory address value = pair_once

pub memory_check_once : memory_check
memory_check_once bytes table address color = once

pub memory_paint_once : memory_paint
memory_paint_once table address count color = once

pub memory_are_exact_once : memory_are_exact
memory_are_exact_once memory table = once

-- ---- heap

pub heap_start_once : heap_start
heap_start_once memory = once

pub heap_alloc_once : heap_alloc
heap_alloc_once memory table size site color = triple_once

pub heap_free_once : heap_free
heap_free_once memory table address = triple_once

-- ---- instrumenter

pub instrumenter_instrument_once : instrumenter_instrument
instrumenter_instrument_once file room = pair_once

-- ---- start

pub start_lay_once : start_lay
start_lay_once objects memory table = triple_once

-- ---- stops

pub stops_refused_once : stops_refused
stops_refused_once why = once

pub stops_numbers_of_once : stops_numbers_of
stops_numbers_of_once run = once

pub stops_place_of_once : stops_place_of
stops_place_of_once code at = once

pub stops_recorded_once : stops_recorded
stops_recorded_once code at steps out taken reason = once

-- ---- machine

pub machine_run_file_once : machine_run_file
machine_run_file_once file input memory table room limit = run_once

-- ---- controller

pub controller_control_once : controller_control
controller_control_once file input memory table room limit = run_once

pub controller_toltjebrim_control_once : controller_toltjebrim_control
controller_toltjebrim_control_once file input memory table room limit numbers = lent_once

-- ---- input

pub input_read_full_once : input_read_full
input_read_full_once None buffer known n m left left' front front' p q =
    let clash : ◌≡◌ {A = Bool} false true = known in
    let none : ⊥ = cc in
    absurd none
input_read_full_once (Some xs) buffer known n m left left' front front' p q =
    let one : Took xs n left front = record { fits = p.0; lost = p.2; ends = p.3 } in
    let other : Took xs m left' front' = record { fits = q.0; lost = q.2; ends = q.3 } in
    let count : n ≡ m = same_count xs (p.1 ∙ sym q.1) one other in
    let first = first_and_rest xs one in
    let again = first_and_rest xs other in (
      count,
      first.0 ∙ ap (λ (k : ℕ). take k xs) count ∙ sym again.0,
      first.1 ∙ ap (λ (k : ℕ). Some (drop k xs)) count ∙ sym again.1,
    )
