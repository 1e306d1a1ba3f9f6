-- 01, "Checked examples (1 to 12 are the proved set)": one table. A row has what the definitions
-- compute, and what 01 states.
use Rattle.std.specs.Prelude.{Ok, Err}
use Rattle.std.specs.Prelude.{ℕ, ◌+◌, ◌≡◌, List, [], ◌∷◌, ◌++◌, map, Bool, true, false, length, take, drop, replicate}
use Rattle.numbers.specs.Refusals.{refusal_number}
use Rattle.numbers.specs.Number.{Read}
use Rattle.numbers.specs.Number.{read_number}
use Rattle.opcodes.specs.declared.Instr.{Instr}
use Rattle.opcodes.specs.View.{in_global, four, extent}
use Rattle.opcodes.specs.declared.Object.{Object}
use Rattle.files.specs.Program.{Program}
use Rattle.files.specs.Reading.{Reading, whole, read_file}
use Rattle.files.specs.Writing.{spell_file}
use Rattle.safety.specs.Unsafe.{safe_aim}
use Rattle.coloring.specs.Colored.{color_in}
use Rattle.layout.specs.Layout.{start_of, end_of, pieces_of}
use Rattle.instrumenter.specs.Answer.{FileAnswer, file, instrument}
use Rattle.memory.specs.Memory.{memory_size, table_size, color_at}
use Rattle.heap.specs.Heap.{Walk, unsound, blocks, walk}
use Rattle.stops.specs.Stop.{five_of}
use Rattle.start.specs.First.{first_table}
use Rattle.machine.specs.Running.{Lent, Answer as Ran, run_file}

-- ---- instrumenting and running

abbrev pub bytes_in : FileAnswer → List ℕ
bytes_in (file bytes) = bytes
bytes_in (FileAnswer.refused q) = []

-- the length of a file that was written, or the refusal's number and place
abbrev pub answer_in : FileAnswer → List ℕ
answer_in (file bytes) = length bytes ∷ []
answer_in (FileAnswer.refused q) = refusal_number q.cause ∷ q.place ∷ []

-- version 2 of a version 1 file
abbrev pub version_two : (bytes : List ℕ) → List ℕ
version_two bytes = bytes_in (instrument bytes 32768)

abbrev pub zeros : Lent
zeros = record { memory = replicate memory_size 0; table = replicate table_size 0; room = replicate 1000 0 }

-- the run of a version 1 file, instrumented, with no input and a room of 1,000
abbrev pub run_of : (bytes : List ℕ) (limit : ℕ) → Ran
run_of bytes limit = run_file (version_two bytes) [] limit zeros

abbrev pub bytes_at : Ran → (from n : ℕ) → List ℕ
bytes_at a from n = take n (drop from a.lent.memory)

abbrev pub numbers_out : Ran → List ℕ
numbers_out a = take a.run.out a.lent.room

-- the first block's header, size and mark, and how many blocks follow it
abbrev pub first_block : Walk → List ℕ
first_block unsound = []
first_block (blocks []) = []
first_block (blocks (b ∷ bs)) = b.header ∷ b.size ∷ b.mark ∷ length bs ∷ []

abbrev pub heap_of : Ran → List ℕ
heap_of a = first_block (walk a.lent.memory)

-- ---- the files

-- "Routine A", and what it instruments to
abbrev pub A : List ℕ
A =
    0x01 ∷ 0x03 ∷ 0x00 ∷ 0x05 ∷ 0x00 ∷ 0x08 ∷ 0x01 ∷ 0x01 ∷ 0x02 ∷ 0x00 ∷ 0x02 ∷ 0x05
    ∷ 0x01 ∷ 0x01 ∷ 0x07 ∷ 0x02 ∷ 0x00 ∷ 0x00 ∷ 0x0A ∷ 0x00 ∷ 0x01 ∷ 0x00
    ∷ 0x03 ∷ 0x00 ∷ 0x00 ∷ 0x01 ∷ 0x0D ∷ 0x01 ∷ 0x02 ∷ []

abbrev pub A₂ : List ℕ
A₂ =
    0x02 ∷ 0x03 ∷ 0x00 ∷ 0x05 ∷ 0x02 ∷ 0x00 ∷ 0x08 ∷ 0x00 ∷ 0x01 ∷ 0x02 ∷ 0x06
    ∷ 0x01 ∷ 0x01 ∷ 0x07 ∷ 0x02 ∷ 0x00 ∷ 0x00 ∷ 0x12 ∷ 0x00 ∷ 0x02 ∷ 0x0A ∷ 0x00 ∷ 0x01
    ∷ 0x03 ∷ 0x00 ∷ 0x00 ∷ 0x01 ∷ 0x0D ∷ 0x01 ∷ 0x02 ∷ []

abbrev pub program_in : Reading → Program
program_in (whole p) = p
program_in (Reading.refused q) = record { objects = []; sets = []; code = [] }

abbrev pub global : (size : ℕ) → Object
global size = record { kind = 0; size = size; color = 0 }

abbrev pub site : Object
site = record { kind = 1; size = 0; color = 0 }

-- other code over A's objects and sets
abbrev pub like_a : List Instr → Program
like_a code = record { objects = global 5 ∷ global 8 ∷ site ∷ []; sets = (0 ∷ 2 ∷ []) ∷ []; code = code }

-- code over one heap site in no set
abbrev pub over_heap : List Instr → Program
over_heap code = record { objects = site ∷ []; sets = []; code = code }

-- example 5: four bytes written at an address under set 0
abbrev pub write32_at : (address : ℕ) → List ℕ
write32_at address =
    spell_file 1 (like_a (Instr.Set 0 address ∷ Instr.Set 1 0x04030201 ∷ Instr.Write32 0 1 0 ∷ Instr.End ∷ []))

-- example 6
abbrev pub three_sets : Program
three_sets =
    record {
      objects = global 1 ∷ global 1 ∷ global 1 ∷ global 1 ∷ global 1 ∷ [];
      sets = (0 ∷ 1 ∷ []) ∷ (1 ∷ 2 ∷ []) ∷ (3 ∷ 4 ∷ []) ∷ [];
      code = Instr.Write8 0 0 0 ∷ Instr.Write8 0 0 1 ∷ Instr.Write8 0 0 2 ∷ [];
    }

-- ALLOC 5 and ALLOC 9, into temporaries 2 and 3
abbrev pub two_blocks : List Instr
two_blocks = Instr.Set 1 5 ∷ Instr.Alloc 2 0 1 ∷ Instr.Set 1 9 ∷ Instr.Alloc 3 0 1 ∷ []

-- example 9
abbrev pub four_blocks : Program
four_blocks =
    over_heap
    (two_blocks
    ++ Instr.Free 2 ∷ Instr.Set 1 16 ∷ Instr.Alloc 4 0 1 ∷ Instr.Set 1 8 ∷ Instr.Alloc 5 0 1
    ∷ Instr.Out 2 ∷ Instr.Out 3 ∷ Instr.Out 4 ∷ Instr.Out 5 ∷ Instr.End ∷ [])

-- example 10: both freed
abbrev pub both_freed : (first second : ℕ) → Program
both_freed first second = over_heap (two_blocks ++ Instr.Free first ∷ Instr.Free second ∷ Instr.End ∷ [])

-- example 12: what is read takes the place of 7
abbrev pub load32_at : (address : ℕ) → List ℕ
load32_at address =
    spell_file 1 (over_heap (Instr.Set 0 address ∷ Instr.Set 1 7 ∷ Instr.Load32 1 0 ∷ Instr.Out 1 ∷ Instr.End ∷ []))

-- ---- what the rows compute

-- the starts of objects 1 and 0 and of the guards behind them, and where the last guard ends
abbrev pub places : Program → List ℕ
places q =
    let os = pieces_of q.objects in
    start_of os 1 ∷ (start_of os 1 + extent 8) ∷ start_of os 0 ∷ (start_of os 0 + extent 5) ∷ end_of os ∷ []

-- the colors of addresses at the start
abbrev pub colors_at : Program → List ℕ → List ℕ
colors_at q addresses = let table = first_table q in map (color_at table) addresses

-- the value of a number and the next cursor, or the refusal's number and place
abbrev pub value_of : Read → List ℕ
value_of (Ok (n, next)) = n ∷ next.at ∷ []
value_of (Err q) = refusal_number q.cause ∷ q.place ∷ []

abbrev pub one_if : Bool → List ℕ
one_if true = 1 ∷ []
one_if false = 0 ∷ []

-- examples 9 and 10
unfoldable pub four_bodies : List ℕ
four_bodies = numbers_out (run_of (spell_file 1 four_blocks) 100)

unfoldable pub heap_after : (first second : ℕ) → List ℕ
heap_after first second = heap_of (run_of (spell_file 1 (both_freed first second)) 100)

-- ---- the table

pub record Row : Type 0 where
  pub example : ℕ
  pub computed : List ℕ
  pub stated : List ℕ

abbrev pub row : (example : ℕ) (computed stated : List ℕ) → Row
row n c s = record { example = n; computed = c; stated = s }

abbrev pub rows : List Row
rows =
    row 1 (version_two A) A₂
    -- it just fits a room of 30, and not one of 29
    ∷ row 1 (answer_in (instrument A 30)) (30 ∷ [])
    ∷ row 1 (answer_in (instrument A 29)) (10 ∷ 0 ∷ [])
    ∷ row 2 (places (program_in (read_file 2 (version_two A)))) (8 ∷ 16 ∷ 24 ∷ 32 ∷ 40 ∷ [])
    ∷ row 2 (colors_at (program_in (read_file 2 (version_two A))) (8 ∷ 16 ∷ 24 ∷ 32 ∷ [])) (0 ∷ 0 ∷ 2 ∷ 0 ∷ [])
    ∷ row 3
    (let a = run_of A 1000000 in five_of a.run ++ bytes_at a 24 8)
    (36 ∷ 2 ∷ 8 ∷ 0 ∷ 0 ∷ 7 ∷ 0 ∷ 0 ∷ 0 ∷ 0 ∷ 0 ∷ 0 ∷ 7 ∷ [])
    ∷ row 4 (five_of (run_of A 8).run) (31 ∷ 2 ∷ 8 ∷ 0 ∷ 0 ∷ [])
    ∷ row 5
    (let a = run_of (write32_at 28) 100 in five_of a.run ++ bytes_at a 28 4)
    (0 ∷ 3 ∷ 3 ∷ 0 ∷ 0 ∷ 1 ∷ 2 ∷ 3 ∷ 4 ∷ [])
    ∷ row 5
    (let a = run_of (write32_at 30) 100 in five_of a.run ++ bytes_at a 28 8)
    (36 ∷ 2 ∷ 2 ∷ 0 ∷ 0 ∷ 0 ∷ 0 ∷ 0 ∷ 0 ∷ 0 ∷ 0 ∷ 0 ∷ 0 ∷ [])
    ∷ row 6 (map (color_in three_sets) (0 ∷ 1 ∷ 2 ∷ 3 ∷ 4 ∷ [])) (2 ∷ 2 ∷ 2 ∷ 3 ∷ 3 ∷ [])
    ∷ row 7 (value_of (read_number (0xAC ∷ 0x02 ∷ []) 0)) (300 ∷ 2 ∷ [])
    ∷ row 7 (value_of (read_number (0x80 ∷ 0x00 ∷ []) 0)) (3 ∷ 0 ∷ [])
    ∷ row 7 (value_of (read_number (0x80 ∷ []) 0)) (2 ∷ 1 ∷ [])
    ∷ row 8 (value_of (read_number (0xFF ∷ 0xFF ∷ 0xFF ∷ 0xFF ∷ 0x0F ∷ []) 0)) (4294967295 ∷ 5 ∷ [])
    ∷ row 8 (value_of (read_number (0xFF ∷ 0xFF ∷ 0xFF ∷ 0xFF ∷ 0x10 ∷ []) 0)) (3 ∷ 0 ∷ [])
    ∷ row 9 four_bodies (28680 ∷ 28696 ∷ 28720 ∷ 28680 ∷ [])
    ∷ row 10 (heap_after 2 3) (28672 ∷ 28656 ∷ 0 ∷ 0 ∷ [])
    ∷ row 10 (heap_after 3 2) (28672 ∷ 28656 ∷ 0 ∷ 0 ∷ [])
    ∷ row 11 (one_if (safe_aim (like_a []) (in_global 0 4 four))) (1 ∷ [])
    ∷ row 11 (one_if (safe_aim (like_a []) (in_global 0 5 four))) (0 ∷ [])
    ∷ row 12 (let a = run_of (load32_at 57340) 100 in five_of a.run ++ numbers_out a) (0 ∷ 4 ∷ 4 ∷ 1 ∷ 0 ∷ 0 ∷ [])
    ∷ row 12 (five_of (run_of (load32_at 57341) 100).run) (34 ∷ 2 ∷ 2 ∷ 0 ∷ 0 ∷ [])
    ∷ []

-- each row's computed side is what 01 states
abbrev pub AllHold : List Row → Type 0
AllHold [] = Unit {0}
AllHold (r ∷ rs) = (r.computed ≡ r.stated) × AllHold rs

abbrev pub ProvedSet : Type 0
ProvedSet = AllHold rows
