-- What the functions inside the crate answer: the searches that a walk makes on its way. Nothing outside
-- the crate cites this; the promises of ALLOC and FREE are in Lent.
use Rattle.std.specs.Prelude.{ℕ, ◌+◌, ◌-◌, ◌≤◌, ◌≡◌, List, [], ◌∷◌, true, false, Result, Ok, Err, length, leb, eqb}
use Rattle.heap.specs.declared.HeapError.{HeapError}
use Rattle.memory.specs.Memory.{memory_size, table_size, number_at}
use Rattle.heap.specs.Heap.{Block, body_of, is_free, block_at, end_slot, Walk, unsound, blocks}

-- ---- ALLOC's search: the header of the first free block that holds the size, 0 while there is none

abbrev pub first_of : (found want : ℕ) → Block → ℕ
first_of found want b =
    elim (eqb found 0) [
      | false ↦ found
      | true ↦ elim (is_free b) [ false ↦ 0 | true ↦ elim (leb want b.size) [ true ↦ b.header | false ↦ 0 ] ]
    ]

unfoldable pub found_in : (found want : ℕ) → List Block → ℕ
found_in found want [] = found
found_in found want (b ∷ bs) = found_in (first_of found want b) want bs

abbrev pub fit_in : (found want : ℕ) → Walk → Result ℕ HeapError
fit_in found want unsound = Err HeapError.Unsound
fit_in found want (blocks bs) = Ok (found_in found want bs)

-- ---- FREE's search: where the joined block would start, 0 while the address was not met

-- what a block adds to a neighbour that joins it
abbrev pub spare_of : Block → ℕ
spare_of b = elim (is_free b) [ true ↦ 8 + b.size | false ↦ 0 ]

abbrev pub spare_at : List ℕ → (header : ℕ) → ℕ
spare_at m header = elim (eqb header end_slot) [ true ↦ 0 | false ↦ spare_of (block_at m header) ]

-- `spare` is what the block before adds
abbrev pub start_of : (start spare address : ℕ) → Block → ℕ
start_of start spare address b =
    elim (eqb (body_of b) address) [
      | true ↦ elim (is_free b) [ true ↦ start | false ↦ b.header - spare ]
      | false ↦ start
    ]

unfoldable pub start_in : (start spare address : ℕ) → List Block → ℕ
start_in start spare address [] = start
start_in start spare address (b ∷ bs) = start_in (start_of start spare address b) (spare_of b) address bs

abbrev pub live_in : (start spare address : ℕ) → Walk → Result ℕ HeapError
live_in start spare address unsound = Err HeapError.Unsound
live_in start spare address (blocks bs) = Ok (start_in start spare address bs)

-- ---- what is known where memory and table are changed

-- a free block that holds the size
pub record Fitting (m t : List ℕ) (header want : ℕ) : Type 0 where
  pub memory : length m ≡ memory_size
  pub table : length t ≡ table_size
  pub ends : header + 8 + number_at 4 m header ≤ end_slot
  pub holds : want ≤ number_at 4 m header

-- the joined block of the live body at an address, from `start` on
abbrev pub whole_of : List ℕ → (start address : ℕ) → ℕ
whole_of m start address =
    address + number_at 4 m (address - 8) + spare_at m (address + number_at 4 m (address - 8)) - start - 8

pub record Joining (m t : List ℕ) (start address : ℕ) : Type 0 where
  pub memory : length m ≡ memory_size
  pub table : length t ≡ table_size
  pub above : start + 8 ≤ address
  pub next : address + number_at 4 m (address - 8) ≤ end_slot
  pub ends : address + number_at 4 m (address - 8) + spare_at m (address + number_at 4 m (address - 8)) ≤ end_slot
