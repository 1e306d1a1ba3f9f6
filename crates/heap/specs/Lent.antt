-- What the functions of the heap answer for lent memory and table of any length, and what both hold afterwards.
-- At their exact lengths this reads as Memory and Heap say; of another length they are left as they are. These
-- are words of contracts; no demand cites them.
use Rattle.std.specs.Prelude.{ℕ, List, [], ◌∷◌, true, false, Option, Some, None, Result, Ok, Err, ⊤, length, replicate, eqb}
use Rattle.heap.specs.declared.HeapError.{HeapError}
use Rattle.memory.specs.Memory.{memory_size, exact}
use Rattle.heap.specs.Heap.{Alloc, Free, alloc, free, paint_made, paint_freed, empty_heap}

-- ---- the answers, by 01's numbers and values; 0 where the run goes on

-- the address of the body, if there is one
abbrev pub made_for : (bodies : List ℕ) → Option ℕ
made_for [] = None
made_for (body ∷ none) = Some body

-- "11 | memory or table not of its exact length", "38 unsound heap"
abbrev pub allocation_for : (number : ℕ) (bodies : List ℕ) → Result (Option ℕ) HeapError
allocation_for number bodies =
    elim (eqb number 11) [
      | true ↦ Err HeapError.WrongLength
      | false ↦ elim (eqb number 38) [ true ↦ Err HeapError.Unsound | false ↦ Ok (made_for bodies) ]
    ]

-- 11, "37 bad FREE", 38
abbrev pub release_for : (number : ℕ) → Result ⊤ HeapError
release_for number =
    elim (eqb number 11) [
      | true ↦ Err HeapError.WrongLength
      | false ↦
          elim (eqb number 37) [ true ↦ Err HeapError.BadAddress | false ↦ elim (eqb number 38) [ true ↦ Err HeapError.Unsound | false ↦ Ok tt ] ]
    ]

-- what is answered, and what memory and table hold afterwards
pub record After (Answer : Type 0) : Type 0 where
  pub answer : Answer
  pub memory : List ℕ
  pub table : List ℕ

-- ---- ALLOC

-- the site's color is handed in
abbrev pub after_alloc : (memory table : List ℕ) → (color : ℕ) → Alloc → After (Result (Option ℕ) HeapError)
after_alloc m t color Alloc.stopped = record { answer = allocation_for 38 []; memory = m; table = t }
after_alloc m t color Alloc.nothing = record { answer = allocation_for 0 []; memory = m; table = t }
after_alloc m t color (Alloc.made k) =
    record { answer = allocation_for 0 (k.body ∷ []); memory = k.memory; table = paint_made t color k }

unfoldable pub allocated : (memory table : List ℕ) → (size site color : ℕ) → After (Result (Option ℕ) HeapError)
allocated m t size site color =
    elim (exact m t) [
      | true ↦ after_alloc m t color (alloc m size site)
      | false ↦ record { answer = allocation_for 11 []; memory = m; table = t }
    ]

-- ---- FREE

abbrev pub after_free : (memory table : List ℕ) → Free → After (Result ⊤ HeapError)
after_free m t Free.stopped = record { answer = release_for 38; memory = m; table = t }
after_free m t Free.bad = record { answer = release_for 37; memory = m; table = t }
after_free m t (Free.freed f) = record { answer = release_for 0; memory = f.memory; table = paint_freed t f }

unfoldable pub released : (memory table : List ℕ) → (address : ℕ) → After (Result ⊤ HeapError)
released m t address =
    elim (exact m t) [
      | true ↦ after_free m t (free m address)
      | false ↦ record { answer = release_for 11; memory = m; table = t }
    ]

-- ---- the start: "Memory and table are cleared and laid out at the start"

unfoldable pub started : List ℕ → List ℕ
started m = elim (eqb (length m) memory_size) [ true ↦ empty_heap (replicate (length m) 0) | false ↦ m ]
