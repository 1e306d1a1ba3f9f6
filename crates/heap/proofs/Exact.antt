-- At their exact lengths the answers for lent memory and table are those of the definitions: for callers
-- that hold memory of 57,344 bytes and a table of 7,168.
use Prim.Native.Nat.{ℕ}
use mathlib.Core.Path.{◌≡◌, refl, ap}
use mathlib.Core.List.{List}
use lib.ListN.{length, replicate}
use borrow.Author.Tests.{eq-eqb}
use Rattle.memory.specs.Memory.{memory_size, table_size}
use Rattle.memory.proofs.Exact.{is_exact}
use Rattle.heap.specs.Heap.{alloc, free, empty_heap}
use Rattle.heap.specs.Lent.{after_alloc, allocated, after_free, released, started}

pub started_exact : (m : List ℕ) → length m ≡ memory_size → started m ≡ empty_heap (replicate memory_size 0)
unfolding started
started_exact m h = rw (eq-eqb (length m) memory_size h, started) (ap (λ n. empty_heap (replicate n 0)) h)

module _ (m t : List ℕ) (hm : length m ≡ memory_size) (ht : length t ≡ table_size) where
  pub allocated_exact : (size site color : ℕ) → allocated m t size site color ≡ after_alloc m t color (alloc m size site)
  unfolding allocated
  allocated_exact size site color = rw (is_exact m t hm ht, allocated) refl

  pub released_exact : (address : ℕ) → released m t address ≡ after_free m t (free m address)
  unfolding released
  released_exact address = rw (is_exact m t hm ht, released) refl
