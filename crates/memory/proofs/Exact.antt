-- At the exact lengths, and inside the bounds, the answers for lent memory and table are those of the
-- definitions: for callers that hold memory of 57,344 bytes and a table of 7,168.
use Prim.Native.Nat.{ℕ, suc, ◌+◌, ◌≤◌}
use mathlib.Core.Path.{◌≡◌, refl, ap}
use mathlib.Core.Bool.{Bool, true, false, false≢true}
use mathlib.Core.List.{List}
use lib.ListN.{length}
use lib.Dec.{leb, eqb, eqb-suc-zero}
use borrow.Author.Tests.{eq-eqb, le-leb, eqb-true}
use Rattle.memory.specs.Memory.{memory_size, table_size, exact, slot, inside, bytes_of, number_at, put, paint}
use Rattle.memory.specs.Lent.{within, number_within, stored, painted}

pub within_exact : (n : ℕ) (m : List ℕ) (a : ℕ) → length m ≡ memory_size → within (suc n) m a ≡ inside a (suc n)
within_exact n m a h = rw (eqb-suc-zero n, inside) (ap (leb (a + suc n)) h)

module _ (n : ℕ) (m : List ℕ) (a : ℕ) (h : a + n ≤ length m) where
  pub number_inside : number_within n m a ≡ number_at n m a
  number_inside = rw (le-leb (a + n) (length m) h, number_within) refl

  pub stored_inside : (v : ℕ) → stored n m a v ≡ put m a (bytes_of n v)
  stored_inside v = rw (le-leb (a + n) (length m) h, stored) refl

pub painted_exact : (t : List ℕ) (a n color : ℕ) → slot a + slot n ≤ length t → painted t a n color ≡ paint t a n color
painted_exact t a n color h = rw (le-leb (slot a + slot n) (length t) h, painted) refl

module _ (m t : List ℕ) where
  pub is_exact : length m ≡ memory_size → length t ≡ table_size → exact m t ≡ true
  is_exact hm ht = rw (eq-eqb (length m) memory_size hm, exact) (eq-eqb (length t) table_size ht)

  pub exact_lengths_lem : exact m t ≡ true → (length m ≡ memory_size) × (length t ≡ table_size)
  exact_lengths_lem = go (eqb (length m) memory_size) refl
    where
      go : (x : Bool) → eqb (length m) memory_size ≡ x → elim x [ true ↦ eqb (length t) table_size | false ↦ false ] ≡ true
          → (length m ≡ memory_size) × (length t ≡ table_size)
      go true e h = (eqb-true _ _ e, eqb-true _ _ h)
      go false e h = absurd (false≢true h)
