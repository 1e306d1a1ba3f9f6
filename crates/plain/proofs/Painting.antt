-- Objects that share no byte, painted one after the other: the table then tells of each byte whose it
-- is.
use Prim.Native.Nat.{ℕ, ◌+◌, ◌%◌, ◌≤◌}
use native.Mathlib.Omega.{arith}
use mathlib.Core.Path.{◌≡◌, refl, sym, ◌∙◌}
use mathlib.Core.List.{List, [], ◌∷◌}
use mathlib.Core.Bool.{true, false, false≢true}
use lib.ListN.{length}
use Rattle.memory.specs.Memory.{table_size, color_at, paint}
use Rattle.heap.specs.Heap.{heap_start}
use Rattle.memory.proofs.Memory.{length-paint, paint_outside, paint_inside}
use Rattle.plain.specs.Live.{Live, owns}
use Rattle.plain.proofs.Owners.{Each, owns_is, owns_inside}

-- an object in whole slots, below the heap
pub record Whole (o : Live) : Type 0 where
  pub start : o.start % 8 ≡ 0
  pub size : o.size % 8 ≡ 0
  pub below : o.start + o.size ≤ heap_start

-- no two objects own one byte
abbrev pub Apart : List Live → Type 0
Apart [] = Unit {0}
Apart (o ∷ os) = Each (λ x. (a : ℕ) → owns o a ≡ true → owns x a ≡ false) os × Apart os

module _ (color : ℕ → ℕ) where
  unfoldable pub painted : List Live → List ℕ → List ℕ
  painted [] table = table
  painted (o ∷ os) table = painted os (paint table o.start o.size (color o.object))

  one : (table : List ℕ) (o : Live) → length table ≡ table_size → Whole o → length (paint table o.start o.size (color o.object)) ≡ table_size
  one table o slots w = length-paint table o.start o.size (color o.object) w.start w.size (omega (arith, w.below)) ∙ slots

  pub length-painted : (os : List Live) (table : List ℕ) → length table ≡ table_size → Each Whole os → length (painted os table) ≡ table_size
  unfolding painted
  length-painted [] table slots w = slots
  length-painted (o ∷ os) table slots w = length-painted os _ (one table o slots w.0) w.1

  module _ (a : ℕ) where
    pub painted_outside : (os : List Live) (table : List ℕ) → length table ≡ table_size → Each Whole os
        → Each (λ o. owns o a ≡ false) os → color_at (painted os table) a ≡ color_at table a
    unfolding painted
    painted_outside [] table slots w none = refl
    painted_outside (o ∷ os) table slots w none =
        painted_outside os _ (one table o slots w.0) w.1 none.1
        ∙ paint_outside table o.start o.size (color o.object) w.0.start w.0.size (omega (arith, w.0.below)) a
        (λ x y. false≢true (sym none.0 ∙ owns_inside o a x y))

    -- what does not own a byte, where another object does
    others : (o : Live) (os : List Live) → owns o a ≡ true → Each (λ x. (a : ℕ) → owns o a ≡ true → owns x a ≡ false) os → Each (λ x. owns x a ≡ false) os
    others o [] h apart = tt
    others o (x ∷ os) h apart = (apart.0 a h, others o os h apart.1)

    pub painted_owned : (os : List Live) (table : List ℕ) → length table ≡ table_size → Each Whole os → Apart os
        → Each (λ o. owns o a ≡ true → color_at (painted os table) a ≡ color o.object) os
    unfolding painted
    painted_owned [] table slots w apart = tt
    painted_owned (o ∷ os) table slots w apart = (
      (λ h.
          painted_outside os _ (one table o slots w.0) w.1 (others o os h apart.0)
          ∙ paint_inside table o.start o.size (color o.object) w.0.start w.0.size (omega (arith, w.0.below)) a
          (owns_is o a h).0 (owns_is o a h).1),
      painted_owned os _ (one table o slots w.0) w.1 apart.1,
    )
