-- Each object of a kind stands in whole slots of its own, from the base on and below the layout's end; so do
-- the globals, above slot 0.
--
-- The safe objects take the bytes from the base on and the unsafe ones those from `unsafe_from` on, each in the
-- order of the objects; so the bytes before an object are a total over the objects before it, and a
-- total over more objects is not smaller.
use Prim.Native.Nat.{ℕ, zero, suc, ◌+◌, ◌%◌, ◌<◌, ◌≤◌}
use native.Mathlib.Nat.{not-suc-le-zero, le_of_suc-le-suc}
use native.Mathlib.Omega.{arith}
use mathlib.Core.Path.{◌≡◌, refl}
use mathlib.Core.List.{List, [], ◌∷◌}
use mathlib.Core.Bool.{Bool, true, false}
use lib.ListN.{length, get_or, take}
use lib.Dec.{eqb}
use borrow.Author.Tests.{eq-eqb}
use Rattle.opcodes.specs.View.{extent}
use Rattle.layout.specs.Layout.{Piece, safe_space, unsafe_space, total, unsafe_from, end_from, start_from, end_of, start_of}

-- ---- totals

module _ (space : Piece → ℕ) where
  pub total_next : (os : List Piece) (g : ℕ) (d : Piece) → g < length os
      → total space (take (suc g) os) ≡ total space (take g os) + space (get_or os g d)
  unfolding total
  total_next [] g d h = absurd (not-suc-le-zero h)
  total_next (o ∷ os) zero d h = omega arith
  total_next (o ∷ os) (suc g) d h = omega (arith, total_next os g d (le_of_suc-le-suc h))

  total_more : (os : List Piece) (g h : ℕ) → g ≤ h → total space (take g os) ≤ total space (take h os)
  unfolding total
  total_more os zero h l = omega arith
  total_more os (suc g) zero l = absurd (not-suc-le-zero l)
  total_more [] (suc g) (suc h) l = omega arith
  total_more (o ∷ os) (suc g) (suc h) l = omega (arith, total_more os g h (le_of_suc-le-suc l))

  total_all : (os : List Piece) (g : ℕ) → total space (take g os) ≤ total space os
  unfolding total
  total_all os zero = omega arith
  total_all [] (suc g) = omega arith
  total_all (o ∷ os) (suc g) = omega (arith, total_all os g)

  total_whole : ((o : Piece) → space o % 8 ≡ 0) → (os : List Piece) → total space os % 8 ≡ 0
  unfolding total
  total_whole whole [] = refl
  total_whole whole (o ∷ os) = omega (arith, whole o, total_whole whole os)

-- ---- one object

abbrev pub piece_at : List Piece → (g : ℕ) → Piece
piece_at os g = get_or os g (record { kind = 0; size = 0; safe = true })

abbrev pub extent_at : List Piece → (g : ℕ) → ℕ
extent_at os g = extent (piece_at os g).size

module _ (kind base : ℕ) where
  -- the bytes that one object takes

  safe_whole : (o : Piece) → safe_space kind o % 8 ≡ 0
  safe_whole o = go (eqb o.kind kind) o.safe
    where
      go : (k s : Bool) → elim k [ false ↦ 0 | true ↦ elim s [ true ↦ extent o.size | false ↦ 0 ] ] % 8 ≡ 0
      go true true = omega arith
      go true false = refl
      go false s = refl

  unsafe_whole : (o : Piece) → unsafe_space kind o % 8 ≡ 0
  unsafe_whole o = go (eqb o.kind kind) o.safe
    where
      go : (k s : Bool) → elim k [ false ↦ 0 | true ↦ elim s [ true ↦ 0 | false ↦ extent o.size + 8 ] ] % 8 ≡ 0
      go true true = refl
      go true false = omega arith
      go false s = refl

  module _ (os : List Piece) (g : ℕ) where
    start_safe : (piece_at os g).safe ≡ true → start_from kind base os g ≡ base + total (safe_space kind) (take g os)
    start_safe e = rw (e, start_from)

    start_unsafe : (piece_at os g).safe ≡ false → start_from kind base os g ≡ unsafe_from kind base os + total (unsafe_space kind) (take g os)
    start_unsafe e = rw (e, start_from)

    -- what is known of a start, by what the object is
    record Safe : Type 0 where
      starts : start_from kind base os g ≡ base + total (safe_space kind) (take g os)
      ends : total (safe_space kind) (take (suc g) os) ≡ total (safe_space kind) (take g os) + extent_at os g

    record Unsafe : Type 0 where
      starts : start_from kind base os g ≡ unsafe_from kind base os + total (unsafe_space kind) (take g os)
      ends : total (unsafe_space kind) (take (suc g) os) ≡ total (unsafe_space kind) (take g os) + extent_at os g + 8

    module _ (inside : g < length os) (of_kind : (piece_at os g).kind ≡ kind) where
      safe : (piece_at os g).safe ≡ true → Safe
      safe e =
          let k : eqb (piece_at os g).kind kind ≡ true = eq-eqb (piece_at os g).kind kind of_kind in
          let is : safe_space kind (piece_at os g) ≡ extent_at os g = rw (k, e, safe_space) in
          record { starts = start_safe e; ends = omega (arith, is, total_next (safe_space kind) os g (record { kind = 0; size = 0; safe = true }) inside) }

      unsafe : (piece_at os g).safe ≡ false → Unsafe
      unsafe e =
          let k : eqb (piece_at os g).kind kind ≡ true = eq-eqb (piece_at os g).kind kind of_kind in
          let is : unsafe_space kind (piece_at os g) ≡ extent_at os g + 8 = rw (k, e, unsafe_space) in
          record { starts = start_unsafe e; ends = omega (arith, is, total_next (unsafe_space kind) os g (record { kind = 0; size = 0; safe = true }) inside) }

    pub from_whole : base % 8 ≡ 0 → start_from kind base os g % 8 ≡ 0
    from_whole whole = go (piece_at os g).safe refl
      where
        go : (b : Bool) → (piece_at os g).safe ≡ b → start_from kind base os g % 8 ≡ 0
        go true e = omega (arith, whole, start_safe e, total_whole (safe_space kind) safe_whole (take g os))
        go false e = omega (arith, whole, start_unsafe e, total_whole (unsafe_space kind) unsafe_whole (take g os), total_whole (safe_space kind) safe_whole os)

    pub from_low : start_from kind base os g ≤ end_from kind base os
    from_low = go (piece_at os g).safe refl
      where
        go : (b : Bool) → (piece_at os g).safe ≡ b → start_from kind base os g ≤ end_from kind base os
        go true e = omega (arith, start_safe e, total_all (safe_space kind) os g)
        go false e = omega (arith, start_unsafe e, total_all (unsafe_space kind) os g)

    -- an object of the kind ends below the end of the layout
    pub from_below : g < length os → (piece_at os g).kind ≡ kind → start_from kind base os g + extent_at os g ≤ end_from kind base os
    from_below inside of_kind = go (piece_at os g).safe refl
      where
        go : (b : Bool) → (piece_at os g).safe ≡ b → start_from kind base os g + extent_at os g ≤ end_from kind base os
        go true e = omega (arith, safe inside of_kind e, total_all (safe_space kind) os (suc g))
        go false e = omega (arith, unsafe inside of_kind e, total_all (unsafe_space kind) os (suc g))

  -- two objects of the kind share no byte
  pub from_apart : (os : List Piece) (g h : ℕ) → g < h → h < length os → (piece_at os g).kind ≡ kind → (piece_at os h).kind ≡ kind
      → (a : ℕ) → start_from kind base os g ≤ a → a < start_from kind base os g + extent_at os g
      → start_from kind base os h ≤ a → a < start_from kind base os h + extent_at os h → ⊥
  from_apart os g h before inside kindG kindH a lowG highG lowH highH =
      go (piece_at os g).safe refl (piece_at os h).safe refl
    where
      go : (b : Bool) → (piece_at os g).safe ≡ b → (c : Bool) → (piece_at os h).safe ≡ c → ⊥
      go true e true f =
          omega (arith, safe os g (omega arith) kindG e, safe os h inside kindH f, total_more (safe_space kind) os (suc g) h before)
      go true e false f =
          omega (arith, safe os g (omega arith) kindG e, unsafe os h inside kindH f, total_all (safe_space kind) os (suc g))
      go false e true f =
          omega (arith, unsafe os g (omega arith) kindG e, safe os h inside kindH f, total_all (safe_space kind) os (suc h))
      go false e false f =
          omega (arith, unsafe os g (omega arith) kindG e, unsafe os h inside kindH f, total_more (unsafe_space kind) os (suc g) h before)

-- ---- the globals

pub start_whole : (os : List Piece) (g : ℕ) → start_of os g % 8 ≡ 0
unfolding start_of
start_whole os g = from_whole 0 8 os g refl

pub start_low : (os : List Piece) (g : ℕ) → start_of os g ≤ end_of os
unfolding start_of
start_low os g = from_low 0 8 os g

pub ends_below : (os : List Piece) (g : ℕ) → g < length os → (piece_at os g).kind ≡ 0 → start_of os g + extent_at os g ≤ end_of os
unfolding start_of
ends_below os g inside global = from_below 0 8 os g inside global

pub globals_apart : (os : List Piece) (g h : ℕ) → g < h → h < length os → (piece_at os g).kind ≡ 0 → (piece_at os h).kind ≡ 0
    → (a : ℕ) → start_of os g ≤ a → a < start_of os g + extent_at os g → start_of os h ≤ a → a < start_of os h + extent_at os h → ⊥
unfolding start_of
globals_apart os g h before inside globalG globalH = from_apart 0 8 os g h before inside globalG globalH
