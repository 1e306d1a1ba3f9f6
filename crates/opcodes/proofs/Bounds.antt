-- What the tests for the ranges say of a number.
use Prim.Native.Nat.{ℕ, ◌<◌, ◌≤◌}
use mathlib.Core.Path.{◌≡◌, refl}
use mathlib.Core.List.{List}
use mathlib.Core.Bool.{Bool, true, false}
use native.Mathlib.Omega.{arith}
use lib.ListN.{length, get_or}
use lib.Dec.{ltb, leb, eqb}
use borrow.Author.Tests.{eqb-true, leb-true, ltb-true, le-leb, lt-ltb}
use Rattle.opcodes.specs.Table.{rows, row_of}
use Rattle.opcodes.specs.Ranges.{has_group, has_opcode, within, is_color, is_kind}

-- a number from low to high
pub within_bounds : (low high n : ℕ) → within low high n ≡ true → (low ≤ n) × (n ≤ high)
within_bounds low high n e = go (leb low n) refl e
  where
    go : (b : Bool) → leb low n ≡ b → elim b as (λ _. Bool) [ true ↦ leb n high | false ↦ false ] ≡ true → (low ≤ n) × (n ≤ high)
    go true p e = (leb-true low n p, leb-true n high e)
    go false p e = let z : ◌≡◌ {A = ℕ} 0 1 = cc in absurd (omega arith)

pub within_true : (low high n : ℕ) → low ≤ n → n ≤ high → within low high n ≡ true
within_true low high n p q = simp (le-leb low n p, within) (le-leb n high q)

pub color_small : (n : ℕ) → is_color n ≡ true → n ≤ 255
color_small n e = go (eqb n 0) refl e
  where
    go : (b : Bool) → eqb n 0 ≡ b → elim b as (λ _. Bool) [ true ↦ true | false ↦ within 2 255 n ] ≡ true → n ≤ 255
    go true p e = omega (arith, eqb-true n 0 p)
    go false p e = (within_bounds 2 255 n e).1

pub kind_below : (kinds : List ℕ) (kind g : ℕ) → is_kind kinds kind g ≡ true → g < length kinds
kind_below kinds kind g e = go (ltb g (length kinds)) refl e
  where
    go : (b : Bool) → ltb g (length kinds) ≡ b → elim b as (λ _. Bool) [ true ↦ eqb (get_or kinds g 0) kind | false ↦ false ] ≡ true → g < length kinds
    go true p e = ltb-true g (length kinds) p
    go false p e = let z : ◌≡◌ {A = ℕ} 0 1 = cc in absurd (omega arith)

pub kind_is : (kinds : List ℕ) (kind g : ℕ) → is_kind kinds kind g ≡ true → get_or kinds g 0 ≡ kind
kind_is kinds kind g e =
    let below : ltb g (length kinds) ≡ true = lt-ltb g (length kinds) (kind_below kinds kind g e) in
    eqb-true (get_or kinds g 0) kind (rw (below, is_kind) at e)

-- an opcode has a row
pub opcode_below : (version op : ℕ) → has_opcode version op ≡ true → op < length rows
opcode_below version op e = go (ltb op (length rows)) refl e
  where
    go : (b : Bool) → ltb op (length rows) ≡ b → elim b as (λ _. Bool) [ true ↦ has_group version (row_of op).group | false ↦ false ] ≡ true → op < length rows
    go true p e = ltb-true op (length rows) p
    go false p e = let z : ◌≡◌ {A = ℕ} 0 1 = cc in absurd (omega arith)
