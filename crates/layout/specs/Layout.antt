-- 01, "Memory and table": where the globals stand.
use Rattle.std.specs.Prelude.{ℕ, ◌+◌, List, [], ◌∷◌, map, Bool, true, false, get_or, take, eqb, leb}
use Rattle.opcodes.specs.declared.Object.{Object}
use Rattle.opcodes.specs.View.{extent}

-- what the layout asks of an object: its kind, its size, and whether it is safe
pub record Piece : Type 0 where
  pub kind : ℕ
  pub size : ℕ
  pub safe : Bool

-- "the safe globals (in version 2 those of color 0)"
abbrev pub piece_of : Object → Piece
piece_of o = record { kind = o.kind; size = o.size; safe = eqb o.color 0 }

abbrev pub pieces_of : List Object → List Piece
pieces_of objects = map piece_of objects

-- the bytes that a safe object of a kind takes: its extent; no other object takes any
abbrev pub safe_space : (kind : ℕ) → Piece → ℕ
safe_space kind o =
    elim (eqb o.kind kind) [ false ↦ 0 | true ↦ elim o.safe [ true ↦ extent o.size | false ↦ 0 ] ]

-- the bytes that an unsafe one takes: its extent and a guard of 8
abbrev pub unsafe_space : (kind : ℕ) → Piece → ℕ
unsafe_space kind o =
    elim (eqb o.kind kind) [ false ↦ 0 | true ↦ elim o.safe [ true ↦ 0 | false ↦ extent o.size + 8 ] ]

unfoldable pub total : (Piece → ℕ) → List Piece → ℕ
total space [] = 0
total space (o ∷ os) = space o + total space os

-- ---- the objects of a kind, from a base on

-- ".. in order, each rounded up to eight (its extent); then a guard of 8; .."
abbrev pub unsafe_from : (kind base : ℕ) → List Piece → ℕ
unsafe_from kind base os = base + total (safe_space kind) os + 8

-- ".. then each unsafe global's extent, each followed by a guard of 8"
abbrev pub end_from : (kind base : ℕ) → List Piece → ℕ
end_from kind base os = unsafe_from kind base os + total (unsafe_space kind) os

-- the start of object g
abbrev pub start_from : (kind base : ℕ) → List Piece → (g : ℕ) → ℕ
start_from kind base os g =
    elim (get_or os g (record { kind = 0; size = 0; safe = true })).safe
    [ true ↦ base + total (safe_space kind) (take g os) | false ↦ unsafe_from kind base os + total (unsafe_space kind) (take g os) ]

-- ---- the globals: "Slot 0 belongs to nothing. From address 8 stand the safe globals .."

abbrev pub end_of : List Piece → ℕ
end_of os = end_from 0 8 os

unfoldable pub start_of : List Piece → (g : ℕ) → ℕ
start_of os g = start_from 0 8 os g

-- "This must end at or below 28,672": else refusal 9
abbrev pub fits : List Piece → Bool
fits os = leb (end_of os) 28672
