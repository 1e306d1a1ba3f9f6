-- The range of each operand, and what the versions differ in where instructions are concerned.
use Rattle.std.specs.Prelude.{ℕ, List, map, Bool, true, false, length, get_or, ltb, leb, eqb}
use Rattle.opcodes.specs.declared.Group.{Group}
use Rattle.opcodes.specs.declared.Object.{Object}
use Rattle.opcodes.specs.declared.Operand.{Operand}
use Rattle.opcodes.specs.declared.Scope as declared
use Rattle.opcodes.specs.Table.{rows, row_of}

-- "Version 2 .. has .. no sets"
abbrev pub has_sets : (version : ℕ) → Bool
has_sets version = eqb version 1

-- which versions have the opcodes of a group: checks are "version 2 only"
abbrev pub has_group : (version : ℕ) → Group → Bool
has_group version Group.Plain = true
has_group version Group.Check = eqb version 2

-- an opcode of a version: it has a row, of a group that the version has
abbrev pub has_opcode : (version op : ℕ) → Bool
has_opcode version op = elim (ltb op (length rows)) [ true ↦ has_group version (row_of op).group | false ↦ false ]

-- a number from low to high
abbrev pub within : (low high n : ℕ) → Bool
within low high n = elim (leb low n) [ true ↦ leb n high | false ↦ false ]

-- "a color (0 or 2 to 255)"
abbrev pub is_color : ℕ → Bool
is_color n = elim (eqb n 0) [ true ↦ true | false ↦ within 2 255 n ]

-- what the operands of an instruction may name
pub record Scope : Type 0 where
  pub version : ℕ
  pub kinds : List ℕ
  pub sets : ℕ
  pub code : ℕ

abbrev pub kinds_of : List Object → List ℕ
kinds_of objects = map (λ o. o.kind) objects

-- the code's scope with the objects' kinds
abbrev pub scope_over : declared.Scope → (kinds : List ℕ) → Scope
scope_over scope kinds = record { version = scope.version; kinds = kinds; sets = scope.sets; code = scope.lines }

-- "kind 0 (global)", "kind 1 (heap site)": g names an object, and one of the kind stated
abbrev pub is_kind : (kinds : List ℕ) → (kind g : ℕ) → Bool
is_kind kinds kind g = elim (ltb g (length kinds)) [ true ↦ eqb (get_or kinds g 0) kind | false ↦ false ]

-- whether an operand stands in the file: "In version 2, opcodes 10 and 11 have no s"
abbrev pub present : (version : ℕ) → Operand → Bool
present version Operand.None = false
present version Operand.Temporary = true
present version Operand.Number = true
present version Operand.Global = true
present version Operand.Site = true
present version Operand.Set = has_sets version
present version Operand.Offset = true
present version Operand.Target = true
present version Operand.Color = true

-- "d, a and b name one of 16 temporaries ..; n is any number; s is below the count of sets; k is at
-- most 65,535; c is 2 to 255; p is below the count of instructions; g must be of the kind stated"
abbrev pub allowed : Scope → Operand → ℕ → Bool
allowed scope Operand.None n = eqb n 0
allowed scope Operand.Temporary n = ltb n 16
allowed scope Operand.Number n = leb n 4294967295
allowed scope Operand.Global n = is_kind scope.kinds 0 n
allowed scope Operand.Site n = is_kind scope.kinds 1 n
allowed scope Operand.Set n = ltb n scope.sets
allowed scope Operand.Offset n = leb n 65535
allowed scope Operand.Target n = ltb n scope.code
allowed scope Operand.Color n = within 2 255 n
