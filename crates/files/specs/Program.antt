-- What a file says: objects, sets and instructions; and what the versions differ in.
use Rattle.std.specs.Prelude.{ℕ, List, Bool, true, false, eqb}
use Rattle.opcodes.specs.declared.Instr.{Instr}
use Rattle.opcodes.specs.declared.Object.{Object}

-- "the count of objects ..; the count of sets ..; the count of instructions .. and the instructions"
pub record Program : Type 0 where
  pub objects : List Object
  pub sets : List (List ℕ)
  pub code : List Instr

-- "Version 2 starts with 2, has a color at the end of each object"
abbrev pub has_colors : (version : ℕ) → Bool
has_colors version = eqb version 2

-- "1 to 1,000", and "1 to 2,000 instructions" in version 2
abbrev pub most_code : (version : ℕ) → ℕ
most_code version = elim (eqb version 1) [ true ↦ 1000 | false ↦ 2000 ]

-- "Limits: 16,384 bytes for version 1, 32,768 for version 2"
abbrev pub longest : (version : ℕ) → ℕ
longest version = elim (eqb version 1) [ true ↦ 16384 | false ↦ 32768 ]
