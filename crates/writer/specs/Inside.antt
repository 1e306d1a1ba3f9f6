-- What the functions inside the crate promise one another, where it is no sentence of 01.
use Rattle.std.specs.Prelude.{ℕ, List, []}
use Rattle.opcodes.specs.declared.Object.{Object}
use Rattle.opcodes.specs.declared.Instr.{Instr}
use Rattle.opcodes.specs.Ranges.{Scope, kinds_of}
use Rattle.files.specs.Program.{Program}

-- the program of version 2 that objects and instructions make: it has no sets
abbrev pub shown_in : List Object → List Instr → Program
shown_in objects code = record { objects = objects; sets = []; code = code }

-- what the operands of its instructions may name
abbrev pub scope_in : List Object → (lines : ℕ) → Scope
scope_in objects lines = record { version = 2; kinds = kinds_of objects; sets = 0; code = lines }
