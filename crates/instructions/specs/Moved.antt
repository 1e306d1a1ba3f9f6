-- 01, "Version 2 of a routine": the same instruction in version 2, by the kinds of its operands.
use Rattle.std.specs.Prelude.{ℕ, map}
use Rattle.opcodes.specs.declared.Operand.{Operand}
use Rattle.opcodes.specs.declared.Parts.{Parts}
use Rattle.opcodes.specs.declared.Instr.{Instr}
use Rattle.opcodes.specs.Table.{make, parts_of, operands_in}

-- a jump has its new target, and "opcodes 10 and 11 have no s"
abbrev pub moved_operand : (target : ℕ → ℕ) → Operand → ℕ → ℕ
moved_operand target Operand.None n = n
moved_operand target Operand.Temporary n = n
moved_operand target Operand.Number n = n
moved_operand target Operand.Global n = n
moved_operand target Operand.Site n = n
moved_operand target Operand.Set n = 0
moved_operand target Operand.Offset n = n
moved_operand target Operand.Target n = target n
moved_operand target Operand.Color n = n

abbrev pub moved_parts : (target : ℕ → ℕ) → Parts → Instr
moved_parts target p = make p.op (map (λ o. moved_operand target o.0 o.1) (operands_in p))

abbrev pub moved : (target : ℕ → ℕ) → Instr → Instr
moved target i = moved_parts target (parts_of i)
