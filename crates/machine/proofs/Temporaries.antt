-- The temporaries that code names are there, so that the code tests none of them when it runs.
--
-- The reader's law says of an accepted file that each operand is allowed, and a temporary is where it is
-- below 16 (`narrow_operand`). The table of the opcodes carries that to any instruction, and the list of them
-- to any place of the code.
use Rattle.std.proofs.Common.{◌≡◌, ℕ, true, List, get_or, arith, ltb-true}
use Rattle.opcodes.specs.declared.Operand.{Operand}
use Rattle.opcodes.specs.declared.Instr.{Instr}
use Rattle.opcodes.specs.Table.{parts_of, operands_in}
use Rattle.opcodes.specs.Ranges.{Scope}
use Rattle.opcodes.proofs.Operands.{each_then}
use Rattle.files.specs.Writing.{every, good_operand, good_instr}
use Rattle.files.proofs.SpelledInstructions.{good_parts_lem}
use Rattle.files.proofs.Tests.{every_at}
use Rattle.machine.specs.Turn.{NarrowOperand, AllNarrow}

narrow_operand : (scope : Scope) (kind : Operand) (x : ℕ) → good_operand scope kind x ≡ true → NarrowOperand kind x
narrow_operand scope Operand.None x e = tt
narrow_operand scope Operand.Temporary x e = omega (arith, ltb-true x 16 e)
narrow_operand scope Operand.Number x e = tt
narrow_operand scope Operand.Global x e = tt
narrow_operand scope Operand.Site x e = tt
narrow_operand scope Operand.Set x e = tt
narrow_operand scope Operand.Offset x e = tt
narrow_operand scope Operand.Target x e = tt
narrow_operand scope Operand.Color x e = tt

pub narrow_code : (scope : Scope) (code : List Instr) → every (good_instr scope) code ≡ true → AllNarrow code
narrow_code scope code good at h =
    let i : Instr = get_or code at Instr.End in
    record { each = each_then (narrow_operand scope) (operands_in (parts_of i)) (good_parts_lem scope (parts_of i) (every_at (good_instr scope) code Instr.End at good h)).operands }
