-- An instruction is put: its opcode, and behind it the operands that stand in the file (Lengths).
use native.Mathlib.Omega.{arith}
use Rattle.writer.proofs.Lengths.{instr_spelled}
use Rattle.writer.proofs.Putting.{puts}
use Rattle.writer.proofs.writing.InstrSpelled.put.Goals as goal

pub put_all-requires : goal.put_all-requires
put_all-requires c =
    let e = instr_spelled c.args.self c.parts_of-parts.ensures c.operands_in.ensures in
    grind (arith, puts)

pub returns-clause-place : goal.returns-clause-place
returns-clause-place c =
    let e = instr_spelled c.args.self c.parts_of-parts.ensures c.operands_in.ensures in
    grind (arith, puts)

pub returns-clause-room : goal.returns-clause-room
returns-clause-room c =
    let e = instr_spelled c.args.self c.parts_of-parts.ensures c.operands_in.ensures in
    grind (arith, puts)
