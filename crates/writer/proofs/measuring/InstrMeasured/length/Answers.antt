-- An instruction has its length: its operands are judged one after the other, behind the opcode (Lengths).
use mathlib.Core.Path.{sym, ◌∙◌}
use native.Mathlib.Omega.{arith}
use lib.ListN.{length-append}
use Rattle.writer.specs.Inside.{scope_in}
use Rattle.writer.proofs.Lengths.{instr_good, instr_spelled}
use Rattle.writer.proofs.measuring.InstrMeasured.length.Goals as goal

pub returns-in_err-operands-clause-length : goal.returns-in_err-operands-clause-length
returns-in_err-operands-clause-length c =
    let good = instr_good (scope_in c.args.objects.now c.args.lines) c.args.self c.parts_of-parts.ensures c.operands_in.ensures (sym c.has_opcode.ensures ∙ c.if-not-has_opcode.false) in
    grind arith

pub returns-clause-length : goal.returns-clause-length
returns-clause-length c =
    let good = instr_good (scope_in c.args.objects.now c.args.lines) c.args.self c.parts_of-parts.ensures c.operands_in.ensures (sym c.has_opcode.ensures ∙ c.if-not-has_opcode.false) in
    let bytes = instr_spelled c.args.self c.parts_of-parts.ensures c.operands_in.ensures in
    grind (arith, length-append)
