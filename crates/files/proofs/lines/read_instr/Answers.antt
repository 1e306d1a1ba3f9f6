-- `files::lines::read_instr` meets its contract. What is left to read behind the opcode, and behind each operand, is
-- what the definition reads there (`an_opcode`, `an_operand`); each refusal is found without a line here.
use mathlib.Core.Path.{◌≡◌, refl, sym, ap, ◌∙◌}
use mathlib.Core.List.{List, [], ◌∷◌}
use Prim.Native.Nat.{ℕ}
use Rattle.std.specs.Prelude.{Ok}
use Rattle.numbers.specs.declared.Cursor.{Cursor}
use Rattle.instructions.proofs.Whole.{made_whole}
use Rattle.opcodes.specs.declared.Row.{Row}
use Rattle.opcodes.specs.declared.Instr.{Instr}
use Rattle.opcodes.specs.Table.{row_of, make}
use Rattle.opcodes.specs.Ranges.{kinds_of, scope_over}
use Rattle.files.proofs.OneInstr.{an_opcode, an_operand, by_row, operand_fits}
use Rattle.files.specs.Parsing.{operand_at}
use Rattle.files.proofs.lines.read_instr.Goals as goal

pub returns : goal.returns
returns c =
    let kinds : List ℕ = kinds_of c.args.objects.now in
    let scope = scope_over c.args.scope kinds in
    let file : List ℕ = c.args.r.file.now in
    let op : ℕ = c.in_ok-op.op in
    let row : Row = row_of op in
    let x : ℕ = c.in_ok-x.x in
    let y : ℕ = c.in_ok-y.y in
    let z : ℕ = c.in_ok-z.z in
    let w : ℕ = c.in_ok-w.w in
    let past0 : Cursor = c.in_ok-op.past_opcode in
    let past1 : Cursor = c.in_ok-x.past_first in
    let past2 : Cursor = c.in_ok-y.past_second in
    let past3 : Cursor = c.in_ok-z.past_third in
    let next : Cursor = c.in_ok-w.next in
    let opcode = an_opcode scope file _ (sym c.opcode_at.ensures ∙ c.in_ok-op.was) in
    let first : operand_at scope row.first file past0.at ≡ Ok (x, past1) =
    by_row c.row_of-row.ensures (λ r. r.first) _ _ _ c.operand_at.ensures c.in_ok-x.was in
    let second : operand_at scope row.second file past1.at ≡ Ok (y, past2) =
    by_row c.row_of-row.ensures (λ r. r.second) _ _ _ c.operand_at-2.ensures c.in_ok-y.was in
    let third : operand_at scope row.third file past2.at ≡ Ok (z, past3) =
    by_row c.row_of-row.ensures (λ r. r.third) _ _ _ c.operand_at-3.ensures c.in_ok-z.was in
    let fourth : operand_at scope row.fourth file past3.at ≡ Ok (w, next) =
    by_row c.row_of-row.ensures (λ r. r.fourth) _ _ _ c.operand_at-4.ensures c.in_ok-w.was in
    let reads =
    opcode
    ∙ an_operand scope file row.first (row.second ∷ row.third ∷ row.fourth ∷ []) past0 (make op) first
    ∙ an_operand scope file row.second (row.third ∷ row.fourth ∷ []) past1 (λ ns. make op (x ∷ ns)) second
    ∙ an_operand scope file row.third (row.fourth ∷ []) past2 (λ ns. make op (x ∷ y ∷ ns)) third
    ∙ an_operand scope file row.fourth [] past3 (λ ns. make op (x ∷ y ∷ z ∷ ns)) fourth in
    ap (λ (i : Instr). Ok (i, next))
    (c.instr_of.ensures
    ∙ made_whole op (x ∷ y ∷ z ∷ w ∷ []) refl
    (operand_fits c.args.scope kinds c.requires row.first file past0.at first, (operand_fits c.args.scope kinds c.requires row.second file past1.at second, (operand_fits c.args.scope kinds c.requires row.third file past2.at third, (operand_fits c.args.scope kinds c.requires row.fourth file past3.at fourth, tt)))))
    ∙ sym reads
