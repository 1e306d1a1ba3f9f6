-- An instruction made of any opcode and any operands. No file says an operand that its field cannot hold;
-- only the contract of `instr_of` cites this.
use Rattle.std.specs.Prelude.{ℕ, ◌%◌, List, map}
use Rattle.opcodes.specs.declared.Operand.{Operand}
use Rattle.opcodes.specs.declared.Instr.{Instr}
use Rattle.opcodes.specs.Table.{row_of, operands_of, make, named}

-- what the field of an operand of each kind holds of a number: all of one that a file can say there
abbrev pub fit : Operand → ℕ → ℕ
fit Operand.None n = 0
fit Operand.Temporary n = n % 256
fit Operand.Number n = n
fit Operand.Global n = n % 65536
fit Operand.Site n = n % 65536
fit Operand.Set n = n % 65536
fit Operand.Offset n = n % 65536
fit Operand.Target n = n % 65536
fit Operand.Color n = n % 256

-- the same instruction where the operands are any numbers
abbrev pub made : (op : ℕ) → List ℕ → Instr
made op ns = make op (map (λ o. fit o.0 o.1) (named (operands_of (row_of op)) ns))
