-- `instr_of` meets its contract: in each arm the opcode is the arm's own, and each field is what its helper took of
-- the operand.
use Rattle.instructions.proofs.instr_of.Goals as goal

pub returns-in-2 : goal.returns-in-2
returns-in-2 c = rw (c.in-2.is, c.low_byte-x8.ensures, c.low_half-y16.ensures)
