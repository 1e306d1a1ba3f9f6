-- `by_opcode` meets its contract: each arm's numbers are opcodes whose instruction has that nature.
use Rattle.std.proofs.Common.{sym, arith}
use Rattle.safety.proofs.Natures.{at_writes, at_checks, at_first, at_between}
use Rattle.safety.proofs.by_opcode.Goals as goal

pub returns-in-10-to-11 : goal.returns-in-10-to-11
returns-in-10-to-11 c = let a = c.args in sym (at_writes (λ g. a.size) a.x a.y a.z a.w a.opcode (omega arith) (omega arith))

pub returns-in-18-to-21 : goal.returns-in-18-to-21
returns-in-18-to-21 c = let a = c.args in sym (at_checks (λ g. a.size) a.x a.y a.z a.w a.opcode (omega arith) (omega arith))

pub returns-in_default : goal.returns-in_default
returns-in_default c = let a = c.args in sym (at_first (λ g. a.size) a.x a.y a.z a.w a.opcode (omega arith))

pub returns-in_default-2 : goal.returns-in_default-2
returns-in_default-2 c = let a = c.args in sym (at_between (λ g. a.size) a.x a.y a.z a.w a.opcode (omega arith) (omega arith))
