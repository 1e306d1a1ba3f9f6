use mathlib.Core.Path.{◌≡◌}
use Rattle.opcodes.specs.declared.Instr.{Instr}
use Rattle.opcodes.specs.Ranges.{kinds_of, scope_over}
use Rattle.files.specs.Parsing.{read_instr}
use Rattle.files.proofs.Loop.{Filling}
use Rattle.files.proofs.lines.read_code.Given as goal

abbrev pub invariant-loop-i : goal.invariant-loop-i
invariant-loop-i l =
    (l.code.count ≡ l.count)
    × Filling 2000 Instr.End (read_instr (scope_over l.scope (kinds_of l.objects)) l.file) l.count l.initial.next.at l.code.list l.next.at l.i
