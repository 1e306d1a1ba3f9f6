use Rattle.files.specs.Held.{blank}
use Rattle.files.specs.Parsing.{read_object}
use Rattle.files.proofs.Loop.{Filling}
use Rattle.files.proofs.objects.read_objects.Given as goal

abbrev pub invariant-loop-i : goal.invariant-loop-i
invariant-loop-i l = Filling 400 blank (read_object l.version l.file) l.count l.initial.next.at l.list l.next.at l.i
