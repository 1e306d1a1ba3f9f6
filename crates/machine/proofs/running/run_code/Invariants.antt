use Rattle.machine.specs.Running.{lent_of}
use Rattle.machine.specs.Turn.{held}
use Rattle.machine.proofs.Going.{Course, Going, weight_of}
use Rattle.machine.proofs.running.run_code.Given as goal

-- the run that the loop is in
abbrev pub course : goal.Live-loop-i → Course
course l =
    record {
      code = l.code;
      starts = l.starts;
      objects = l.objects;
      input = l.input;
      limit = l.limit;
      lent = lent_of l.initial.memory l.initial.table l.initial.room;
    }

abbrev pub invariant-loop-i : goal.invariant-loop-i
invariant-loop-i l = Going (course l) (held l.temps l.memory l.table l.room) l.now

abbrev pub decreases-loop-i : goal.decreases-loop-i
decreases-loop-i l = weight_of (course l) l.now
