-- `guarded_code` meets its contract: the list begins with version 2 of the instructions passed.
use lib.ListN.{get_or}
use Rattle.instrumenter.specs.Arrays.{checks_over}
use Rattle.instrumenter.proofs.Turns.{Guarding}
use Rattle.instrumenter.proofs.passes.guarded_code.Given as goal

abbrev pub invariant-loop-instr : goal.invariant-loop-instr
invariant-loop-instr l = Guarding (checks_over l.objects l.sets) (λ t. get_or l.places t 0) l.code l.instr-index l.count l.list
