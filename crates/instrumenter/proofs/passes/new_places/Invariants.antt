-- `new_places` meets its contract: each instruction passed has its new place, and `place` is that of the next one.
use Rattle.instrumenter.specs.Arrays.{checks_over}
use Rattle.instrumenter.proofs.Turns.{Placing}
use Rattle.instrumenter.proofs.passes.new_places.Given as goal

abbrev pub invariant-loop-at : goal.invariant-loop-at
invariant-loop-at l = Placing (checks_over l.objects l.sets) l.code l.at l.place l.places
