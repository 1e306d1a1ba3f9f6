-- `numbers::write_number` meets its contract. The invariant is a `Writing`: what is left to write leaves what the
-- whole writing does.
use Rattle.numbers.proofs.Writing.{Writing}
use Rattle.numbers.proofs.write_number.Given as goal

abbrev pub invariant-loop-place : goal.invariant-loop-place
invariant-loop-place l = Writing l.initial.room l.at l.n l.room l.rest l.place
