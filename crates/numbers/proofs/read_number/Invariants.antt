-- `numbers::read_number` meets its contract. The invariant is a `Reading`: what is left to read answers what the
-- whole reading does. Each way out of a turn, and the turn to the next group, is one of its steps; the measure
-- is the groups that may still come.
use Prim.Native.Nat.{◌≤◌}
use Rattle.numbers.proofs.Reading.{Reading}
use Rattle.numbers.proofs.read_number.Given as goal

abbrev pub invariant-loop-group : goal.invariant-loop-group
invariant-loop-group l = (l.group ≤ 5) × Reading l.file l.first l.at l.value l.group
