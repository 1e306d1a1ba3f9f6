-- `all_length` meets its contract: those so far are good, and their lengths are added up.
use mathlib.Core.Path.{◌≡◌}
use mathlib.Core.Bool.{true}
use Prim.Native.Nat.{◌*◌, ◌≤◌}
use lib.ListN.{length, take}
use Rattle.files.specs.Writing.{spell_all, every}
use Rattle.writer.specs.Inside.{scope_in}
use Rattle.writer.proofs.measuring.all_length.Given as goal

abbrev pub invariant-loop-thing : goal.invariant-loop-thing
invariant-loop-thing g l =
    record {
      good : every (g.T.Measured.good (scope_in l.objects l.lines)) (take l.thing-index l.things) ≡ true;
      sum : l.total ≡ length (spell_all g.T.Spelled.spelling (take l.thing-index l.things));
      few : l.total ≤ g.T.Measured.most * l.thing-index;
    }
