-- `put_all` meets its contract: those so far are put, and the next place is behind them.
use mathlib.Core.Path.{◌≡◌}
use Prim.Native.Nat.{◌+◌}
use lib.ListN.{length, take}
use lib.Seq.{sets}
use Rattle.files.specs.Writing.{spell_all}
use Rattle.writer.proofs.writing.put_all.Given as goal

abbrev pub invariant-loop-thing : goal.invariant-loop-thing
invariant-loop-thing g l =
    record {
      ends : l.place ≡ l.at + length (spell_all g.T.Spelled.spelling (take l.thing-index l.things));
      put : l.room ≡ sets l.initial.room l.at (spell_all g.T.Spelled.spelling (take l.thing-index l.things));
    }
