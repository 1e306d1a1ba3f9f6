-- What the lent table holds after a run: the colors that the instrumented code's run leaves. Nothing
-- else that the controller promises rests on this.
use Rattle.std.specs.Prelude.{ℕ, List}
use Rattle.files.specs.Program.{Program}
use Rattle.coloring.specs.Colored.{color_in}
use Rattle.instrumenter.specs.Instrumented.{instrumented}
use Rattle.machine.specs.State.{Given}
use Rattle.machine.specs.Runs.{runs}
use Rattle.start.specs.First.{first_table}
use Rattle.machine.specs.Colors.{table_rule}

unfoldable pub table_after : Program → Given → List ℕ
table_after p given =
    (runs (table_rule (instrumented (color_in p) p)) given (first_table (instrumented (color_in p) p))).own
