-- `controller::control` meets its contract. Where the lengths are exact the rest is `instrument_and_run`.
use mathlib.Core.Path.{sym, ap, ◌∙◌}
use Rattle.stops.specs.declared.Run.{Run}
use Rattle.machine.specs.Running.{answered, lent_of}
use Rattle.controller.proofs.Controlled.{wrong_lengths}
use Rattle.controller.proofs.control.Goals as goal

pub returns-then-not-are_exact : goal.returns-then-not-are_exact
returns-then-not-are_exact c =
    let a = c.args in
    ap (λ (r : Run). answered r (lent_of a.memory.now a.table.now a.room.now)) c.refused.ensures
    ∙ sym
    (wrong_lengths a.file.now a.input.now a.limit a.memory.now a.table.now a.room.now
    (sym c.are_exact.ensures ∙ c.if-not-are_exact.true))
