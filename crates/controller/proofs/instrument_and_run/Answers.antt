use mathlib.Core.Path.{sym, ap, ◌∙◌}
use Prim.Native.Nat.{ℕ}
use lib.ListN.{replicate, length-replicate}
use Rattle.stops.specs.declared.Run.{Run}
use Rattle.machine.specs.Running.{answered, lent_of}
use Rattle.controller.proofs.Controlled.{refused_so, written_so}
use Rattle.controller.proofs.instrument_and_run.Goals as goal

pub returns-in-Ok : goal.returns-in-Ok
returns-in-Ok c =
    let a = c.args in
    let called = c.instrument.ensures in
    c.run_file.ensures
    ∙ (written_so a.file.now a.input.now a.limit a.memory.now a.table.now a.room.now
    c.requires.0 c.requires.1 (replicate 32768 0) (length-replicate {A = ℕ} 32768 0) _ _ (sym called.answer ∙ c.in-Ok.is) called.room).1

pub returns-in-Err : goal.returns-in-Err
returns-in-Err c =
    let a = c.args in
    ap (λ (r : Run). answered r (lent_of a.memory.now a.table.now a.room.now)) c.refused.ensures
    ∙ sym (refused_so a.file.now a.input.now a.limit a.memory.now a.table.now a.room.now
    c.requires.0 c.requires.1 (replicate 32768 0) (length-replicate {A = ℕ} 32768 0) _ (sym c.instrument.ensures.answer ∙ c.in-Err.is))
