-- `machine::run_file` meets its contract.
use Rattle.std.proofs.Common.{◌≡◌, Result, Ok, true, ap, ◌∙◌, rules}
use Rattle.numbers.specs.declared.refusal.Refusal.{Refusal}
use Rattle.files.specs.declared.arrays.Loaded.{Loaded}
use Rattle.files.specs.Reading.{read_file}
use Rattle.files.specs.Held.{held}
use Rattle.memory.proofs.Exact.{exact_lengths_lem}
use Rattle.stops.specs.declared.Run.{Run}
use Rattle.machine.specs.Running.{exact_lengths, lent_of, answered}
use Rattle.machine.proofs.Loading.{read_as, few_lines, narrow, low, long, runs_it}
use Rattle.machine.proofs.run_file.Goals.{In-Ok}
use Rattle.machine.proofs.run_file.Goals as goal

-- what was read is what is held
was_read : (c : In-Ok) → ◌≡◌ {A = Result Loaded Refusal} (Ok c.in-Ok.held) (held (read_file 2 c.args.file.now))
was_read c = search rules

pub returns-then-not-laid : goal.returns-then-not-laid
returns-then-not-laid c = let a = c.args in
    let l = c.lay-laid in
    let exact : exact_lengths (lent_of a.memory.now a.table.now a.room.now) ≡ true = search rules in
    ap (λ (x : Run). answered x (lent_of l.new.memory l.new.table a.room.now)) c.refused-then-not-laid.ensures
    ∙ long _ _ _ _ _ _ (read_as (was_read (goal.at.returns-then-not-laid c).In-Ok)) exact l.ensures.value l.ensures.memory_after l.ensures.table_after c.if-not-laid.true

pub run_code-requires : goal.run_code-requires
run_code-requires c = let a = c.args in
    let l = c.lay-laid in
    let exact : exact_lengths (lent_of a.memory.now a.table.now a.room.now) ≡ true = search rules in
    let r = read_as (was_read (goal.at.run_code-requires c).In-Ok) in
    let both = exact_lengths_lem a.memory.now a.table.now exact in (
      few_lines r,
      low _ a.input.now a.limit _ _ a.room.now r exact l.ensures.value l.ensures.memory_after l.ensures.table_after c.if-not-laid.false,
      l.auto.memory ∙ both.0,
      l.auto.table ∙ both.1,
      narrow r,
    )

pub returns : goal.returns
returns c = let a = c.args in
    let l = c.lay-laid in
    let exact : exact_lengths (lent_of a.memory.now a.table.now a.room.now) ≡ true = search rules in
    c.run_code.ensures
    ∙ runs_it _ _ _ _ _ _ (read_as (was_read (goal.at.returns c).In-Ok)) exact l.ensures.value l.ensures.memory_after l.ensures.table_after c.if-not-laid.false
