use Rattle.std.proofs.Common.{◌≡◌, ◌<◌, ◌≤◌, length, get_or, sym, ap, ◌∙◌, subst, arith, rules}
use Rattle.std.proofs.lemmas.List.{get_or_default}
use Rattle.opcodes.specs.declared.Instr.{Instr}
use Rattle.stops.specs.declared.Run.{Run}
use Rattle.machine.specs.Running.{lent_of, answered}
use Rattle.machine.specs.Turn.{Narrow}
use Rattle.machine.proofs.Going.{after_turn, stops_past, stops_limit, starts_off}
use Rattle.machine.proofs.running.run_code.Goals.{In-Some}
use Rattle.machine.proofs.running.run_code.Goals as goal

-- the instruction that stands there
found : (c : In-Some) → (c.loop-i.now.at < length c.args.code.now) × (c.in-Some.i.now ≡ get_or c.args.code.now c.loop-i.now.at Instr.End)
found c = let here : c.loop-i.now.at < length c.args.code.now = search rules in
    (here, c.in-Some.ensures.lookup.1 ∙ get_or_default c.args.code.now c.loop-i.now.at _ Instr.End here)

pub loop-i-init : goal.loop-i-init
loop-i-init c = starts_off _ c.requires.2 c.requires.3

pub returns-then-limit-now : goal.returns-then-limit-now
returns-then-limit-now c = let l = c.loop-i in
    ap (λ (x : Run). answered x (lent_of l.memory l.table l.room)) c.stopped.ensures
    ∙ stops_limit l.invariant (found (goal.at.returns-then-limit-now c).In-Some).0 c.if-limit-now.true

pub step-requires : goal.step-requires
step-requires c = let here = found (goal.at.step-requires c).In-Some in
    let i = c.loop-i.invariant in (
      c.requires.1,
      record { memory = i.memory; table = i.table; room = i.outs; counts = record { at = omega arith; steps = omega arith } },
      subst Narrow (sym here.1) (c.requires.4 c.loop-i.now.at here.0),
    )

pub loop-i-smaller : goal.loop-i-smaller
loop-i-smaller c = (after_turn c.loop-i.invariant (found (goal.at.loop-i-smaller c).In-Some) c.if-limit-now.false c.in-Ok.ensures).1

pub loop-i-preserved : goal.loop-i-preserved
loop-i-preserved c = let i = c.loop-i.invariant in
    let k = c.step.auto in
    (after_turn i (found (goal.at.loop-i-preserved c).In-Some) c.if-limit-now.false c.in-Ok.ensures).0 (k.memory ∙ i.memory) (k.table ∙ i.table) (k.room ∙ i.room)

pub returns-in-Err : goal.returns-in-Err
returns-in-Err c = let k = c.step.new in
    ap (λ (x : Run). answered x (lent_of k.memory k.table k.room)) c.stopped-in-Err.ensures
    ∙ after_turn c.loop-i.invariant (found (goal.at.returns-in-Err c).In-Some) c.if-limit-now.false c.in-Err.ensures

pub returns : goal.returns
returns c = let l = c.loop-i in
    let past : length c.args.code.now ≤ l.now.at = search rules in
    ap (λ (x : Run). answered x (lent_of l.memory l.table l.room)) c.stopped-2.ensures
    ∙ stops_past l.invariant past
