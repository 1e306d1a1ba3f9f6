-- Demand 1, for any rule: every run stops within its limit, in one way alone.
--
-- A turn of the machine is a completed instruction or a passed check. The turns that can still come are
-- at most (limit - steps) * (instructions + 1) and what is left of the code, with a place past the end
-- counted as the end: an instruction uses up a step and may jump anywhere, also past the end, where the
-- next turn stops; a check uses up no step and goes forward by one. The number of turns that `runs` is
-- given is this measure at the start, it falls with each turn and is never 0, so `run_from` meets a stop
-- before its turns are over. A step has one answer, so two states that a run reaches lie on one line,
-- and at most one of them stops.
use Prim.Native.Nat.{ℕ, zero, suc, ◌+◌, ◌-◌, ◌*◌, ◌<◌, ◌≤◌, min}
use native.Mathlib.Omega.{arith}
use mathlib.Core.Path.{◌≡◌, refl, sym, ◌∙◌, ap, ap₂, subst}
use mathlib.Core.Logic.{◌⊎◌, inl, inr}
use mathlib.Core.List.{[]}
use mathlib.Core.Bool.{Bool, true, false}
use lib.ListN.{length, get_or}
use lib.Dec.{ltb}
use borrow.Author.Tests.{ltb-true}
use Rattle.opcodes.specs.declared.Instr.{Instr}
use Rattle.opcodes.specs.View.{View, view}
use Rattle.stops.specs.declared.Reason.{Reason}
use Rattle.machine.specs.State.{Rule, Given, State, start_state}
use Rattle.machine.specs.Step.{Effect, stops, passes, completes, Next, stop, next, conclude, effect, lets, perform, step}
use Rattle.machine.specs.Runs.{stopped, run_from, turns_for, runs}
use Rattle.start.specs.First.{first_table}
use Rattle.machine.specs.Colors.{table_rule}
use Rattle.machine.proofs.Steps.{stop_not_next, next_same, stop_same}
use Rattle.machine.proofs.Turns.{turn_on, turn_stop}
use Rattle.plain.specs.Plain.{plain_rule}
use Rattle.plain.specs.Demands.{Reaches, Stops, EveryRunStops, StopsOnce}

module _ {S : Type 0} (rule : Rule S) (given : Given) where
  -- ---- one turn

  -- a step from a state: an instruction, or a check that goes forward by one
  abbrev Forward : State S → Next S → Type 0
  Forward state (stop reason) = Unit {0}
  Forward state (next after) =
      (state.at < length rule.code)
      × (state.steps < given.limit)
      × ((after.steps ≡ state.steps + 1) ⊎ ((after.steps ≡ state.steps) × (after.at ≡ state.at + 1)))

  module _ (state : State S) (in_code : state.at < length rule.code) (in_limit : state.steps < given.limit) where
    concluded : (v : View) (e : Effect S) → Forward state (conclude rule given state v e)
    concluded v (stops reason) = tt
    concluded v passes = (in_code, in_limit, inr (refl, refl))
    concluded v (completes temps memory outs taken own) = (in_code, in_limit, inl refl)

    performed : (v : View) (b : Bool) → Forward state (elim b [ true ↦ conclude rule given state v (effect rule given state v) | false ↦ stop Reason.Forbidden ])
    performed v true = concluded v (effect rule given state v)
    performed v false = tt

  forward : (state : State S) → Forward state (step rule given state)
  unfolding step
  forward state = code (ltb state.at (length rule.code)) refl
    where
      limit : ltb state.at (length rule.code) ≡ true → (b : Bool) → ltb state.steps given.limit ≡ b
          → Forward state (elim b [ false ↦ stop Reason.LimitUsed | true ↦ perform rule given state (view (get_or rule.code state.at Instr.End)) ])
      limit c true l = performed state (ltb-true _ _ c) (ltb-true _ _ l) (view (get_or rule.code state.at Instr.End)) (lets rule given state (view (get_or rule.code state.at Instr.End)))
      limit c false l = tt

      code : (b : Bool) → ltb state.at (length rule.code) ≡ b
          → Forward state (elim b [ false ↦ stop Reason.PastEnd | true ↦ elim (ltb state.steps given.limit) [ false ↦ stop Reason.LimitUsed | true ↦ perform rule given state (view (get_or rule.code state.at Instr.End)) ] ])
      code true c = limit c (ltb state.steps given.limit) refl
      code false c = tt

  -- ---- the turns are enough

  module _ (start : State S) where
    -- how a run from a state ends, with so many turns
    record Ends (turns : ℕ) (state : State S) : Type 0 where
      final : State S
      reason : Reason
      reached : Reaches rule given start final
      stopping : step rule given final ≡ stop reason
      outcome : run_from rule given turns state ≡ stopped rule given final reason
      limited : final.steps ≤ given.limit

    -- `left` steps are left, and the measure is at most `turns`
    abbrev Enough : (turns left : ℕ) → State S → Type 0
    Enough turns left state =
        (left + state.steps ≡ given.limit)
        × (left * (length rule.code + 1) + (length rule.code - min state.at (length rule.code)) + 1 ≤ turns)

    -- a turn on leaves enough for what comes after
    fewer : (turns left : ℕ) (state after : State S) → Enough (suc turns) left state
        → state.at < length rule.code → state.steps < given.limit
        → (after.steps ≡ state.steps + 1) ⊎ ((after.steps ≡ state.steps) × (after.at ≡ state.at + 1))
        → (left' : ℕ) × Enough turns left' after
    fewer turns zero state after enough in_code in_limit (inl one) = absurd (omega arith)
    fewer turns (suc left) state after enough in_code in_limit (inl one) = (left, (omega arith, omega arith))
    fewer turns zero state after enough in_code in_limit (inr same) = absurd (omega arith)
    fewer turns (suc left) state after enough in_code in_limit (inr same) = (suc left, (omega arith, omega arith))

    ends : (turns left : ℕ) (state : State S) → Reaches rule given start state → Enough turns left state → Ends turns state
    ends zero left state reached enough = absurd (omega arith)
    ends (suc turns) left state reached enough = go (ends turns) (step rule given state) refl (forward state)
      where
        go : ((left : ℕ) (state : State S) → Reaches rule given start state → Enough turns left state → Ends turns state)
            → (answer : Next S) → step rule given state ≡ answer → Forward state (step rule given state) → Ends (suc turns) state
        go later (stop reason) e f =
            record {
              final = state;
              reason = reason;
              reached = reached;
              stopping = e;
              outcome = turn_stop rule given turns state reason e;
              limited = omega arith;
            }
        go later (next after) e f =
            let forth : Forward state (next after) = subst (Forward state) e f in
            let enough' : (left' : ℕ) × Enough turns left' after = fewer turns left state after enough forth.0 forth.1 forth.2 in
            let end : Ends turns after = later enough'.0 after (Reaches.more reached e) enough'.1 in
            record {
              final = end.final;
              reason = end.reason;
              reached = end.reached;
              stopping = end.stopping;
              outcome = turn_on rule given turns state after e ∙ end.outcome;
              limited = end.limited;
            }

  -- every run stops, at a state with at most as many steps as the limit
  pub run_stops : (own : S) → Stops rule given own
  unfolding runs
  run_stops own =
      let end : Ends (start_state own) (turns_for rule given) (start_state own) =
      ends (start_state own) (turns_for rule given) given.limit (start_state own) Reaches.here (omega arith, omega arith) in
      record {
        state = end.final;
        reason = end.reason;
        reached = end.reached;
        stopping = end.stopping;
        outcome = end.outcome;
        limited = end.limited;
      }

  -- ---- one way alone

  -- the first step of a way that has one
  peel : {start state : State S} → Reaches rule given start state
      → (start ≡ state) ⊎ ((after : State S) × (step rule given start ≡ next after) × Reaches rule given after state)
  peel Reaches.here = inl refl
  peel {start} (Reaches.more {state} {after} way e) = go (peel way)
    where
      go : (start ≡ state) ⊎ ((first : State S) × (step rule given start ≡ next first) × Reaches rule given first state)
          → (start ≡ after) ⊎ ((first : State S) × (step rule given start ≡ next first) × Reaches rule given first after)
      go (inl same) = inr (after, (ap (step rule given) same ∙ e), Reaches.here)
      go (inr (first, e', way')) = inr (first, e', Reaches.more way' e)

  -- of two states that one run reaches one leads to the other
  one_line : {start s t : State S} → Reaches rule given start s → Reaches rule given start t → Reaches rule given s t ⊎ Reaches rule given t s
  one_line Reaches.here way' = inl way'
  one_line {t = t} (Reaches.more {state} {after} way e) way' = back (one_line way way')
    where
      on : (state ≡ t) ⊎ ((first : State S) × (step rule given state ≡ next first) × Reaches rule given first t)
          → Reaches rule given after t ⊎ Reaches rule given t after
      on (inl same) = inr (subst (λ x. Reaches rule given x after) same (Reaches.more Reaches.here e))
      on (inr (first, e', way'')) = inl (subst (λ x. Reaches rule given x t) (next_same (sym e' ∙ e)) way'')

      back : Reaches rule given state t ⊎ Reaches rule given t state → Reaches rule given after t ⊎ Reaches rule given t after
      back (inl way'') = on (peel way'')
      back (inr way'') = inr (Reaches.more way'' e)

  -- a state that stops leads nowhere else
  stuck : {start state : State S} {reason : Reason} → step rule given start ≡ stop reason → Reaches rule given start state → start ≡ state
  stuck {start} {state} {reason} e way = go (peel way)
    where
      go : (start ≡ state) ⊎ ((after : State S) × (step rule given start ≡ next after) × Reaches rule given after state) → start ≡ state
      go (inl same) = same
      go (inr (after, e', way')) = absurd (stop_not_next (sym e ∙ e'))

  -- a run has one end: one state, one reason
  pub one_end : {start s t : State S} {x y : Reason} → Reaches rule given start s → step rule given s ≡ stop x
      → Reaches rule given start t → step rule given t ≡ stop y → (s ≡ t) × (x ≡ y)
  one_end {s = s} {t = t} {x = x} {y = y} way e way' e' = (same, stop_same (sym e ∙ ap (step rule given) same ∙ e'))
    where
      meet : Reaches rule given s t ⊎ Reaches rule given t s → s ≡ t
      meet (inl on) = stuck e on
      meet (inr on) = sym (stuck e' on)

      same : s ≡ t
      same = meet (one_line way way')

  -- what a run comes to where it is seen to stop
  pub run_is : (own : S) {state : State S} {reason : Reason} → Reaches rule given (start_state own) state
      → step rule given state ≡ stop reason → runs rule given own ≡ stopped rule given state reason
  run_is own way e =
      let end : Stops rule given own = run_stops own in
      let one : (end.state ≡ _) × (end.reason ≡ _) = one_end end.reached end.stopping way e in
      end.outcome ∙ ap₂ (stopped rule given) one.0 one.1

-- two ends of one run are one
pub stops_once : StopsOnce
stops_once S rule given own a b = one_end rule given a.reached a.stopping b.reached b.stopping

pub every_run_stops : EveryRunStops
every_run_stops p given = (run_stops (table_rule p) given (first_table p), run_stops (plain_rule p) given [])
