-- 01, "Running": a run from a state until it stops, and its record.
use Rattle.std.specs.Prelude.{ℕ, zero, suc, ◌+◌, ◌*◌, List, length}
use Rattle.stops.specs.declared.Reason.{Reason}
use Rattle.stops.specs.declared.Run.{Run}
use Rattle.stops.specs.Stop.{record_of}
use Rattle.machine.specs.State.{Rule, Given, State, start_state}
use Rattle.machine.specs.Step.{stop, next, step}

-- "A run gives reason, place, steps, numbers out, numbers taken", and it leaves the numbers themselves,
-- memory and the rule's own state
pub record Outcome (S : Type 0) : Type 0 where
  pub run : Run
  pub outs : List ℕ
  pub memory : List ℕ
  pub own : S

module _ {S : Type 0} (rule : Rule S) (given : Given) where
  -- "What came before a stop stays; the stopping instruction changes nothing."
  abbrev pub stopped : State S → Reason → Outcome S
  stopped state reason =
      record {
        run = record_of rule.code state.at state.steps (length state.outs) state.taken reason;
        outs = state.outs;
        memory = state.memory;
        own = state.own;
      }

  -- at most `turns` instructions and checks; a run that is not over by then counts as out of limit
  unfoldable pub run_from : (turns : ℕ) → State S → Outcome S
  run_from zero state = stopped state Reason.LimitUsed
  run_from (suc turns) state =
      elim (step rule given state) [ stop reason ↦ stopped state reason | next after ↦ run_from turns after ]

  -- checks cost no step, so a step may take as many turns as there are instructions: this is enough,
  -- and the limit is met before the turns are
  abbrev pub turns_for : ℕ
  turns_for = (given.limit + 1) * (length rule.code + 1)

  unfoldable pub runs : S → Outcome S
  runs own = run_from turns_for (start_state own)
