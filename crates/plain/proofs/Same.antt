-- Demand 3. The routine's run under the plain rule comes to a state at which it stops; step by step the
-- table's machine keeps up with it (Lockstep), from tied states at the start (Start), so it reaches the
-- tied state and stops there too, for the same reason; and a run has one end (Stopping). What the two
-- records hold is then the same, the place by what a place counts (Places).
use Prim.Native.Nat.{ℕ}
use native.Mathlib.Omega.{arith}
use mathlib.Core.Path.{◌≡◌, sym, ◌∙◌, ap, subst}
use mathlib.Core.List.{List, []}
use mathlib.Core.Bool.{true}
use lib.ListN.{length}
use Rattle.files.specs.Program.{Program}
use Rattle.layout.specs.Layout.{fits}
use Rattle.stops.specs.declared.Reason.{Reason}
use Rattle.stops.specs.Stop.{number_of}
use Rattle.machine.specs.State.{Given, State, start_state}
use Rattle.machine.specs.Step.{stop, next, step}
use Rattle.machine.specs.Runs.{stopped, runs}
use Rattle.start.specs.First.{first_table}
use Rattle.machine.specs.Colors.{table_rule}
use Rattle.machine.proofs.Steps.{stop_not_next, next_same, stop_same}
use Rattle.machine.proofs.Effects.{Calm, image}
use Rattle.plain.specs.Live.{Live}
use Rattle.plain.specs.Plain.{plain_rule, plain_run}
use Rattle.plain.specs.Guards.{Guards}
use Rattle.plain.specs.Demands.{Reaches, Stops, Agree, SameRun, NeverOutside}
use Rattle.plain.proofs.Stopping.{run_stops, run_is}
use Rattle.plain.proofs.Recorded.{shown_next, step_shown, reaches_shown}
use Rattle.plain.proofs.Good.{Good, good}
use Rattle.plain.proofs.Holding.{Holds}
use Rattle.plain.proofs.Start.{holds_start}
use Rattle.plain.proofs.Rules.{rule₁, rule₂}
use Rattle.plain.proofs.Lockstep.{placed, Lock, lock}
use Rattle.plain.proofs.Places.{place_same}
use Rattle.routines.specs.Accepted.{plain_pieces}

module _ (p q : Program) (guards : Guards p q) (given : Given) where
  -- where the table's run starts
  abbrev pub start₂ : State (List ℕ × List Live)
  start₂ = start_state (first_table q, [])

  -- a state of the table's run that is tied to one of the routine's
  abbrev pub Kept : State (List Live) → Type 0
  Kept s = (own : List ℕ × List Live) × Reaches (rule₂ q) given start₂ (placed p q guards given s own) × Holds p guards.color s.own own s.memory

module _ (p q : Program) (guards : Guards p q) (given : Given) (good : Good p) (fitting : fits (plain_pieces p) ≡ true) where
  start_kept : Kept p q guards given (start_state [])
  start_kept = (
    (first_table q, []),
    subst (λ n. Reaches (rule₂ q) given (start₂ p q guards given) (image {S = List Live} (start_state []) n (first_table q, []))) (sym guards.first) Reaches.here,
    holds_start p q guards fitting,
  )

  step_kept : (s after : State (List Live)) → Kept p q guards given s → step (rule₁ p) given s ≡ next after → Kept p q guards given after
  step_kept s after (own, way, h) e = go (lock p q guards given good fitting s own h)
    where
      go : Lock p q guards given s own → Kept p q guards given after
      go (Lock.halts x) = absurd (stop_not_next (sym x.plain ∙ e))
      go (Lock.goes g) = subst (Kept p q guards given) (next_same (sym g.plain ∙ e)) (g.own', Reaches.more way g.guarded, g.holds)
      go (Lock.checks aim b is bytes c g) = subst (Kept p q guards given) (next_same (sym g.plain ∙ e)) (g.own', Reaches.more (Reaches.more way c) g.guarded, g.holds)

  -- the table's machine keeps up with the routine
  pub keeps_up : {s : State (List Live)} → Reaches (rule₁ p) given (start_state []) s → Kept p q guards given s
  keeps_up Reaches.here = start_kept
  keeps_up (Reaches.more {state} {after} way e) = step_kept state after (keeps_up way) e

  -- ---- the two ends

  record Ends : Type 0 where
    state : State (List Live)
    own : List ℕ × List Live
    reason : Reason
    calm : Calm reason
    plain : runs (plain_rule p) given [] ≡ stopped (plain_rule p) given state reason
    table : runs (table_rule q) given (first_table q)
        ≡ stopped (table_rule q) given (image state (guards.place state.at) own.0) reason

  table_end : (s : State (List Live)) (own : List ℕ × List Live) (x : Reason)
      → Reaches (rule₂ q) given (start₂ p q guards given) (placed p q guards given s own) → step (rule₂ q) given (placed p q guards given s own) ≡ stop x
      → runs (table_rule q) given (first_table q)
      ≡ stopped (table_rule q) given (image s (guards.place s.at) own.0) x
  unfolding table_rule
  table_end s own x way e =
      run_is (table_rule q) given (first_table q)
      (reaches_shown (table_rule q) given way)
      (step_shown (table_rule q) given (placed p q guards given s own) ∙ ap (shown_next (table_rule q) given) e)

  ends : Ends
  unfolding plain_rule
  ends = go (keeps_up one.reached)
    where
      one : Stops (rule₁ p) given []
      one = run_stops (rule₁ p) given []

      both : (own : List ℕ × List Live) → Reaches (rule₂ q) given (start₂ p q guards given) (placed p q guards given one.state own) → Lock p q guards given one.state own → Ends
      both own way (Lock.halts x) =
          record {
            state = one.state;
            own = own;
            reason = x.reason;
            calm = x.calm;
            plain = one.outcome ∙ ap (stopped (rule₁ p) given one.state) (stop_same (sym one.stopping ∙ x.plain));
            table = table_end one.state own x.reason way x.guarded;
          }
      both own way (Lock.goes g) = absurd (stop_not_next (sym one.stopping ∙ g.plain))
      both own way (Lock.checks aim b is bytes c g) = absurd (stop_not_next (sym one.stopping ∙ g.plain))

      go : Kept p q guards given one.state → Ends
      go (own, way, h) = both own way (lock p q guards given good fitting one.state own h)

  agree : Agree (runs (table_rule q) given (first_table q)) (plain_run p given)
  unfolding plain_rule table_rule
  agree =
      let e : Ends = ends in
      record {
        run =
            ap (λ o. o.run) e.table
            ∙ ap (λ (n : ℕ). record { reason = e.reason; place = n; steps = e.state.steps; out = length e.state.outs; taken = e.state.taken }) (place_same p q guards e.state.at)
            ∙ sym (ap (λ o. o.run) e.plain);
        outs = ap (λ o. o.outs) e.table ∙ sym (ap (λ o. o.outs) e.plain);
        memory = ap (λ o. o.memory) e.table ∙ sym (ap (λ o. o.memory) e.plain);
      }

  calm_end : Calm (runs (table_rule q) given (first_table q)).run.reason
  calm_end = let e : Ends = ends in subst Calm (sym (ap (λ o. o.run.reason) e.table)) e.calm

-- "the same reason, at the same place, after the same steps, with the same numbers out and the same memory"
pub same_run : SameRun
same_run p q given accepted guards = agree p q guards given (good p accepted.good) accepted.fitting

-- a reason that instrumented code stops for has another number than these
calm_number : (x : Reason) → Calm x → (number_of x ≡ 35 → ⊥) × (number_of x ≡ 38 → ⊥)
calm_number Reason.Finished c = ((λ e. omega arith), (λ e. omega arith))
calm_number Reason.PastEnd c = ((λ e. omega arith), (λ e. omega arith))
calm_number Reason.LimitUsed c = ((λ e. omega arith), (λ e. omega arith))
calm_number Reason.NoInput c = ((λ e. omega arith), (λ e. omega arith))
calm_number Reason.NoRoom c = ((λ e. omega arith), (λ e. omega arith))
calm_number Reason.ReadOutside c = ((λ e. omega arith), (λ e. omega arith))
calm_number Reason.StoreOutside c = absurd c
calm_number Reason.Forbidden c = ((λ e. omega arith), (λ e. omega arith))
calm_number Reason.BadFree c = ((λ e. omega arith), (λ e. omega arith))
calm_number Reason.Unsound c = absurd c
calm_number (Reason.Refused q) c = absurd c

pub never_outside : NeverOutside
never_outside p q given accepted guards =
    calm_number (runs (table_rule q) given (first_table q)).run.reason
    (calm_end p q guards given (good p accepted.good) accepted.fitting)
