-- The states that the table's run comes through: each is tied to a state of the routine's run, or stands
-- between a check that has passed and its store, with the memory and the own state of a tied one.
use Prim.Native.Nat.{ℕ, ◌+◌}
use mathlib.Core.Path.{◌≡◌, sym, ◌∙◌, ap}
use mathlib.Core.List.{List, []}
use mathlib.Core.Bool.{true}
use lib.ListN.{get_or}
use Rattle.opcodes.specs.declared.Instr.{Instr}
use Rattle.files.specs.Program.{Program}
use Rattle.opcodes.specs.View.{Aim, store, view}
use Rattle.layout.specs.Layout.{fits}
use Rattle.machine.specs.State.{Given, State, start_state}
use Rattle.machine.specs.Step.{next, step}
use Rattle.start.specs.First.{first_table}
use Rattle.machine.proofs.Steps.{stop_not_next, next_same}
use Rattle.machine.proofs.Effects.{image}
use Rattle.plain.specs.Live.{Live}
use Rattle.plain.specs.Guards.{Guards}
use Rattle.plain.specs.Demands.{Reaches}
use Rattle.plain.proofs.Good.{Good}
use Rattle.plain.proofs.Holding.{Holds}
use Rattle.plain.proofs.Start.{holds_start}
use Rattle.plain.proofs.Rules.{rule₂}
use Rattle.plain.proofs.Lockstep.{placed, Colored, Goes, Lock, lock}
use Rattle.plain.proofs.Same.{start₂}
use Rattle.routines.specs.Accepted.{plain_pieces}

module _ (p q : Program) (guards : Guards p q) (given : Given) (good : Good p) (fitting : fits (plain_pieces p) ≡ true) where
  pub data Through (r : State (List ℕ × List Live)) : Type 0 where
    tied : (s : State (List Live)) (own : List ℕ × List Live) → placed p q guards given s own ≡ r → Holds p guards.color s.own own s.memory → Through r
    behind : (s : State (List Live)) (own : List ℕ × List Live) (aim : Aim) (b : ℕ)
        → view (get_or q.code (guards.place s.at + 1) Instr.End) ≡ store aim b 0 → Colored p q guards given s own.0 aim
        → image s (guards.place s.at + 1) own ≡ r → Holds p guards.color s.own own s.memory
        → Goes p q guards given s (guards.place s.at + 1) own → Through r

  through_step : (r after : State (List ℕ × List Live)) → Through r → step (rule₂ q) given r ≡ next after → Through after
  through_step r after (behind s own aim b v bytes is h g) e =
      tied g.after g.own' (next_same (sym g.guarded ∙ ap (step (rule₂ q) given) is ∙ e)) g.holds
  through_step r after (tied s own is h) e = go (lock p q guards given good fitting s own h)
    where
      e' : step (rule₂ q) given (placed p q guards given s own) ≡ next after
      e' = ap (step (rule₂ q) given) is ∙ e

      go : Lock p q guards given s own → Through after
      go (Lock.halts x) = absurd (stop_not_next (sym x.guarded ∙ e'))
      go (Lock.goes g) = tied g.after g.own' (next_same (sym g.guarded ∙ e')) g.holds
      go (Lock.checks aim b v bytes c g) = behind s own aim b v bytes (next_same (sym c ∙ e')) h g

  pub through : {r : State (List ℕ × List Live)} → Reaches (rule₂ q) given (start₂ p q guards given) r → Through r
  through Reaches.here = tied (start_state []) (first_table q, []) (ap (λ n. image {S = List Live} (start_state []) n (first_table q, [])) guards.first) (holds_start p q guards fitting)
  through (Reaches.more {state} {after} way e) = through_step state after (through way) e
