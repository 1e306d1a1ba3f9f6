-- A run never stops for a refusal: whatever the rule and the code, a step stops for one of 01's stops.
use mathlib.Core.Path.{◌≡◌, refl, subst}
use mathlib.Core.Bool.{Bool, true, false}
use lib.ListN.{length, get_or}
use lib.Dec.{ltb}
use Rattle.numbers.specs.declared.refusal.Refusal.{Refusal}
use Rattle.opcodes.specs.declared.Instr.{Instr}
use Rattle.opcodes.specs.View.{view}
use Rattle.coloring.specs.Class.{holds}
use Rattle.stops.specs.declared.Reason.{Reason}
use Rattle.stops.specs.Stop.{number_of}
use Rattle.machine.specs.State.{Rule, Given, State}
use Rattle.machine.specs.Step.{Next, stop, next, perform, step}
use Rattle.machine.proofs.Turns.{Halt, Forth, forth}
use Rattle.plain.specs.Demands.{stop_numbers}

pub halt_listed : (x : Reason) → Halt x → holds stop_numbers (number_of x) ≡ true
unfolding holds
halt_listed Reason.Finished h = refl
halt_listed Reason.PastEnd h = refl
halt_listed Reason.LimitUsed h = refl
halt_listed Reason.NoInput h = refl
halt_listed Reason.NoRoom h = refl
halt_listed Reason.ReadOutside h = refl
halt_listed Reason.StoreOutside h = refl
halt_listed Reason.Forbidden h = refl
halt_listed Reason.BadFree h = refl
halt_listed Reason.Unsound h = refl
halt_listed (Reason.Refused q) h = absurd h

module _ {S : Type 0} (rule : Rule S) (given : Given) (s : State S) where
  abbrev Halts : Next S → Type 0
  Halts (stop x) = Halt x
  Halts (next after) = Unit {0}

  halts : (n : Next S) → Forth rule given s n → Halts n
  halts (stop x) h = h
  halts (next after) h = tt

  here : Halts (perform rule given s (view (get_or rule.code s.at Instr.End)))
  here = halts (perform rule given s (view (get_or rule.code s.at Instr.End))) (forth rule given s (view (get_or rule.code s.at Instr.End)))

  step_halts : Halts (step rule given s)
  unfolding step
  step_halts = code (ltb s.at (length rule.code))
    where
      limit : (b : Bool) → Halts (elim b [ false ↦ stop Reason.LimitUsed | true ↦ perform rule given s (view (get_or rule.code s.at Instr.End)) ])
      limit true = here
      limit false = tt

      code : (b : Bool) → Halts (elim b [ false ↦ stop Reason.PastEnd | true ↦ elim (ltb s.steps given.limit) [ false ↦ stop Reason.LimitUsed | true ↦ perform rule given s (view (get_or rule.code s.at Instr.End)) ] ])
      code true = limit (ltb s.steps given.limit)
      code false = tt

  -- a state that stops does so for one of 01's stops
  pub stops_listed : (x : Reason) → step rule given s ≡ stop x → holds stop_numbers (number_of x) ≡ true
  stops_listed x e = halt_listed x (subst Halts e step_halts)

  -- and not for a refusal, whatever its number
  pub stops_unrefused : (x : Reason) → step rule given s ≡ stop x → (q : Refusal) → x ≡ Reason.Refused q → ⊥
  stops_unrefused x e q f = subst Halt f (subst Halts e step_halts)
