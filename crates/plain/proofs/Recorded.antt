-- A rule that also records the live bodies runs as the rule itself does: the record is looked at by
-- nobody.
use Prim.Native.Nat.{ℕ}
use mathlib.Core.Path.{◌≡◌, refl, ◌∙◌, ap}
use mathlib.Core.List.{List}
use mathlib.Core.Bool.{Bool, true, false}
use lib.ListN.{length, get_or}
use lib.Dec.{ltb}
use Rattle.opcodes.specs.declared.Instr.{Instr}
use Rattle.opcodes.specs.View.{View, act, jump, jump_if, store, check, view}
use Rattle.memory.specs.Memory.{inside}
use Rattle.stops.specs.declared.Reason.{Reason}
use Rattle.machine.specs.State.{Rule, Given, State, address_of, width_of}
use Rattle.machine.specs.Step.{Effect, stops, passes, completes, Next, stop, next, conclude, effect, lets, perform, step}
use Rattle.machine.proofs.Effects.{image, Follows, Alike, proper, follows_if, act_follows}
use Rattle.plain.specs.Live.{Live}
use Rattle.plain.specs.Demands.{Reaches, recording}

module _ {S : Type 0} (rule : Rule S) (given : Given) where
  -- the rule's own state is the first part of what is kept
  abbrev Shows : S × List Live → S → List ℕ → Type 0
  Shows own own' m = own' ≡ own.0

  abbrev Any : Reason → Type 0
  Any x = Unit {0}

  abbrev pub shown : State (S × List Live) → State S
  shown r = image r r.at r.own.0

  abbrev pub shown_next : Next (S × List Live) → Next S
  shown_next (stop x) = stop x
  shown_next (next r) = next (shown r)

  alike : Alike Shows Any (recording rule) rule (λ g. Unit {0})
  alike =
      record {
        starts = λ g. refl;
        calm = λ x c. tt;
        made = λ own own' m size g k tie site e. ap (λ x. rule.making x g k) tie;
        broken = λ own own' m size g tie site e. tt;
        freed = λ own own' m address f tie e. ap (λ x. rule.freeing x address f) tie;
        broken' = λ own own' m address tie e. tt;
      }

  module _ (r : State (S × List Live)) where
    effect_follows : (v : View) → Follows Shows Any (effect (recording rule) given r v) (effect rule given (shown r) v)
    effect_follows (act x) = act_follows Shows Any (recording rule) rule (λ g. Unit {0}) alike given r r.at r.own.0 refl x (proper (λ g. Unit {0}) x (λ d g a e. tt))
    effect_follows (jump p) = (r.own.0, refl, refl)
    effect_follows (jump_if a p) = (r.own.0, refl, refl)
    effect_follows (store aim b s) =
        follows_if Shows Any (inside (address_of rule.start r.temps aim) (width_of aim)) _ _ _ _ (r.own.0, refl, refl) (refl, tt)
    effect_follows (check aim c) = refl

    concluded : (v : View) (e : Effect (S × List Live)) (e' : Effect S) → Follows Shows Any e e'
        → conclude rule given (shown r) v e' ≡ shown_next (conclude (recording rule) given r v e)
    concluded v (stops x) e' f = ap (conclude rule given (shown r) v) f.0
    concluded v passes e' f = ap (conclude rule given (shown r) v) f
    concluded v (completes temps memory outs taken own) e' f =
        ap (conclude rule given (shown r) v) (f.1 ∙ ap (completes temps memory outs taken) f.2)

    -- the two rules let go on the same
    lets_same : (v : View) → lets rule given (shown r) v ≡ lets (recording rule) given r v
    lets_same (act x) = refl
    lets_same (jump p) = refl
    lets_same (jump_if a p) = refl
    lets_same (store aim b s) = refl
    lets_same (check aim c) = refl

    performed : (v : View) → perform rule given (shown r) v ≡ shown_next (perform (recording rule) given r v)
    performed v =
        ap (λ b. elim b [ true ↦ conclude rule given (shown r) v (effect rule given (shown r) v) | false ↦ stop Reason.Forbidden ]) (lets_same v)
        ∙ go (lets (recording rule) given r v)
      where
        go : (b : Bool) → ◌≡◌ {A = Next S} (elim b [ true ↦ conclude rule given (shown r) v (effect rule given (shown r) v) | false ↦ stop Reason.Forbidden ])
            (shown_next (elim b [ true ↦ conclude (recording rule) given r v (effect (recording rule) given r v) | false ↦ stop Reason.Forbidden ]))
        go true = concluded v (effect (recording rule) given r v) (effect rule given (shown r) v) (effect_follows v)
        go false = refl

    pub step_shown : step rule given (shown r) ≡ shown_next (step (recording rule) given r)
    unfolding step
    step_shown = code (ltb r.at (length rule.code))
      where
        v : View
        v = view (get_or rule.code r.at Instr.End)

        limit : (b : Bool) → ◌≡◌ {A = Next S} (elim b [ false ↦ stop Reason.LimitUsed | true ↦ perform rule given (shown r) v ])
            (shown_next (elim b [ false ↦ stop Reason.LimitUsed | true ↦ perform (recording rule) given r v ]))
        limit true = performed v
        limit false = refl

        code : (b : Bool) → ◌≡◌ {A = Next S}
            (elim b [ false ↦ stop Reason.PastEnd | true ↦ elim (ltb r.steps given.limit) [ false ↦ stop Reason.LimitUsed | true ↦ perform rule given (shown r) v ] ])
            (shown_next (elim b [ false ↦ stop Reason.PastEnd | true ↦ elim (ltb r.steps given.limit) [ false ↦ stop Reason.LimitUsed | true ↦ perform (recording rule) given r v ] ]))
        code true = limit (ltb r.steps given.limit)
        code false = refl

  pub reaches_shown : {start r : State (S × List Live)} → Reaches (recording rule) given start r → Reaches rule given (shown start) (shown r)
  reaches_shown Reaches.here = Reaches.here
  reaches_shown (Reaches.more {state} {after} way e) = Reaches.more (reaches_shown way) (step_shown state ∙ ap shown_next e)
