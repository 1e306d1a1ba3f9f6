-- A step by cases: past the last instruction, at the limit, or the instruction that stands there.
use Rattle.std.proofs.Common.{◌≡◌, ℕ, ◌<◌, ◌≤◌, Bool, true, false, ltb, length, get_or, sym, refl, ap, ◌∙◌, arith, ltb-false, ltb-true, le-ltb, lt-ltb}
use Rattle.opcodes.specs.declared.Instr.{Instr}
use Rattle.opcodes.specs.View.{Aim, store, view}
use Rattle.memory.specs.Memory.{bytes_of, put, inside}
use Rattle.stops.specs.declared.Reason.{Reason}
use Rattle.machine.specs.State.{Rule, Given, State, temp, address_of, width_of}
use Rattle.machine.specs.Step.{completes, Next, stop, next, storing, conclude, lets, perform, step}

-- a stop is no way on, and each has what it was made of
pub stop_not_next : {S : Type 0} {reason : Reason} {after : State S} → ◌≡◌ {A = Next S} (stop reason) (next after) → ⊥
stop_not_next e = let z : ◌≡◌ {A = ℕ} 0 1 = cc in omega arith

pub next_same : {S : Type 0} {s t : State S} → ◌≡◌ {A = Next S} (next s) (next t) → s ≡ t
next_same e = cc

pub stop_same : {S : Type 0} {x y : Reason} → ◌≡◌ {A = Next S} (stop x) (stop y) → x ≡ y
stop_same e = cc

module _ {S : Type 0} (rule : Rule S) (given : Given) (state : State S) where
  pub step_past : length rule.code ≤ state.at → step rule given state ≡ stop Reason.PastEnd
  unfolding step
  step_past past =
      let e : ltb state.at (length rule.code) ≡ false = le-ltb state.at (length rule.code) past in
      rw (e, step)

  pub step_limit : state.at < length rule.code → given.limit ≤ state.steps → step rule given state ≡ stop Reason.LimitUsed
  unfolding step
  step_limit inside used =
      let e : ltb state.at (length rule.code) ≡ true = lt-ltb state.at (length rule.code) inside in
      let f : ltb state.steps given.limit ≡ false = le-ltb state.steps given.limit used in
      rw (e, f, step)

  pub step_goes : state.at < length rule.code → state.steps < given.limit
      → step rule given state ≡ perform rule given state (view (get_or rule.code state.at Instr.End))
  unfolding step
  step_goes inside left =
      let e : ltb state.at (length rule.code) ≡ true = lt-ltb state.at (length rule.code) inside in
      let f : ltb state.steps given.limit ≡ true = lt-ltb state.steps given.limit left in
      rw (e, f, step)

  -- a step that goes on stands in the code, within the limit
  pub goes_in_code : (after : State S) → step rule given state ≡ next after → state.at < length rule.code
  goes_in_code after e = go (ltb state.at (length rule.code)) refl
    where
      go : (b : Bool) → ltb state.at (length rule.code) ≡ b → state.at < length rule.code
      go true c = ltb-true _ _ c
      go false c = absurd (stop_not_next (sym (step_past (ltb-false _ _ c)) ∙ e))

  pub goes_in_limit : (after : State S) → step rule given state ≡ next after → state.steps < given.limit
  goes_in_limit after e = go (ltb state.steps given.limit) refl
    where
      go : (b : Bool) → ltb state.steps given.limit ≡ b → state.steps < given.limit
      go true c = ltb-true _ _ c
      go false c = absurd (stop_not_next (sym (step_limit (goes_in_code after e) (ltb-false _ _ c)) ∙ e))

  -- a store that goes on has written its bytes, and nothing else
  pub store_writes : (aim : Aim) (b s : ℕ) (after : State S) → view (get_or rule.code state.at Instr.End) ≡ store aim b s
      → step rule given state ≡ next after
      → after.memory ≡ put state.memory (address_of rule.start state.temps aim) (bytes_of (width_of aim) (temp state.temps b))
  store_writes aim b s after is e = go (lets rule given state (store aim b s)) refl (inside (address_of rule.start state.temps aim) (width_of aim)) refl
    where
      done : perform rule given state (store aim b s) ≡ next after
      done = sym (step_goes (goes_in_code after e) (goes_in_limit after e) ∙ ap (perform rule given state) is) ∙ e

      go : (l : Bool) → lets rule given state (store aim b s) ≡ l → (i : Bool) → inside (address_of rule.start state.temps aim) (width_of aim) ≡ i
          → after.memory ≡ put state.memory (address_of rule.start state.temps aim) (bytes_of (width_of aim) (temp state.temps b))
      go true l true i =
          let written : perform rule given state (store aim b s) ≡ conclude rule given state (store aim b s) (completes state.temps
          (put state.memory (address_of rule.start state.temps aim) (bytes_of (width_of aim) (temp state.temps b))) state.outs state.taken state.own) =
          rw (l, perform) (rw (i, storing)) in
          ap (λ x. x.memory) (next_same (sym done ∙ written))
      go true l false i =
          let out : perform rule given state (store aim b s) ≡ stop Reason.StoreOutside = rw (l, perform) (rw (i, storing)) in
          absurd (stop_not_next (sym out ∙ done))
      go false l i j =
          let forbidden : perform rule given state (store aim b s) ≡ stop Reason.Forbidden = rw (l, perform) in
          absurd (stop_not_next (sym forbidden ∙ done))
