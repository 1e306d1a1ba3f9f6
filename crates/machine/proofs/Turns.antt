-- A turn for any rule: how a run goes on with it, and that it goes forward: a completed instruction costs
-- a step, a check goes on by one, and numbers out stay.
use Rattle.std.proofs.Common.{◌≡◌, ℕ, suc, ◌+◌, ◌-◌, ◌*◌, ◌<◌, ◌≤◌, min, Bool, true, false, eqb, ltb, ◌⊎◌, [], ◌∷◌, ◌++◌, length, refl, inl, inr, arith, length-append}
use Rattle.opcodes.specs.View.{View, Act, act, jump, jump_if, store, check, bytes}
use Rattle.memory.specs.Memory.{inside}
use Rattle.heap.specs.Heap.{Alloc, Free, alloc, free}
use Rattle.stops.specs.declared.Reason.{Reason}
use Rattle.machine.specs.State.{Rule, Given, State, temp, address_of, width_of}
use Rattle.machine.specs.Step.{Effect, stops, passes, completes, Next, stop, next, conclude, allocating, freeing, act_effect, effect, lets, perform, step}
use Rattle.machine.specs.Runs.{stopped, run_from}

-- a reason that is no refusal
abbrev pub Halt : Reason → Type 0
Halt Reason.Finished = Unit {0}
Halt Reason.PastEnd = Unit {0}
Halt Reason.LimitUsed = Unit {0}
Halt Reason.NoInput = Unit {0}
Halt Reason.NoRoom = Unit {0}
Halt Reason.ReadOutside = Unit {0}
Halt Reason.StoreOutside = Unit {0}
Halt Reason.Forbidden = Unit {0}
Halt Reason.BadFree = Unit {0}
Halt Reason.Unsound = Unit {0}
Halt (Reason.Refused q) = ⊥

module _ {S : Type 0} (rule : Rule S) (given : Given) where
  -- ---- one turn of a run

  pub turn_on : (turns : ℕ) (state after : State S) → step rule given state ≡ next after
      → run_from rule given (suc turns) state ≡ run_from rule given turns after
  unfolding run_from
  turn_on turns state after e = rw (e, run_from)

  pub turn_stop : (turns : ℕ) (state : State S) (reason : Reason) → step rule given state ≡ stop reason
      → run_from rule given (suc turns) state ≡ stopped rule given state reason
  unfolding run_from
  turn_stop turns state reason e = rw (e, run_from)

  -- ---- a turn goes forward

  module _ (state : State S) where
    -- what stops is no refusal, and no number out is lost
    abbrev Keeps : Effect S → Type 0
    Keeps (stops reason) = Halt reason
    Keeps passes = Unit {0}
    Keeps (completes temps memory outs taken own) = length state.outs ≤ length outs

    abbrev pub Forth : Next S → Type 0
    Forth (stop reason) = Halt reason
    Forth (next after) =
        ((after.steps ≡ state.steps + 1) ⊎ ((after.steps ≡ state.steps) × (after.at ≡ state.at + 1)))
        × (length state.outs ≤ length after.outs)

    either : (b : Bool) (x y : Effect S) → Keeps x → Keeps y → Keeps (elim b [ true ↦ x | false ↦ y ])
    either true x y k l = k
    either false x y k l = l

    same : length state.outs ≤ length state.outs
    same = omega arith

    one_more : (v : ℕ) → length state.outs ≤ length (state.outs ++ v ∷ [])
    one_more v = rw (length-append state.outs (v ∷ [])) (omega arith)

    alloc_keeps : (d g : ℕ) (k : Alloc) → Keeps (allocating rule given state d g k)
    alloc_keeps d g Alloc.stopped = tt
    alloc_keeps d g Alloc.nothing = same
    alloc_keeps d g (Alloc.made k) = same

    free_keeps : (address : ℕ) (f : Free) → Keeps (freeing rule given state address f)
    free_keeps address Free.stopped = tt
    free_keeps address Free.bad = tt
    free_keeps address (Free.freed f) = same

    act_keeps : (x : Act) → Keeps (act_effect rule given state x)
    act_keeps Act.end = tt
    act_keeps (Act.set d n) = same
    act_keeps (Act.place d g) = same
    act_keeps (Act.add d a b) = same
    act_keeps (Act.sub d a b) = same
    act_keeps (Act.less d a b) = same
    act_keeps (Act.load d a w) = either (inside (temp state.temps a) (bytes w)) _ _ same tt
    act_keeps (Act.alloc d g a) = alloc_keeps d g (alloc state.memory (temp state.temps a) g)
    act_keeps (Act.free a) = either (eqb (temp state.temps a) 0) _ _ same (free_keeps (temp state.temps a) (free state.memory (temp state.temps a)))
    act_keeps (Act.input d) = either (ltb state.taken (length given.input)) _ _ same tt
    act_keeps (Act.output a) = either (ltb (length state.outs) given.room) _ _ (one_more (temp state.temps a)) tt

    keeps : (v : View) → Keeps (effect rule given state v)
    keeps (act x) = act_keeps x
    keeps (jump p) = same
    keeps (jump_if a p) = same
    keeps (store aim b s) = either (inside (address_of rule.start state.temps aim) (width_of aim)) _ _ same tt
    keeps (check aim c) = tt

    concluded : (v : View) (e : Effect S) → Keeps e → Forth (conclude rule given state v e)
    concluded v (stops reason) k = k
    concluded v passes k = (inr (refl, refl), same)
    concluded v (completes temps memory outs taken own) k = (inl refl, k)

    performed : (v : View) (b : Bool) → Forth (elim b [ true ↦ conclude rule given state v (effect rule given state v) | false ↦ stop Reason.Forbidden ])
    performed v true = concluded v (effect rule given state v) (keeps v)
    performed v false = tt

    pub forth : (v : View) → Forth (perform rule given state v)
    forth v = performed v (lets rule given state v)

-- ---- the turns that can still come

-- (limit - steps) * (instructions + 1) and what is left of the code, a place past the end counted as
-- the end; it falls with each turn
abbrev pub weight : (code limit steps at : ℕ) → ℕ
weight code limit steps at = (limit - steps) * (code + 1) + (code - min at code)

pub lighter : (code limit steps at steps' at' : ℕ) → at < code → steps < limit
    → (steps' ≡ steps + 1) ⊎ ((steps' ≡ steps) × (at' ≡ at + 1)) → weight code limit steps' at' < weight code limit steps at
lighter code limit steps at steps' at' in_code in_limit (inl one) = go (limit - steps') refl
  where
    go : (left : ℕ) → limit - steps' ≡ left → weight code limit steps' at' < weight code limit steps at
    go left e =
        let more : limit - steps ≡ suc left = omega arith in
        rw (e, more) (omega arith)
lighter code limit steps at steps' at' in_code in_limit (inr same) =
    let still : limit - steps' ≡ limit - steps = omega arith in
    rw (still) (omega arith)
