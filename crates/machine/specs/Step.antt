-- 01, "Running" and the table of opcodes: one step. The rule is asked first, the effect comes after.
use Rattle.std.specs.Prelude.{ℕ, ◌+◌, ◌-◌, ◌%◌, ◌^◌, Bool, true, false, List, [], ◌∷◌, ◌++◌, length, ◌==◌, nat_lt, slice_index, slice_index_or, slice_set}
use Rattle.opcodes.specs.declared.Instr.{Instr}
use Rattle.opcodes.specs.View.{Aim, bytes, Act, View, act, jump, jump_if, store, check, view}
use Rattle.memory.specs.Memory.{bytes_of, number_at, put, inside}
use Rattle.heap.specs.Heap.{Alloc, Free, alloc, free}
use Rattle.stops.specs.declared.Reason.{Reason}
use Rattle.machine.specs.State.{Span, Rule, Given, State, temp, span_of}

-- what an instruction does that the rule lets go on: it stops the run, it passes as a check does, or
-- it completes with these temporaries, memory, numbers out, numbers taken and rule's state
pub data Effect (S : Type 0) : Type 0 where
  stops : Reason → Effect S
  passes : Effect S
  completes : (temps memory outs : List ℕ) (taken : ℕ) (own : S) → Effect S

-- where a step leads: the run stops, or goes on from a state
pub data Next (S : Type 0) : Type 0 where
  stop : Reason → Next S
  next : State S → Next S

module _ {S : Type 0} (rule : Rule S) (given : Given) (state : State S) where
  -- nothing changes but where the run goes on
  abbrev pub unchanged : Effect S
  unchanged = completes state.temps state.memory state.outs state.taken state.own

  -- "d becomes .."
  abbrev pub becomes : (d value : ℕ) → Effect S
  becomes d value = completes (slice_set state.temps d value) state.memory state.outs state.taken state.own

  abbrev value : (a : ℕ) → ℕ
  value a = temp state.temps a

  -- "LOAD8, LOAD32 d a: read at address a, low byte first"; "34 read outside memory"
  abbrev pub loading : (d address n : ℕ) → Effect S
  loading d address n =
      elim (inside address n)
      [ true ↦ becomes d (number_at n state.memory address) | false ↦ stops Reason.ReadOutside ]

  -- "write the low 1 or 4 bytes"; "35 store outside memory"
  abbrev pub storing : Span → (value : ℕ) → Effect S
  storing span v =
      elim (inside span.address span.count) [
        | true ↦
            completes state.temps (put state.memory span.address (bytes_of span.count v)) state.outs state.taken state.own
        | false ↦ stops Reason.StoreOutside
      ]

  -- "a bytes for heap site g"
  abbrev pub allocating : (d g : ℕ) → Alloc → Effect S
  allocating d g Alloc.stopped = stops Reason.Unsound
  allocating d g Alloc.nothing = becomes d 0
  allocating d g (Alloc.made k) =
      completes (slice_set state.temps d k.body) k.memory state.outs state.taken (rule.making state.own g k)

  -- "give back"
  abbrev pub freeing : (address : ℕ) → Free → Effect S
  freeing address Free.stopped = stops Reason.Unsound
  freeing address Free.bad = stops Reason.BadFree
  freeing address (Free.freed f) =
      completes state.temps f.memory state.outs state.taken (rule.freeing state.own address f)

  abbrev pub act_effect : Act → Effect S
  act_effect Act.end = stops Reason.Finished
  act_effect (Act.set d n) = becomes d n
  act_effect (Act.place d g) = becomes d (rule.start g)
  act_effect (Act.add d a b) = becomes d ((value a + value b) % 2 ^ 32)
  act_effect (Act.sub d a b) = becomes d ((value a + 2 ^ 32 - value b) % 2 ^ 32)
  act_effect (Act.less d a b) = becomes d (elim (nat_lt (value a) (value b)) [ true ↦ 1 | false ↦ 0 ])
  act_effect (Act.load d a w) = loading d (value a) (bytes w)
  act_effect (Act.alloc d g a) = allocating d g (alloc state.memory (value a) g)
  act_effect (Act.free a) =
      elim (value a == 0) [ true ↦ unchanged | false ↦ freeing (value a) (free state.memory (value a)) ]
  act_effect (Act.input d) =
      elim (nat_lt state.taken (length given.input)) [
        | true ↦
            completes (slice_set state.temps d (slice_index given.input state.taken)) state.memory state.outs (state.taken + 1) state.own
        | false ↦ stops Reason.NoInput
      ]
  act_effect (Act.output a) =
      elim (nat_lt (length state.outs) given.room) [
        | true ↦ completes state.temps state.memory (state.outs ++ value a ∷ []) state.taken state.own
        | false ↦ stops Reason.NoRoom
      ]

  -- the bytes that an aim points at
  abbrev aimed : Aim → Span
  aimed aim = span_of rule.start state.temps aim

  abbrev pub effect : View → Effect S
  effect (act x) = act_effect x
  effect (jump p) = unchanged
  effect (jump_if a p) = unchanged
  effect (store aim b s) = storing (aimed aim) (value b)
  effect (check aim c) = passes

  -- what the rule says to an instruction; only stores and checks ask it
  abbrev pub lets : View → Bool
  lets (act x) = true
  lets (jump p) = true
  lets (jump_if a p) = true
  lets (store aim b s) = rule.allows state.own (store aim b s) (aimed aim)
  lets (check aim c) = rule.allows state.own (check aim c) (aimed aim)

  -- "to instruction p; only if a is not 0"
  abbrev pub next_at : View → ℕ
  next_at (act x) = state.at + 1
  next_at (jump p) = p
  next_at (jump_if a p) = elim (value a == 0) [ true ↦ state.at + 1 | false ↦ p ]
  next_at (store aim b s) = state.at + 1
  next_at (check aim c) = state.at + 1

  -- "Steps are completed instructions"; "Checks cost no step"
  abbrev pub conclude : View → Effect S → Next S
  conclude v (stops reason) = stop reason
  conclude v passes = next (record { temps = state.temps; memory = state.memory; outs = state.outs; taken = state.taken; at = state.at + 1; steps = state.steps; own = state.own })
  conclude v (completes temps memory outs taken own) = next (record { temps = temps; memory = memory; outs = outs; taken = taken; at = next_at v; steps = state.steps + 1; own = own })

  -- "A check stops with 36 if ..", and so does a store that the plain rule does not complete
  abbrev pub perform : View → Next S
  perform v = elim (lets v) [ true ↦ conclude v (effect v) | false ↦ stop Reason.Forbidden ]

  -- "Before each instruction: past the last one, stop 30; then limit used up, stop 31"
  unfoldable pub step : Next S
  step =
      elim (nat_lt state.at (length rule.code)) [
        | false ↦ stop Reason.PastEnd
        | true ↦
            elim (nat_lt state.steps given.limit)
            [ false ↦ stop Reason.LimitUsed | true ↦ perform (view (slice_index_or rule.code state.at Instr.End)) ]
      ]
