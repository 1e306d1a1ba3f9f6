-- The turns that change more than one of what is lent, or the room: from what the code answers and leaves to what the
-- definition says of a whole turn.
--
-- The code holds the numbers out as the first of the room. `lands` is the picture: a turn that goes on with the same
-- count of numbers out, over the same room, leads to the next state of the definition, since the first of the room
-- and the rest of it are the room again. For ALLOC and FREE the heap's answer decides, case by case. OUT alone changes
-- the room.
use Rattle.std.proofs.Common.{◌≡◌, ℕ, ◌+◌, ◌<◌, Bool, true, false, Result, Ok, Err, eqb, ltb, List, [], ◌∷◌, ◌++◌, length, take, drop, set, sym, refl, ap, ◌∙◌, add-one, arith, length-append, take-append-drop, length-take-le, take-suc-set, drop-set-lt, ltb-false, ltb-true}
use Rattle.std.specs.Bool.{⊤}
use lib.Seq.{set_out}
use Rattle.opcodes.specs.declared.Instr.{Instr}
use Rattle.opcodes.specs.declared.Object.{Object}
use Rattle.opcodes.specs.View.{Act, act}
use Rattle.heap.specs.Heap.{Alloc, Free, alloc, free}
use Rattle.heap.specs.declared.HeapError.{HeapError}
use Rattle.heap.specs.Lent.{After, after_alloc, allocated, after_free, released}
use Rattle.heap.proofs.Exact.{allocated_exact, released_exact}
use Rattle.stops.specs.declared.Reason.{Reason}
use Rattle.machine.specs.declared.progress.Progress.{Progress}
use Rattle.machine.specs.State.{Rule, Given, State, temp}
use Rattle.machine.specs.Step.{Effect, stops, completes, next, conclude, allocating, freeing}
use Rattle.machine.specs.Colors.{color_of_object}
use Rattle.machine.specs.Turn.{held_rule, Held, held, state_of, turned, landed, turn_of, Ready, onward, output_turn, alloc_turn, alloc_temps, release_turn, free_at}

module _ (starts : List ℕ) (objects : List Object) (input : List ℕ) (h : Held) (p : Progress) (ready : Ready h p) where
  abbrev rule : Rule (List ℕ)
  rule = held_rule [] starts objects

  abbrev given : Given
  given = record { input = input; room = length h.room; limit = 0 }

  abbrev state : State (List ℕ)
  state = state_of h p

  outs_length : length (take p.out h.room) ≡ p.out
  outs_length = length-take-le p.out h.room ready.room

  same_room : take p.out h.room ++ drop (length (take p.out h.room)) h.room ≡ h.room
  same_room = ap (λ n. take p.out h.room ++ drop n h.room) outs_length ∙ take-append-drop p.out h.room

  -- the next instruction's turn, with no number more out
  lands : (temps memory table : List ℕ)
      → turned (Ok (onward p)) (held temps memory table h.room)
      ≡ landed h (next (record { temps = temps; memory = memory; outs = take p.out h.room; taken = p.taken; at = p.at + 1; steps = p.steps + 1; own = table }))
  lands temps memory table =
      (λ i. turned (Ok (record { at = p.at + 1; steps = p.steps + 1; out = sym outs_length i; taken = p.taken })) (held temps memory table (sym same_room i)))

  -- ---- ALLOC and FREE

  alloc_each : (d g a : ℕ) (k : Alloc) → let r = after_alloc h.memory h.table (color_of_object objects g) k in
      turned (alloc_turn p r.answer) (held (alloc_temps h.temps d r.answer) r.memory r.table h.room)
      ≡ landed h (conclude rule given state (act (Act.alloc d g a)) (allocating rule given state d g k))
  alloc_each d g a Alloc.stopped = refl
  alloc_each d g a Alloc.nothing = lands (set h.temps d 0) h.memory h.table
  alloc_each d g a (Alloc.made k) = lands (set h.temps d k.body) k.memory (rule.making h.table g k)

  pub allocs : {i : Instr} {d g a : ℕ} {turn : Result Progress Reason} {temps memory table : List ℕ} → i ≡ Instr.Alloc d g a
      → turn ≡ alloc_turn p (allocated h.memory h.table (temp h.temps a) g (color_of_object objects g)).answer
      → temps ≡ alloc_temps h.temps d (allocated h.memory h.table (temp h.temps a) g (color_of_object objects g)).answer
      → memory ≡ (allocated h.memory h.table (temp h.temps a) g (color_of_object objects g)).memory
      → table ≡ (allocated h.memory h.table (temp h.temps a) g (color_of_object objects g)).table
      → turned turn (held temps memory table h.room) ≡ turn_of starts objects input h p i
  allocs {i} {d} {g} {a} is e f m t =
      let color : ℕ = color_of_object objects g in
      let same : allocated h.memory h.table (temp h.temps a) g color ≡ after_alloc h.memory h.table color (alloc h.memory (temp h.temps a) g) =
      allocated_exact h.memory h.table ready.memory ready.table (temp h.temps a) g color in
      (λ j. turned (e j) (held (f j) (m j) (t j) h.room))
      ∙ (λ j. turned (alloc_turn p (same j).answer) (held (alloc_temps h.temps d (same j).answer) (same j).memory (same j).table h.room))
      ∙ alloc_each d g a (alloc h.memory (temp h.temps a) g)
      ∙ ap (turn_of starts objects input h p) (sym is)

  free_each : (a : ℕ) (k : Free) → let r = after_free h.memory h.table k in
      turned (release_turn p r.answer) (held h.temps r.memory r.table h.room)
      ≡ landed h (conclude rule given state (act (Act.free a)) (freeing rule given state (temp h.temps a) k))
  free_each a Free.stopped = refl
  free_each a Free.bad = refl
  free_each a (Free.freed f) = lands h.temps f.memory (rule.freeing h.table (temp h.temps a) f)

  pub frees : {i : Instr} {a address : ℕ} {turn : Result Progress Reason} {memory table : List ℕ} → i ≡ Instr.Free a
      → address ≡ temp h.temps a
      → turn ≡ release_turn p (free_at h.memory h.table address).answer
      → memory ≡ (free_at h.memory h.table address).memory
      → table ≡ (free_at h.memory h.table address).table
      → turned turn (held h.temps memory table h.room) ≡ turn_of starts objects input h p i
  frees {i} {a} is read e m t =
      (λ j. turned (e j) (held h.temps (m j) (t j) h.room))
      ∙ ap (λ x. turned (release_turn p (free_at h.memory h.table x).answer) (held h.temps (free_at h.memory h.table x).memory (free_at h.memory h.table x).table h.room)) read
      ∙ by_address (eqb (temp h.temps a) 0)
      ∙ ap (turn_of starts objects input h p) (sym is)
    where
      freed : After (Result ⊤ HeapError)
      freed = released h.memory h.table (temp h.temps a)

      by_address : (b : Bool) → let r : After (Result ⊤ HeapError) = elim b [ true ↦ record { answer = Ok tt; memory = h.memory; table = h.table } | false ↦ freed ] in
          turned (release_turn p r.answer) (held h.temps r.memory r.table h.room)
          ≡ landed h (conclude rule given state (act (Act.free a)) (elim b [ true ↦ completes h.temps h.memory (take p.out h.room) p.taken h.table | false ↦ freeing rule given state (temp h.temps a) (free h.memory (temp h.temps a)) ]))
      by_address true = lands h.temps h.memory h.table
      by_address false =
          ap (λ r. turned (release_turn p r.answer) (held h.temps r.memory r.table h.room))
          (released_exact h.memory h.table ready.memory ready.table (temp h.temps a))
          ∙ free_each a (free h.memory (temp h.temps a))

  -- ---- OUT: the room with one number more at its place

  module _ (v : ℕ) (fits : p.out < length h.room) where
    more_length : p.out + 1 ≡ length (take p.out h.room ++ v ∷ [])
    more_length = ap (λ n. n + 1) (sym outs_length) ∙ sym (length-append (take p.out h.room) (v ∷ []))

    more_room : set h.room p.out v ≡ (take p.out h.room ++ v ∷ []) ++ drop (length (take p.out h.room ++ v ∷ [])) h.room
    more_room =
        let one : p.out + 1 ≡ Prim.Native.Nat.suc p.out = add-one p.out in
        sym (take-append-drop (Prim.Native.Nat.suc p.out) (set h.room p.out v))
        ∙ (λ i. take-suc-set h.room p.out v fits i ++ drop-set-lt (Prim.Native.Nat.suc p.out) h.room p.out v (omega arith) i)
        ∙ ap (λ n. (take p.out h.room ++ v ∷ []) ++ drop n h.room) (sym one ∙ more_length)

  pub outputs : {i : Instr} {a : ℕ} {turn : Result Progress Reason} {room : List ℕ} → i ≡ Instr.Out a
      → turn ≡ output_turn h.room p → room ≡ set h.room p.out (temp h.temps a)
      → turned turn (held h.temps h.memory h.table room) ≡ turn_of starts objects input h p i
  outputs {i} {a} is e f =
      (λ j. turned (e j) (held h.temps h.memory h.table (f j)))
      ∙ by_room (ltb p.out (length h.room)) refl
      ∙ ap (λ n. landed h (conclude rule given state (act (Act.output a)) (effect_by (ltb n (length h.room))))) (sym outs_length)
      ∙ ap (turn_of starts objects input h p) (sym is)
    where
      effect_by : Bool → Effect (List ℕ)
      effect_by b = elim b [ true ↦ completes h.temps h.memory (take p.out h.room ++ temp h.temps a ∷ []) p.taken h.table | false ↦ stops Reason.NoRoom ]

      by_room : (b : Bool) → ltb p.out (length h.room) ≡ b
          → turned (elim b [ true ↦ Ok (record { at = p.at + 1; steps = p.steps + 1; out = p.out + 1; taken = p.taken }) | false ↦ Err Reason.NoRoom ])
          (held h.temps h.memory h.table (set h.room p.out (temp h.temps a)))
          ≡ landed h (conclude rule given state (act (Act.output a)) (effect_by b))
      by_room true t =
          let fits : p.out < length h.room = ltb-true _ _ t in
          (λ j. turned (Ok (record { at = p.at + 1; steps = p.steps + 1; out = more_length (temp h.temps a) fits j; taken = p.taken })) (held h.temps h.memory h.table (more_room (temp h.temps a) fits j)))
      by_room false t = ap (λ r. turned (Err Reason.NoRoom) (held h.temps h.memory h.table r)) (set_out h.room p.out (temp h.temps a) (ltb-false _ _ t))
