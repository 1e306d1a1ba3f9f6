-- The run loop: what is left to run from here is the contract's own answer.
--
-- Between two turns the code holds a state (`Going`): the run from that state, with some number of turns
-- that is enough, comes to the answer of the whole run. A turn that goes on uses up one of the turns
-- and leaves enough, since the weight falls; a turn that stops comes to the answer, and the record that
-- the code then makes is the definition's. The room is the numbers out so far and, behind them, what it
-- held at the start; `Going` carries that the part behind is still the first room's. What holds after a
-- turn is computed from what the turn answers (`AfterTurn`), so that the code's own answer is followed
-- by one transport.
use Rattle.std.proofs.Common.{◌≡◌, ℕ, zero, suc, ◌+◌, ◌-◌, ◌*◌, ◌<◌, ◌≤◌, Result, Ok, Err, List, ◌++◌, length, get_or, take, drop, replicate, sym, refl, ap, ◌∙◌, subst, ⊎_elim, arith, length-append, take-append-drop, length-take-le, drop-drop, take_at, drop_at}
use Rattle.opcodes.specs.declared.Instr.{Instr}
use Rattle.opcodes.specs.declared.Object.{Object}
use Rattle.opcodes.specs.View.{View, view}
use Rattle.memory.specs.Memory.{memory_size, table_size}
use Rattle.stops.specs.declared.Reason.{Reason}
use Rattle.machine.specs.declared.progress.Progress.{Progress}
use Rattle.machine.specs.State.{Rule, Given, State}
use Rattle.machine.specs.Step.{Next, stop, next, perform, step}
use Rattle.machine.specs.Runs.{stopped, run_from}
use Rattle.machine.specs.Running.{Lent, Answer, leaves, lent_of, answered}
use Rattle.machine.specs.Turn.{held_rule, Held, held, state_of, Turned, turned, progress_of, landed, turn_of, record_at, run_held}
use Rattle.machine.proofs.Steps.{step_past, step_limit, step_goes}
use Rattle.machine.proofs.Turns.{turn_on, turn_stop, Forth, forth, weight, lighter}

-- a run: what it is given, and what is lent at its start
pub record Course : Type 0 where
  pub code : List Instr
  pub starts : List ℕ
  pub objects : List Object
  pub input : List ℕ
  pub limit : ℕ
  pub lent : Lent

module _ (r : Course) where
  -- what the run answers
  abbrev pub answer : Answer
  answer = run_held r.code r.starts r.objects r.input r.limit r.lent

  abbrev rule : Rule (List ℕ)
  rule = held_rule r.code r.starts r.objects

  abbrev given : Given
  given = record { input = r.input; room = length r.lent.room; limit = r.limit }

  abbrev pub weight_of : Progress → ℕ
  weight_of p = weight (length r.code) r.limit p.steps p.at

  pub record Going (h : Held) (p : Progress) : Type 0 where
    pub turns : ℕ
    pub rest : leaves r.lent.room (run_from rule given turns (state_of h p)) ≡ answer
    pub enough : weight_of p < turns
    pub limited : p.steps ≤ r.limit
    pub memory : length h.memory ≡ memory_size
    pub table : length h.table ≡ table_size
    pub room : length h.room ≡ length r.lent.room
    pub outs : p.out ≤ length h.room
    pub behind : drop p.out h.room ≡ drop p.out r.lent.room

  abbrev lent_by : Held → Lent
  lent_by h = lent_of h.memory h.table h.room

  -- ---- a stop

  -- what a stop leaves is what is held
  stop_leaves : (h : Held) (p : Progress) (reason : Reason) → p.out ≤ length h.room → drop p.out h.room ≡ drop p.out r.lent.room
      → answered (record_at r.code p reason) (lent_by h) ≡ leaves r.lent.room (stopped rule given (state_of h p) reason)
  stop_leaves h p reason fits behind =
      let long : p.out ≡ length (take p.out h.room) = sym (length-take-le p.out h.room fits) in
      let whole : h.room ≡ take p.out h.room ++ drop (length (take p.out h.room)) r.lent.room =
      sym (take-append-drop p.out h.room) ∙ ap (λ l. take p.out h.room ++ l) behind ∙ ap (λ n. take p.out h.room ++ drop n r.lent.room) long in
      (λ i. answered (record_at r.code (record { at = p.at; steps = p.steps; out = long i; taken = p.taken }) reason) (lent_of h.memory h.table (whole i)))

  stops : (h : Held) (p : Progress) (reason : Reason) → Going h p → step rule given (state_of h p) ≡ stop reason
      → answered (record_at r.code p reason) (lent_by h) ≡ answer
  stops h p reason g e = go g.turns refl
    where
      go : (turns : ℕ) → g.turns ≡ turns → answered (record_at r.code p reason) (lent_by h) ≡ answer
      go zero q = absurd (omega (arith, g.enough))
      go (suc turns) q =
          stop_leaves h p reason g.outs g.behind
          ∙ ap (leaves r.lent.room) (sym (turn_stop rule given turns (state_of h p) reason e) ∙ ap (λ n. run_from rule given n (state_of h p)) (sym q))
          ∙ g.rest

  -- ---- a turn

  -- what holds once a turn from p has answered
  abbrev pub AfterTurn : Progress → Turned → Type 0
  AfterTurn p x =
      elim x.turn [
        | Err reason ↦ answered (record_at r.code p reason) (lent_by x.after) ≡ answer
        | Ok q ↦
            (length x.after.memory ≡ memory_size → length x.after.table ≡ table_size → length x.after.room ≡ length r.lent.room → Going x.after q)
            × (weight_of q < weight_of p)
      ]

  -- the state that is held after a turn is the definition's next state
  same_state : (s : State (List ℕ)) (room : List ℕ)
      → state_of (held s.temps s.memory s.own (s.outs ++ drop (length s.outs) room)) (progress_of s) ≡ s
  same_state s room =
      let first : take (length s.outs) (s.outs ++ drop (length s.outs) room) ≡ s.outs = take_at s.outs (drop (length s.outs) room) (length s.outs) refl in
      (λ i. record { temps = s.temps; memory = s.memory; outs = first i; taken = s.taken; at = s.at; steps = s.steps; own = s.own })

  still_behind : (m n : ℕ) (k l : List ℕ) → m ≤ n → drop m k ≡ drop m l → drop n k ≡ drop n l
  still_behind m n k l h e =
      let sum : m + (n - m) ≡ n = omega arith in
      ap (λ x. drop x k) (sym sum) ∙ sym (drop-drop (n - m) m k) ∙ ap (drop (n - m)) e ∙ drop-drop (n - m) m l ∙ ap (λ x. drop x l) sum

  module _ (h : Held) (p : Progress) (g : Going h p) (in_code : p.at < length r.code) (in_limit : p.steps < r.limit) where
    goes_on : (s : State (List ℕ)) → step rule given (state_of h p) ≡ next s → Forth rule given (state_of h p) (next s) → AfterTurn p (landed h (next s))
    goes_on s e f = (λ m t l. go m t l g.turns refl, falls)
      where
        falls : weight_of (progress_of s) < weight_of p
        falls = lighter (length r.code) r.limit p.steps p.at s.steps s.at in_code in_limit f.0

        within : s.steps ≤ r.limit
        within = ⊎_elim (λ one. omega arith) (λ same. omega arith) f.0

        grown : p.out ≤ length s.outs
        grown = rw (sym (length-take-le p.out h.room g.outs)) f.1

        room : List ℕ
        room = s.outs ++ drop (length s.outs) h.room

        go : length s.memory ≡ memory_size → length s.own ≡ table_size → length (s.outs ++ drop (length s.outs) h.room) ≡ length r.lent.room → (turns : ℕ) → g.turns ≡ turns
            → Going (held s.temps s.memory s.own (s.outs ++ drop (length s.outs) h.room)) (progress_of s)
        go m t l zero q = absurd (omega (arith, g.enough))
        go m t l (suc turns) q =
            record {
              turns = turns;
              rest =
                  ap (λ x. leaves r.lent.room (run_from rule given turns x)) (same_state s h.room)
                  ∙ ap (leaves r.lent.room) (sym (turn_on rule given turns (state_of h p) s e) ∙ ap (λ n. run_from rule given n (state_of h p)) (sym q))
                  ∙ g.rest;
              enough = omega (arith, g.enough, falls);
              limited = within;
              memory = m;
              table = t;
              room = l;
              outs = rw (length-append s.outs (drop (length s.outs) h.room)) (omega arith);
              behind =
                  drop_at s.outs (drop (length s.outs) h.room) (length s.outs) refl
                  ∙ still_behind p.out (length s.outs) h.room r.lent.room grown g.behind;
            }

    turns_well : (n : Next (List ℕ)) → step rule given (state_of h p) ≡ n → Forth rule given (state_of h p) n → AfterTurn p (landed h n)
    turns_well (stop reason) e f = stops h p reason g e
    turns_well (next s) e f = goes_on s e f

  -- ---- the start

  pub starts_off : length r.lent.memory ≡ memory_size → length r.lent.table ≡ table_size
      → Going (held (replicate 16 0) r.lent.memory r.lent.table r.lent.room) (record { at = 0; steps = 0; out = 0; taken = 0 })
  starts_off m t =
      let all : r.limit - 0 ≡ r.limit = omega arith in
      record {
        turns = (r.limit + 1) * (length r.code + 1);
        rest = refl;
        enough = rw (all) (omega arith);
        limited = omega arith;
        memory = m;
        table = t;
        room = refl;
        outs = omega arith;
        behind = refl;
      }

-- ---- where the loop stands

module _ {r : Course} {h : Held} {p : Progress} (g : Going r h p) where
  pub stops_past : length r.code ≤ p.at → answered (record_at r.code p Reason.PastEnd) (lent_by r h) ≡ answer r
  stops_past past = stops r h p Reason.PastEnd g (step_past (rule r) (given r) (state_of h p) past)

  pub stops_limit : p.at < length r.code → r.limit ≤ p.steps → answered (record_at r.code p Reason.LimitUsed) (lent_by r h) ≡ answer r
  stops_limit here used = stops r h p Reason.LimitUsed g (step_limit (rule r) (given r) (state_of h p) here used)

  -- the code's turn is made with the room as it is and without the code and the limit
  same_turn : turn_of r.starts r.objects r.input h p (get_or r.code p.at Instr.End)
      ≡ landed h (perform (rule r) (given r) (state_of h p) (view (get_or r.code p.at Instr.End)))
  same_turn = ap (λ n. landed h (perform (rule r) (record { input = r.input; room = n; limit = r.limit }) (state_of h p) (view (get_or r.code p.at Instr.End)))) g.room

  pub after_turn : {i : Instr} {turn : Result Progress Reason} {after : Held}
      → (p.at < length r.code) × (i ≡ get_or r.code p.at Instr.End) → p.steps < r.limit
      → turned turn after ≡ turn_of r.starts r.objects r.input h p i → AfterTurn r p (turned turn after)
  after_turn here within e =
      let v : View = view (get_or r.code p.at Instr.End) in
      subst (AfterTurn r p) (sym (e ∙ ap (turn_of r.starts r.objects r.input h p) here.1 ∙ same_turn))
      (turns_well r h p g here.0 within (perform (rule r) (given r) (state_of h p) v) (step_goes (rule r) (given r) (state_of h p) here.0 within)
      (forth (rule r) (given r) (state_of h p) v))
