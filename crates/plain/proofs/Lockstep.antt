-- One step of the routine under the plain rule and what the table's machine does for it, from states
-- that are tied:
--
--      s  ------------- one step ------------->  s'           plain rule, at k
--      |                                          |
--     tie                                        tie
--      |                                          |
--   placed s  -- one step, or check and store --> placed s'    table, at the new place of k
--
-- A state of the routine at instruction k is tied to a state at the new place of k with the same
-- temporaries, memory, numbers out, numbers taken and steps. Either both stop, for one reason that is
-- neither 35 nor 38, or both come to tied states. An instruction with no check is one step of each. An
-- unsafe store has its check in front: the check and the plain rule ask the same of every byte, so both
-- stop with 36, or the check passes, every byte is inside memory and of a color from 2 up, and the store
-- behind the check does what the plain store does and touches no header.
use Prim.Native.Nat.{ℕ, zero, suc, ◌+◌, ◌<◌, ◌≤◌}
use native.Mathlib.Nat.{not-suc-le-zero}
use native.Mathlib.Omega.{arith}
use mathlib.Core.Path.{◌≡◌, refl, sym, ◌∙◌, ap, subst}
use mathlib.Core.Logic.{◌⊎◌, inl, inr}
use mathlib.Core.List.{List, []}
use mathlib.Core.Bool.{Bool, true, false, false≢true}
use lib.ListN.{length, get_or}
use lib.Dec.{ltb, eqb}
use borrow.Author.Tests.{ltb-true, ltb-false, leb-true, eqb-true}
use Rattle.opcodes.specs.declared.Instr.{Instr}
use Rattle.files.specs.Program.{Program}
use Rattle.opcodes.specs.View.{Aim, in_global, at_temp, Act, View, act, jump, jump_if, store, check, view, extent}
use Rattle.safety.specs.Unsafe.{safe_aim, set_of, Unsafe, unsafe_in, size_of}
use Rattle.safety.proofs.Stores.{unsafe_store, safe_none, unsafe_one}
use Rattle.layout.specs.Layout.{start_of, fits}
use Rattle.instructions.proofs.Moving.{moved_view, view_moved}
use Rattle.instrumenter.proofs.Guarded.{view_check}
use Rattle.memory.specs.Memory.{memory_size, color_at, bytes_of, put, every_byte, inside}
use Rattle.heap.specs.Heap.{heap_start}
use Rattle.memory.proofs.Memory.{length-bytes_of, every_byte_each}
use Rattle.stops.specs.declared.Reason.{Reason}
use Rattle.machine.specs.State.{Given, State, temp, address_of, width_of, span_of}
use Rattle.machine.specs.Step.{Effect, stops, passes, completes, stop, next, storing, conclude, effect, next_at, lets, perform, step}
use Rattle.memory.specs.Memory.{has_color}
use Rattle.machine.proofs.Steps.{step_past, step_limit, step_goes}
use Rattle.machine.proofs.Effects.{Calm, image, Follows, act_follows}
use Rattle.plain.specs.Live.{Live}
use Rattle.plain.specs.Plain.{keeps_to, in_class}
use Rattle.plain.specs.Guards.{Guards}
use Rattle.plain.proofs.Good.{Fine, Good}
use Rattle.plain.proofs.Aims.{class_unsafe, some_bytes, inside_is}
use Rattle.plain.proofs.Globals.{global_end, globals_whole}
use Rattle.plain.proofs.Holding.{Holds, rule_same, holds_put}
use Rattle.plain.proofs.Rules.{rule₁, rule₂, start_same, alike}
use Rattle.plain.proofs.Standing.{Alone, alone, Checked, checked, place_inside}
use Rattle.routines.specs.Accepted.{plain_pieces}

has_color_lem : (table : List ℕ) (c a : ℕ) → has_color table c a ≡ true → (a < memory_size) × (color_at table a ≡ c)
has_color_lem table c a = go (ltb a memory_size) refl
  where
    go : (b : Bool) → ltb a memory_size ≡ b → elim b [ true ↦ eqb (color_at table a) c | false ↦ false ] ≡ true → (a < memory_size) × (color_at table a ≡ c)
    go true e q = (ltb-true a memory_size e, eqb-true (color_at table a) c q)
    go false e q = absurd (false≢true q)

-- bytes that all lie inside memory end there
all_inside : (a n : ℕ) → 1 ≤ n → ((k : ℕ) → a ≤ k → k < a + n → k < memory_size) → a + n ≤ memory_size
all_inside a (suc n) some each = omega (arith, each (a + n) (omega arith) (omega arith))
all_inside a zero some each = absurd (not-suc-le-zero some)

module _ (p q : Program) (guards : Guards p q) (given : Given) where
  abbrev color : ℕ → ℕ
  color = guards.color

  abbrev place : ℕ → ℕ
  place = guards.place

  abbrev target : ℕ → ℕ
  target = guards.target

  -- the tied state at the new place
  abbrev pub placed : State (List Live) → List ℕ × List Live → State (List ℕ × List Live)
  placed s own = image s (place s.at) own

  -- both stop, for one reason
  pub record Halts (s : State (List Live)) (at₂ : ℕ) (own : List ℕ × List Live) : Type 0 where
    pub reason : Reason
    pub plain : step (rule₁ p) given s ≡ stop reason
    pub guarded : step (rule₂ q) given (image s at₂ own) ≡ stop reason
    pub calm : Calm reason

  -- both go on, to tied states
  pub record Goes (s : State (List Live)) (at₂ : ℕ) (own : List ℕ × List Live) : Type 0 where
    pub after : State (List Live)
    pub own' : List ℕ × List Live
    pub plain : step (rule₁ p) given s ≡ next after
    pub guarded : step (rule₂ q) given (image s at₂ own) ≡ next (placed after own')
    pub holds : Holds p color after.own own' after.memory

  -- every byte that an aim covers is inside memory and of a class's color
  abbrev pub Colored : State (List Live) → (table : List ℕ) → Aim → Type 0
  Colored s table aim =
      (k : ℕ) → address_of (start_of (plain_pieces p)) s.temps aim ≤ k → k < address_of (start_of (plain_pieces p)) s.temps aim + width_of aim
      → (k < memory_size) × (2 ≤ color_at table k)

  pub data Lock (s : State (List Live)) (own : List ℕ × List Live) : Type 0 where
    halts : Halts s (place s.at) own → Lock s own
    goes : Goes s (place s.at) own → Lock s own
    -- a check, then its store, every byte of which is inside memory and of a class's color
    checks : (aim : Aim) (b : ℕ) → view (get_or q.code (place s.at + 1) Instr.End) ≡ store aim b 0
        → Colored s own.0 aim
        → step (rule₂ q) given (placed s own) ≡ next (image s (place s.at + 1) own)
        → Goes s (place s.at + 1) own → Lock s own

  -- ---- effects that follow one another lead to tied states

  module _ (s : State (List Live)) (at₂ : ℕ) (own : List ℕ × List Live) (h : Holds p color s.own own s.memory) where
    abbrev r : State (List ℕ × List Live)
    r = image s at₂ own

    went : (v w : View) → next_at (rule₂ q) given r w ≡ place (next_at (rule₁ p) given s v)
        → (temps memory outs : List ℕ) (taken : ℕ) (live : List Live) (own' : List ℕ × List Live)
        → step (rule₁ p) given s ≡ conclude (rule₁ p) given s v (completes temps memory outs taken live)
        → step (rule₂ q) given r ≡ conclude (rule₂ q) given r w (completes temps memory outs taken own')
        → Holds p color live own' memory → Goes s at₂ own
    went v w to temps memory outs taken live own' one two holds =
        record {
          after = _;
          own' = own';
          plain = one;
          guarded = two ∙ ap (λ n. next (record { temps = temps; memory = memory; outs = outs; taken = taken; at = n; steps = s.steps + 1; own = own' })) to;
          holds = holds;
        }

    concluded : (v w : View) → at₂ + 1 ≡ place (s.at + 1) → next_at (rule₂ q) given r w ≡ place (next_at (rule₁ p) given s v)
        → (e : Effect (List Live)) (e' : Effect (List ℕ × List Live)) → Follows (Holds p color) Calm e e'
        → step (rule₁ p) given s ≡ conclude (rule₁ p) given s v e
        → step (rule₂ q) given r ≡ conclude (rule₂ q) given r w e'
        → Halts s at₂ own ⊎ Goes s at₂ own
    concluded v w behind to (stops x) e' f one two =
        inl (record { reason = x; plain = one; guarded = two ∙ ap (conclude (rule₂ q) given r w) f.0; calm = f.1 })
    concluded v w behind to passes e' f one two =
        inr
        (record {
          after = _;
          own' = own;
          plain = one;
          guarded = two ∙ ap (conclude (rule₂ q) given r w) f ∙ ap (λ n. next (image s n own)) behind;
          holds = h;
        })
    concluded v w behind to (completes temps memory outs taken live') e' f one two =
        inr (went v w to temps memory outs taken live' f.0 one (two ∙ ap (conclude (rule₂ q) given r w) f.1) f.2)

    led : (v w : View) → at₂ + 1 ≡ place (s.at + 1) → next_at (rule₂ q) given r w ≡ place (next_at (rule₁ p) given s v)
        → Follows (Holds p color) Calm (effect (rule₁ p) given s v) (effect (rule₂ q) given r w)
        → step (rule₁ p) given s ≡ conclude (rule₁ p) given s v (effect (rule₁ p) given s v)
        → step (rule₂ q) given r ≡ conclude (rule₂ q) given r w (effect (rule₂ q) given r w)
        → Halts s at₂ own ⊎ Goes s at₂ own
    led v w behind to f one two = concluded v w behind to (effect (rule₁ p) given s v) (effect (rule₂ q) given r w) f one two

  lock_of : {s : State (List Live)} {own : List ℕ × List Live} → Halts s (place s.at) own ⊎ Goes s (place s.at) own → Lock s own
  lock_of (inl x) = Lock.halts x
  lock_of (inr x) = Lock.goes x

  -- ---- an instruction, by what it is

  module _ (good : Good p) (fitting : fits (plain_pieces p) ≡ true)
      (s : State (List Live)) (own : List ℕ × List Live) (h : Holds p color s.own own s.memory)
      (in_code : s.at < length p.code) (in_limit : s.steps < given.limit) where
    abbrev here : Instr
    here = get_or p.code s.at Instr.End

    step₁ : (v : View) → view here ≡ v → step (rule₁ p) given s ≡ perform (rule₁ p) given s v
    step₁ v e = step_goes (rule₁ p) given s in_code in_limit ∙ ap (perform (rule₁ p) given s) e

    step₂ : (at₂ : ℕ) (w : View) → at₂ < length q.code → view (get_or q.code at₂ Instr.End) ≡ w
        → step (rule₂ q) given (image s at₂ own) ≡ perform (rule₂ q) given (image s at₂ own) w
    step₂ at₂ w inside e = step_goes (rule₂ q) given (image s at₂ own) inside in_limit ∙ ap (perform (rule₂ q) given (image s at₂ own)) e

    -- an instruction with no check, whose effects follow one another
    module _ (v : View) (e : view here ≡ v) (none : unsafe_in p v ≡ []) where
      a : Alone p q guards s.at in_code
      a = alone p q guards s.at in_code (ap (unsafe_in p) e ∙ none)

      at_new : view (get_or q.code (place s.at) Instr.End) ≡ moved_view target v
      at_new = ap view a.here ∙ view_moved target here ∙ ap (moved_view target) e

      moved_step : step (rule₂ q) given (placed s own) ≡ perform (rule₂ q) given (placed s own) (moved_view target v)
      moved_step = step₂ (place s.at) (moved_view target v) a.inside₂ at_new

    lock_act : (x : Act) → view here ≡ act x → Fine p (act x) → Lock s own
    lock_act x e f =
        lock_of
        (led s (place s.at) own h (act x) (act x) (sym (a (act x) e refl).follows) (sym (a (act x) e refl).follows)
        (act_follows (Holds p color) Calm (rule₁ p) (rule₂ q) (λ g. g < length p.objects) (alike p q guards good fitting) given s (place s.at) own h x f)
        (step₁ (act x) e) (moved_step (act x) e refl))

    lock_jump : (t : ℕ) → view here ≡ jump t → Lock s own
    lock_jump t e =
        lock_of
        (led s (place s.at) own h (jump t) (jump (target t)) (sym (a (jump t) e refl).follows) (guards.jumps t)
        (own, refl, h) (step₁ (jump t) e) (moved_step (jump t) e refl))

    lock_jump_if : (x t : ℕ) → view here ≡ jump_if x t → Lock s own
    lock_jump_if x t e =
        lock_of
        (led s (place s.at) own h (jump_if x t) (jump_if x (target t)) (sym (a (jump_if x t) e refl).follows)
        (to (eqb (temp s.temps x) 0)) (own, refl, h) (step₁ (jump_if x t) e) (moved_step (jump_if x t) e refl))
      where
        to : (b : Bool) → ◌≡◌ {A = ℕ} (elim b [ true ↦ place s.at + 1 | false ↦ target t ])
            (place (elim b [ true ↦ s.at + 1 | false ↦ t ]))
        to true = sym (a (jump_if x t) e refl).follows
        to false = guards.jumps t

    -- ---- a store

    module _ (aim : Aim) (b s₀ : ℕ) (e : view here ≡ store aim b s₀) where
      abbrev address : ℕ
      address = address_of (start_of (plain_pieces p)) s.temps aim

      abbrev bytes : List ℕ
      bytes = bytes_of (width_of aim) (temp s.temps b)

      -- the store completes under both, and no header is touched
      stores : (at₂ : ℕ) → at₂ < length q.code → view (get_or q.code at₂ Instr.End) ≡ store aim b 0
          → at₂ + 1 ≡ place (s.at + 1) → lets (rule₁ p) given s (store aim b s₀) ≡ true → inside address (width_of aim) ≡ true
          → Holds p color s.own own (put s.memory address bytes) → Goes s at₂ own
      stores at₂ inside₂ is behind allowed fits holds =
          went s at₂ own h (store aim b s₀) (store aim b 0) behind s.temps (put s.memory address bytes) s.outs s.taken s.own own
          (step₁ (store aim b s₀) e ∙ rw (allowed, perform) (rw (fits, storing)))
          (step₂ at₂ (store aim b 0) inside₂ is
          ∙ ap (λ f. conclude (rule₂ q) given (image s at₂ own) (store aim b 0) (storing (rule₂ q) given (image s at₂ own) (span_of f s.temps aim) (temp s.temps b))) (start_same p q guards)
          ∙ rw (fits, storing))
          holds

      -- a safe PUT stays in its global, below the heap
      safe_low : (x : Aim) → Fine p (store x b s₀) → safe_aim p x ≡ true → address_of (start_of (plain_pieces p)) s.temps x + width_of x ≤ heap_start
      safe_low (in_global g k w) f safe =
          omega (arith, leb-true (k + width_of (in_global g k w)) (extent (size_of p.objects g)) safe, global_end p fitting g f.0 f.1)
      safe_low (at_temp t w) f safe = absurd (false≢true safe)

      lock_safe : safe_aim p aim ≡ true → Lock s own
      lock_safe safe =
          let low : address + width_of aim ≤ heap_start = safe_low aim (subst (Fine p) e (good.fines s.at in_code)) safe in
          let none : unsafe_in p (store aim b s₀) ≡ [] = safe_none p aim b s₀ safe in
          let allowed : lets (rule₁ p) given s (store aim b s₀) ≡ true = ap (λ (us : List Unsafe). keeps_to p s.own us (span_of (start_of (plain_pieces p)) s.temps aim)) none in
          Lock.goes
          (stores (place s.at) (a (store aim b s₀) e none).inside₂ (at_new (store aim b s₀) e none) (sym (a (store aim b s₀) e none).follows)
          allowed (inside_is address (width_of aim) (some_bytes aim) (omega arith))
          (holds_put p color (globals_whole p fitting) s.own own s.memory h address bytes
          (λ k x y from one. omega (arith, length-bytes_of (width_of aim) (temp s.temps b)))))

      module _ (unsafe : safe_aim p aim ≡ false) where
        abbrev set : List ℕ
        set = set_of p aim s₀

        abbrev its : ℕ
        its = color (get_or set 0 0)

        guard : Checked p q guards s.at in_code (unsafe_store p aim s₀)
        guard = checked p q guards s.at in_code (unsafe_store p aim s₀) (ap (unsafe_in p) e ∙ unsafe_one p aim b s₀ unsafe)

        lets₁ : lets (rule₁ p) given s (store aim b s₀) ≡ every_byte (width_of aim) (in_class p s.own set) address
        lets₁ = ap (λ (us : List Unsafe). keeps_to p s.own us (span_of (start_of (plain_pieces p)) s.temps aim)) (unsafe_one p aim b s₀ unsafe)

        -- the check asks what the plain rule asks
        lets₂ : lets (rule₂ q) given (placed s own) (check aim its) ≡ every_byte (width_of aim) (in_class p s.own set) address
        lets₂ =
            ap (λ f. every_byte (width_of aim) (has_color own.0 its) (address_of f s.temps aim)) (start_same p q guards)
            ∙ sym (rule_same p color (globals_whole p fitting) s.own own s.memory h guards.exact set (class_unsafe p good s.at in_code aim b s₀ e unsafe) (width_of aim) address)

        check_step : step (rule₂ q) given (placed s own) ≡ perform (rule₂ q) given (placed s own) (check aim its)
        check_step = step₂ (place s.at) (check aim its) (place_inside p q guards s.at in_code) (ap view guard.here ∙ view_check aim its)

        -- a byte that the check has passed is inside memory and of the class's color
        passed : every_byte (width_of aim) (in_class p s.own set) address ≡ true
            → (k : ℕ) → address ≤ k → k < address + width_of aim → (k < memory_size) × (color_at own.0 k ≡ its)
        passed all k x y =
            has_color_lem own.0 its k
            (every_byte_each (width_of aim) (has_color own.0 its) address
            (sym (rule_same p color (globals_whole p fitting) s.own own s.memory h guards.exact set (class_unsafe p good s.at in_code aim b s₀ e unsafe) (width_of aim) address) ∙ all) k x y)

        lock_unsafe : (t : Bool) → every_byte (width_of aim) (in_class p s.own set) address ≡ t → Lock s own
        lock_unsafe false none =
            let no₁ : lets (rule₁ p) given s (store aim b s₀) ≡ false = lets₁ ∙ none in
            let no₂ : lets (rule₂ q) given (placed s own) (check aim its) ≡ false = lets₂ ∙ none in
            Lock.halts (record { reason = Reason.Forbidden; plain = step₁ (store aim b s₀) e ∙ rw (no₁, perform); guarded = check_step ∙ rw (no₂, perform); calm = tt })
        lock_unsafe true all =
            let so₂ : lets (rule₂ q) given (placed s own) (check aim its) ≡ true = lets₂ ∙ all in
            let low : 2 ≤ its = guards.exact.low (get_or set 0 0) (class_unsafe p good s.at in_code aim b s₀ e unsafe) in
            let behind : view (get_or q.code (place s.at + 1) Instr.End) ≡ store aim b 0 =
            ap view guard.behind ∙ view_moved target here ∙ ap (moved_view target) e in
            Lock.checks aim b behind (λ k x y. ((passed all k x y).0, omega (arith, (passed all k x y).1))) (check_step ∙ rw (so₂, perform))
            (stores (place s.at + 1) guard.inside₂ behind (sym guard.follows)
            (lets₁ ∙ all) (inside_is address (width_of aim) (some_bytes aim) (all_inside address (width_of aim) (some_bytes aim) (λ k x y. (passed all k x y).0)))
            (holds_put p color (globals_whole p fitting) s.own own s.memory h address bytes
            (λ k x y from one. omega (arith, (passed all k x (omega (arith, length-bytes_of (width_of aim) (temp s.temps b)))).1))))

    lock_store : (aim : Aim) (b s₀ : ℕ) → view here ≡ store aim b s₀ → Lock s own
    lock_store aim b s₀ e = go (safe_aim p aim) refl
      where
        go : (t : Bool) → safe_aim p aim ≡ t → Lock s own
        go true safe = lock_safe aim b s₀ e safe
        go false unsafe = lock_unsafe aim b s₀ e unsafe _ refl

    lock_view : (v : View) → view here ≡ v → Fine p v → Lock s own
    lock_view (act x) e f = lock_act x e f
    lock_view (jump t) e f = lock_jump t e
    lock_view (jump_if x t) e f = lock_jump_if x t e
    lock_view (store aim b s₀) e f = lock_store aim b s₀ e
    lock_view (check aim c) e f = absurd f

  -- ---- any tied states

  pub lock : Good p → fits (plain_pieces p) ≡ true
      → (s : State (List Live)) (own : List ℕ × List Live) → Holds p color s.own own s.memory → Lock s own
  lock good fitting s own h = code (ltb s.at (length p.code)) refl
    where
      limit : s.at < length p.code → (t : Bool) → ltb s.steps given.limit ≡ t → Lock s own
      limit in_code true l =
          lock_view good fitting s own h in_code (ltb-true _ _ l) (view (get_or p.code s.at Instr.End)) refl (good.fines s.at in_code)
      limit in_code false l =
          Lock.halts
          (record {
            reason = Reason.LimitUsed;
            plain = step_limit (rule₁ p) given s in_code (ltb-false _ _ l);
            guarded = step_limit (rule₂ q) given (placed s own) (place_inside p q guards s.at in_code) (ltb-false _ _ l);
            calm = tt;
          })

      code : (t : Bool) → ltb s.at (length p.code) ≡ t → Lock s own
      code true c = limit (ltb-true _ _ c) (ltb s.steps given.limit) refl
      code false c =
          Lock.halts
          (record {
            reason = Reason.PastEnd;
            plain = step_past (rule₁ p) given s (ltb-false _ _ c);
            guarded = step_past (rule₂ q) given (placed s own) (omega (arith, guards.last s.at (ltb-false _ _ c)));
            calm = tt;
          })
