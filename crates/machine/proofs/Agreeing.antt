-- Two rules that agree where a program asks them: the rule over what is held, and the table's rule.
--
-- They differ only in the starts, and in those only where there is no object. An accepted file names no such
-- object (from the reader's law that what is read is good), so every turn is the same turn and every run the
-- same run.
use Rattle.std.proofs.Common.{◌≡◌, ℕ, zero, suc, ◌<◌, Bool, true, false, ltb, length, get_or, sym, refl, ap, ◌∙◌, arith, ltb-false, ltb-true}
use lib.ListN.{length-map}
use Rattle.opcodes.specs.declared.Instr.{Instr}
use Rattle.opcodes.specs.Ranges.{kinds_of, is_kind}
use Rattle.opcodes.specs.View.{in_global, at_temp, Act, View, act, jump, jump_if, store, check, view}
use Rattle.opcodes.proofs.Bounds.{kind_below}
use Rattle.files.specs.Program.{Program}
use Rattle.files.specs.Writing.{every, good_instr, scope_of}
use Rattle.files.proofs.Tests.{every_at}
use Rattle.files.proofs.GoodInstructions.{RangedAct, Ranged, ranged}
use Rattle.machine.specs.State.{Rule, Given, State}
use Rattle.machine.specs.Step.{Next, stop, next, conclude, perform, step, becomes}
use Rattle.machine.specs.Runs.{Outcome, stopped, run_from}
use Rattle.machine.proofs.Steps.{step_past, step_limit, step_goes}

module _ {S : Type 0} (p : Program) (rule : Rule S) (start' : ℕ → ℕ) (given : Given)
    (same : (g : ℕ) → g < length p.objects → rule.start g ≡ start' g)
    (good : every (good_instr (scope_of 2 p)) rule.code ≡ true) where
  -- the same rule with other starts
  abbrev by_starts : (ℕ → ℕ) → Rule S
  by_starts start = record { code = rule.code; start = start; allows = rule.allows; making = rule.making; freeing = rule.freeing }

  abbrev rule' : Rule S
  rule' = by_starts start'

  global : (g : ℕ) → is_kind (kinds_of p.objects) 0 g ≡ true → rule.start g ≡ start' g
  global g e = same g (omega (arith, kind_below (kinds_of p.objects) 0 g e, length-map p.objects (λ o. o.kind)))

  acts_same : (state : State S) (x : Act) → RangedAct (scope_of 2 p) x → perform rule given state (act x) ≡ perform rule' given state (act x)
  acts_same state Act.end r = refl
  acts_same state (Act.set d n) r = refl
  acts_same state (Act.place d g) r = ap (λ x. conclude rule given state (act (Act.place d g)) (becomes rule given state d x)) (global g r)
  acts_same state (Act.add d x y) r = refl
  acts_same state (Act.sub d x y) r = refl
  acts_same state (Act.less d x y) r = refl
  acts_same state (Act.load d x w) r = refl
  acts_same state (Act.alloc d g x) r = refl
  acts_same state (Act.free x) r = refl
  acts_same state (Act.input d) r = refl
  acts_same state (Act.output x) r = refl

  same_perform : (state : State S) (v : View) → Ranged (scope_of 2 p) v → perform rule given state v ≡ perform rule' given state v
  same_perform state (act x) r = acts_same state x r
  same_perform state (jump t) r = refl
  same_perform state (jump_if x t) r = refl
  same_perform state (store (in_global g k w) b s) r = ap (λ x. perform (by_starts (λ _. x)) given state (store (in_global g k w) b s)) (global g r.0)
  same_perform state (store (at_temp x w) b s) r = refl
  same_perform state (check (in_global g k w) c) r = ap (λ x. perform (by_starts (λ _. x)) given state (check (in_global g k w) c)) (global g r.0)
  same_perform state (check (at_temp x w) c) r = refl

  same_step : (state : State S) → step rule given state ≡ step rule' given state
  same_step state = in_code (ltb state.at (length rule.code)) refl
    where
      in_limit : state.at < length rule.code → (b : Bool) → ltb state.steps given.limit ≡ b → step rule given state ≡ step rule' given state
      in_limit h true e =
          let i : Instr = get_or rule.code state.at Instr.End in
          step_goes rule given state h (ltb-true _ _ e)
          ∙ same_perform state (view i) (ranged (scope_of 2 p) i (every_at (good_instr (scope_of 2 p)) rule.code Instr.End state.at good h))
          ∙ sym (step_goes rule' given state h (ltb-true _ _ e))
      in_limit h false e = step_limit rule given state h (ltb-false _ _ e) ∙ sym (step_limit rule' given state h (ltb-false _ _ e))

      in_code : (b : Bool) → ltb state.at (length rule.code) ≡ b → step rule given state ≡ step rule' given state
      in_code true e = in_limit (ltb-true _ _ e) (ltb state.steps given.limit) refl
      in_code false e = step_past rule given state (ltb-false _ _ e) ∙ sym (step_past rule' given state (ltb-false _ _ e))

  pub same_runs : (turns : ℕ) (state : State S) → run_from rule given turns state ≡ run_from rule' given turns state
  unfolding run_from
  same_runs zero state = refl
  same_runs (suc turns) state = ap answers (same_step state) ∙ later (same_runs turns) (step rule' given state)
    where
      answers : Next S → Outcome S
      answers n = elim n [ stop reason ↦ stopped rule given state reason | next after ↦ run_from rule given turns after ]

      later : ((after : State S) → run_from rule given turns after ≡ run_from rule' given turns after) → (n : Next S)
          → ◌≡◌ {A = Outcome S} (elim n [ stop reason ↦ stopped rule given state reason | next after ↦ run_from rule given turns after ])
          (elim n [ stop reason ↦ stopped rule' given state reason | next after ↦ run_from rule' given turns after ])
      later same (stop reason) = refl
      later same (next after) = same after
