-- Version 2 of code in two parts is version 2 of each part, and its length is the span: at most twice as
-- many instructions as before, and every new place below their count.
use Prim.Native.Nat.{ℕ, zero, suc, ◌+◌, ◌*◌, ◌<◌, ◌≤◌}
use native.Mathlib.Omega.{arith}
use mathlib.Core.Path.{◌≡◌, refl, sym, ◌∙◌, ap}
use mathlib.Core.List.{List, [], ◌∷◌, ◌++◌, map, append_assoc}
use mathlib.Core.Bool.{Bool, true, false}
use lib.ListN.{length, take, length-append}
use Rattle.opcodes.specs.declared.Instr.{Instr}
use Rattle.files.specs.Program.{Program}
use Rattle.instructions.specs.Moved.{moved}
use Rattle.opcodes.specs.View.{Aim, View, act, jump, jump_if, store, check, view, check_instr}
use Rattle.safety.specs.Unsafe.{safe_aim, set_of, Unsafe}
use Rattle.safety.proofs.Stores.{safe_none, unsafe_one}
use Rattle.instrumenter.specs.Instrumented.{checks_of, check_of, guarded, span_of, new_place}
use Rattle.coloring.specs.Color.{color_of_set}

module _ (checks : Instr → List Instr) where
  pub span_append : (xs ys : List Instr) → span_of checks (xs ++ ys) ≡ span_of checks xs + span_of checks ys
  unfolding span_of
  span_append [] ys = omega arith
  span_append (x ∷ xs) ys = omega (arith, span_append xs ys)

  pub guarded_append : (target : ℕ → ℕ) (xs ys : List Instr) → guarded checks target (xs ++ ys) ≡ guarded checks target xs ++ guarded checks target ys
  unfolding guarded
  guarded_append target [] ys = refl
  guarded_append target (x ∷ xs) ys =
      ap (λ (l : List Instr). checks x ++ moved target x ∷ l) (guarded_append target xs ys)
      ∙ sym (append_assoc (checks x) (moved target x ∷ guarded checks target xs) (guarded checks target ys))

  pub length-guarded : (target : ℕ → ℕ) (code : List Instr) → length (guarded checks target code) ≡ span_of checks code
  unfolding guarded span_of
  length-guarded target [] = refl
  length-guarded target (i ∷ code) = rw (length-append, length-guarded target code) (omega arith)

abbrev check_for : (color : ℕ → ℕ) → Unsafe → Instr
check_for color u = check_instr u.aim (color_of_set color u.set)

module _ (color : ℕ → ℕ) (p : Program) where
  -- a safe store has no check, and an unsafe one has one
  pub check_safe : (aim : Aim) (b s : ℕ) → safe_aim p aim ≡ true → check_of color p (store aim b s) ≡ []
  check_safe aim b s e = ap (map (check_for color)) (safe_none p aim b s e)

  pub check_unsafe : (aim : Aim) (b s : ℕ) → safe_aim p aim ≡ false
      → check_of color p (store aim b s) ≡ check_instr aim (color_of_set color (set_of p aim s)) ∷ []
  check_unsafe aim b s e = ap (map (check_for color)) (unsafe_one p aim b s e)

  pub check_most : (v : View) → length (check_of color p v) ≤ 1
  check_most (act x) = omega arith
  check_most (jump t) = omega arith
  check_most (jump_if a t) = omega arith
  check_most (store aim b s) = go (safe_aim p aim) refl
    where
      go : (safe : Bool) → safe_aim p aim ≡ safe → length (check_of color p (store aim b s)) ≤ 1
      go true e = rw (check_safe aim b s e) (omega arith)
      go false e = rw (check_unsafe aim b s e) (omega arith)
  check_most (check aim c) = omega arith

  pub span_most : (code : List Instr) → span_of (checks_of color p) code ≤ 2 * length code
  unfolding span_of
  span_most [] = omega arith
  span_most (i ∷ code) = omega (arith, check_most (view i), span_most code)

  pub span_least : (code : List Instr) → length code ≤ span_of (checks_of color p) code
  unfolding span_of
  span_least [] = omega arith
  span_least (i ∷ code) = omega (arith, span_least code)

  pub span_take : (code : List Instr) (at : ℕ) → at < length code → span_of (checks_of color p) (take at code) < span_of (checks_of color p) code
  unfolding span_of
  span_take [] at l = absurd (omega arith)
  span_take (i ∷ code) zero l = omega arith
  span_take (i ∷ code) (suc at) l = omega (arith, span_take code at (omega arith))

  -- a jump to an instruction goes to one of version 2
  pub place_inside : (target : ℕ → ℕ) (at : ℕ) → at < length p.code → new_place color p at < length (guarded (checks_of color p) target p.code)
  unfolding new_place
  place_inside target at l = rw (length-guarded (checks_of color p) target p.code) (span_take p.code at l)
