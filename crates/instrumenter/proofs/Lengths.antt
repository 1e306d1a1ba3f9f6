-- How long the file of version 2 is: an object has at most two bytes more than in version 1, for its
-- color, and an instruction at most thirteen more, for its check or its longer target; and the sets are
-- gone. So 16,384 bytes of version 1 become at most 16,384 + 2 * 400 + 13 * 1,000 + 4.
use Prim.Native.Nat.{ℕ, ◌+◌, ◌*◌, ◌/◌, ◌≤◌}
use native.Mathlib.Omega.{arith}
use native.Mathlib.Decide.{dec_lt}
use mathlib.Core.Path.{◌≡◌, refl}
use mathlib.Core.List.{List, [], ◌∷◌, ◌++◌}
use mathlib.Core.Bool.{Bool, true, false}
use lib.ListN.{length, get_or, length-append}
use Rattle.numbers.specs.Number.{width}
use Rattle.numbers.proofs.Laws.{width_last, width_more, width_least, width_most}
use Rattle.opcodes.specs.declared.Object.{Object}
use Rattle.opcodes.specs.declared.Instr.{Instr}
use Rattle.opcodes.specs.declared.Instr.TheVariants.{End, Place, Add, Sub, Less, Load8, Load32, Put8, Put32, Write8, Write32, Jump, JumpIf, Alloc, Free, In, Out, Check8, Check32, CheckPut8, CheckPut32}
use Rattle.files.specs.Program.{Program}
use Rattle.files.specs.Writing.{spell_all, spell_object, spell_instr, spell_file}
use Rattle.opcodes.specs.View.{Aim, in_global, at_temp, View, act, jump, jump_if, store, check, view, check_instr, one, four}
use Rattle.safety.specs.Unsafe.{safe_aim, set_of}
use Rattle.coloring.specs.Colored.{tinted}
use Rattle.coloring.proofs.Tinted.{tinted_length}
use Rattle.instrumenter.specs.Instrumented.{checks_of, check_of, guarded, new_place, instrumented}
use Rattle.instrumenter.proofs.Spans.{check_safe, check_unsafe}
use Rattle.coloring.specs.Color.{color_of_set}
use Rattle.instructions.specs.Moved.{moved}

-- a color takes at most two bytes
color_width : (c : ℕ) → c ≤ 255 → width c ≤ 2
color_width c h =
    elim (dec_lt c 128) [
      | yes t ↦ omega (arith, width_last c t)
      | no t ↦ let l : 128 ≤ c = omega arith in omega (arith, width_more c l (omega arith), width_last (c / 128) (omega arith))
    ]

length-spell_all : {A : Type 0} (f : A → List ℕ) (xs ys : List A) → length (spell_all f (xs ++ ys)) ≡ length (spell_all f xs) + length (spell_all f ys)
unfolding spell_all
length-spell_all f [] ys = omega arith
length-spell_all f (x ∷ xs) ys = simp length-append (omega (arith, length-spell_all f xs ys))

length-nil : {A : Type 0} (f : A → List ℕ) → length (spell_all f []) ≡ 0
unfolding spell_all
length-nil f = refl

length-cons : {A : Type 0} (f : A → List ℕ) (x : A) (xs : List A) → length (spell_all f (x ∷ xs)) ≡ length (f x) + length (spell_all f xs)
unfolding spell_all
length-cons f x xs = length-append (f x) (spell_all f xs)

module _ (color : ℕ → ℕ) (small : (x : ℕ) → color x ≤ 255) where
  -- ---- objects

  objects_longer : (from : ℕ) (os : List Object) → length (spell_all (spell_object 2) (tinted color from os)) ≤ length (spell_all (spell_object 1) os) + 2 * length os
  unfolding spell_all tinted
  objects_longer from [] = omega arith
  objects_longer from (o ∷ os) =
      simp length-append
      (omega (arith, color_width (color from) (small from), objects_longer (from + 1) os))

  -- ---- instructions

  abbrev extra : View → ℕ
  extra (act x) = 0
  extra (jump t) = 0
  extra (jump_if a t) = 0
  extra (store aim b s) = 13
  extra (check aim c) = 0

  check_length : (aim : Aim) (c : ℕ) → c ≤ 255 → length (spell_instr 2 (check_instr aim c)) ≤ 13
  check_length (in_global g k one) c h =
      simp length-append (omega (arith, width_last 20 (omega arith), width_most g, width_most k, color_width c h))
  check_length (in_global g k four) c h =
      simp length-append (omega (arith, width_last 21 (omega arith), width_most g, width_most k, color_width c h))
  check_length (at_temp a one) c h =
      simp length-append (omega (arith, width_last 18 (omega arith), width_most a, color_width c h))
  check_length (at_temp a four) c h =
      simp length-append (omega (arith, width_last 19 (omega arith), width_most a, color_width c h))

  checks_length : (p : Program) (v : View) → length (spell_all (spell_instr 2) (check_of color p v)) ≤ extra v
  unfolding spell_all
  checks_length p (act x) = omega arith
  checks_length p (jump t) = omega arith
  checks_length p (jump_if a t) = omega arith
  checks_length p (store aim b s) = go (safe_aim p aim) refl
    where
      go : (safe : Bool) → safe_aim p aim ≡ safe → length (spell_all (spell_instr 2) (check_of color p (store aim b s))) ≤ 13
      go true e = rw (check_safe color p aim b s e) (omega arith)
      go false e =
          rw (check_unsafe color p aim b s e, length-append)
          (omega (arith, check_length aim (color_of_set color (set_of p aim s)) (small (get_or (set_of p aim s) 0 0))))
  checks_length p (check aim c) = omega arith

  moved_length : (target : ℕ → ℕ) (i : Instr) → length (spell_instr 2 (moved target i)) + extra (view i) ≤ length (spell_instr 1 i) + 13
  moved_length target End = omega arith
  moved_length target (Instr.Set d n) = omega arith
  moved_length target (Place d g) = omega arith
  moved_length target (Add d a b) = omega arith
  moved_length target (Sub d a b) = omega arith
  moved_length target (Less d a b) = omega arith
  moved_length target (Load8 d a) = omega arith
  moved_length target (Load32 d a) = omega arith
  moved_length target (Put8 g k a) = omega arith
  moved_length target (Put32 g k a) = omega arith
  moved_length target (Write8 a b s) = simp length-append (omega arith)
  moved_length target (Write32 a b s) = simp length-append (omega arith)
  moved_length target (Jump t) = simp length-append (omega (arith, width_most (target t), width_least t))
  moved_length target (JumpIf a t) = simp length-append (omega (arith, width_most (target t), width_least t))
  moved_length target (Alloc d g a) = omega arith
  moved_length target (Free a) = omega arith
  moved_length target (In d) = omega arith
  moved_length target (Out a) = omega arith
  moved_length target (Check8 a c) = omega arith
  moved_length target (Check32 a c) = omega arith
  moved_length target (CheckPut8 g k c) = omega arith
  moved_length target (CheckPut32 g k c) = omega arith

  code_longer : (p : Program) (target : ℕ → ℕ) (code : List Instr)
      → length (spell_all (spell_instr 2) (guarded (checks_of color p) target code)) ≤ length (spell_all (spell_instr 1) code) + 13 * length code
  unfolding guarded
  code_longer p target [] = omega (arith, length-nil (spell_instr 2))
  code_longer p target (i ∷ code) =
      rw (length-spell_all (spell_instr 2) (check_of color p (view i)) (moved target i ∷ guarded (checks_of color p) target code))
      (omega (
        arith,
        length-cons (spell_instr 2) (moved target i) (guarded (checks_of color p) target code),
        length-cons (spell_instr 1) i code,
        checks_length p (view i),
        moved_length target i,
        code_longer p target code,
      ))

  -- ---- the file

  pub file_longer : (p : Program) → length (spell_file 2 (instrumented color p)) ≤ length (spell_file 1 p) + 2 * length p.objects + 13 * length p.code + 4
  unfolding spell_file instrumented
  file_longer p =
      simp (length-append, tinted_length)
      (omega (
        arith,
        objects_longer 0 p.objects,
        code_longer p (new_place color p) p.code,
        width_last 1 (omega arith),
        width_last 2 (omega arith),
        width_most (length (guarded (checks_of color p) (new_place color p) p.code)),
        width_least (length p.code),
      ))
