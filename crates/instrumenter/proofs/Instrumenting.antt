-- Version 2 of a routine under colors that a file can say is a program that a file of version 2 says.
use Prim.Native.Nat.{ℕ, ◌≤◌}
use native.Mathlib.Omega.{arith}
use mathlib.Core.Path.{◌≡◌, sym}
use mathlib.Core.List.{List}
use mathlib.Core.Bool.{true}
use lib.ListN.{length}
use lib.Dec.{leb}
use borrow.Author.Tests.{le-leb, lt-ltb, ltb-true}
use Rattle.opcodes.specs.Ranges.{within}
use Rattle.files.specs.Program.{Program}
use Rattle.opcodes.specs.Ranges.{kinds_of}
use Rattle.files.specs.Writing.{every, good_object, good_instr, scope_of, good_program, spell_file}
use Rattle.safety.specs.Unsafe.{unsafe_sets}
use Rattle.coloring.specs.Colored.{tinted, color_in, few_classes}
use Rattle.coloring.proofs.Tinted.{tinted_length}
use Rattle.instrumenter.specs.Instrumented.{checks_of, guarded, new_place, instrumented}
use Rattle.files.proofs.Tests.{both_true}
use Rattle.files.proofs.RoundTrip.{Good, good_of, lines_bounds}
use Rattle.opcodes.proofs.Bounds.{within_true}
use Rattle.instrumenter.proofs.FileColors.{FileColors, file_colors}
use Rattle.instrumenter.proofs.Spans.{length-guarded, span_most, span_least, place_inside}
use Rattle.instrumenter.proofs.Operands.{in_range, is_color_lem, good_tinted, kinds_tinted, new_scope, good_guarded}
use Rattle.instrumenter.proofs.Lengths.{file_longer}

module _ (p : Program) (color : ℕ → ℕ) (good : good_program 1 p ≡ true) (colors : FileColors (unsafe_sets p) color) where
  pub colored_good : good_program 2 (instrumented color p) ≡ true
  unfolding good_program instrumented
  colored_good =
      let r : Good 1 p = good_of 1 p good in
      let lines = lines_bounds p r in
      let code = guarded (checks_of color p) (new_place color p) p.code in
      let objects = tinted color 0 p.objects in
      let kinds : kinds_of objects ≡ kinds_of p.objects = kinds_tinted color 0 p.objects in
      let scope = scope_of 2 (instrumented color p) in
      let a : leb (length objects) 400 ≡ true = le-leb (length objects) 400 (rw tinted_length r.objects_most) in
      let b : every (good_object 2) objects ≡ true = good_tinted color (is_color_lem p color colors) 0 p.objects r.objects in
      let upto : length code ≤ 2000 = omega (arith, length-guarded (checks_of color p) (new_place color p) p.code, span_most color p p.code, lines.1) in
      let from : 1 ≤ length code = omega (arith, length-guarded (checks_of color p) (new_place color p) p.code, span_least color p p.code, lines.0) in
      let d : within 1 2000 (length code) ≡ true = within_true 1 2000 (length code) from upto in
      let e : every (good_instr (new_scope p (length code))) code ≡ true =
      good_guarded p r (length code) (new_place color p)
      (λ t h. lt-ltb (new_place color p t) (length code) (place_inside color p (new_place color p) t (ltb-true t (length p.code) h)))
      color p.code r.code (in_range p color colors)
      in
      let e' : every (good_instr scope) code ≡ true =
      mathlib.Core.Path.subst (λ (ks : List ℕ). every (good_instr (record { version = 2; kinds = ks; sets = 0; code = length code })) code ≡ true) (sym kinds) e
      in
      let l : length (spell_file 2 (instrumented color p)) ≤ 32768 = omega (arith, file_longer color colors.high p, r.objects_most, lines.1, r.short) in
      let f : leb (length (spell_file 2 (instrumented color p))) 32768 ≡ true = le-leb (length (spell_file 2 (instrumented color p))) 32768 l in
      both_true (leb (length objects) 400) _ a
      (both_true (every (good_object 2) objects) _ b
      (both_true (within 1 2000 (length code)) _ d
      (both_true (every (good_instr scope) code) _ e' f)))

-- for every routine that a file says, with at most 254 classes
pub instrumented_good : (p : Program) → good_program 1 p ≡ true → few_classes p ≡ true → good_program 2 (instrumented (color_in p) p) ≡ true
instrumented_good p good few = colored_good p (color_in p) good (file_colors p good few)
