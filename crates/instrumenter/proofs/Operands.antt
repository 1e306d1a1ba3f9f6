-- Every object and every operand of version 2 is in its range: the objects have colors, a jump's target
-- is below the new count, a check's color is 2 to 255, and no set is left.
use Prim.Native.Nat.{ℕ, ◌+◌, ◌≤◌}
use native.Mathlib.Omega.{arith}
use mathlib.Core.Path.{◌≡◌, refl, sym, ap, subst}
use mathlib.Core.List.{List, [], ◌∷◌, ◌++◌, map}
use mathlib.Core.Bool.{Bool, true, false}
use lib.ListN.{length, get_or}
use lib.Dec.{ltb, leb, eqb}
use borrow.Author.Tests.{eq-eqb, ne_eqb, eqb-true}
use Rattle.opcodes.specs.declared.Object.{Object}
use Rattle.opcodes.specs.declared.Group.{Group}
use Rattle.opcodes.specs.declared.Operand.{Operand}
use Rattle.opcodes.specs.declared.Parts.{Parts}
use Rattle.opcodes.specs.declared.Instr.{Instr}
use Rattle.opcodes.specs.Table.{rows, row_of, operands_of, numbers_of, parts_of, named, operands_in, Each}
use Rattle.opcodes.specs.Ranges.{Scope, has_group, has_opcode, within, is_color, is_kind}
use Rattle.files.specs.Program.{Program}
use Rattle.opcodes.specs.Ranges.{kinds_of}
use Rattle.files.specs.Writing.{both, every, good_object, good_operand, good_operands, good_parts, good_instr, scope_of}
use Rattle.opcodes.specs.View.{one, four, in_global, at_temp, View, act, jump, jump_if, store, check, view, check_instr}
use Rattle.safety.specs.Unsafe.{safe_aim, set_of, unsafe_set, sets_in, unsafe_sets}
use Rattle.coloring.specs.Class.{holds, unsafe_object}
use Rattle.coloring.proofs.Members.{some_behind}
use Rattle.coloring.specs.Colored.{tinted}
use Rattle.instrumenter.specs.Instrumented.{checks_of, check_of, guarded}
use Rattle.instrumenter.proofs.FileColors.{FileColors}
use Rattle.files.proofs.Tests.{both_left, both_true, every_head, every_tail, every_cons, every_append}
use Rattle.files.proofs.GoodInstructions.{Ranged, ranged, Names, names}
use Rattle.files.proofs.SpelledInstructions.{GoodParts, good_parts_lem, Good as Operand-good}
use Rattle.files.proofs.RoundTrip.{Good}
use Rattle.opcodes.proofs.Bounds.{within_true, opcode_below}
use Rattle.instructions.proofs.Parting.{Blank, parts_make}
use Rattle.instrumenter.proofs.Inside.{store_unsafe}
use Rattle.instrumenter.proofs.Spans.{check_safe, check_unsafe}
use Rattle.coloring.specs.Color.{color_of_set}
use Rattle.instructions.specs.Moved.{moved_operand, moved}

-- ---- objects

module _ (p : Program) (color : ℕ → ℕ) (colors : FileColors (unsafe_sets p) color) where
  pub in_range : (x : ℕ) → unsafe_object (unsafe_sets p) x ≡ true → within 2 255 (color x) ≡ true
  in_range x h = within_true 2 255 (color x) (colors.low x h) (colors.high x)

  pub is_color_lem : (x : ℕ) → is_color (color x) ≡ true
  is_color_lem x = go (unsafe_object (unsafe_sets p) x) refl
    where
      go : (b : Bool) → unsafe_object (unsafe_sets p) x ≡ b → is_color (color x) ≡ true
      go true e =
          let l : 2 ≤ color x = colors.low x e in
          simp (ne_eqb (color x) 0 (λ (z : color x ≡ 0). omega arith), is_color) (in_range x e)
      go false e = let z : color x ≡ 0 = colors.safe x e in simp (eq-eqb (color x) 0 z, is_color)

module _ (color : ℕ → ℕ) (is : (x : ℕ) → is_color (color x) ≡ true) where
  pub good_tinted : (from : ℕ) (os : List Object) → every (good_object 1) os ≡ true → every (good_object 2) (tinted color from os) ≡ true
  unfolding tinted every
  good_tinted from [] h = refl
  good_tinted from (o ∷ os) h =
      every_cons (good_object 2) (record { kind = o.kind; size = o.size; color = color from }) (tinted color (from + 1) os)
      (both_true
      (elim (eqb o.kind 0) [ true ↦ within 1 4096 o.size | false ↦ both (eqb o.kind 1) (eqb o.size 0) ])
      (is_color (color from))
      (both_left
      (elim (eqb o.kind 0) [ true ↦ within 1 4096 o.size | false ↦ both (eqb o.kind 1) (eqb o.size 0) ])
      (eqb o.color 0)
      (every_head (good_object 1) o os h))
      (is from))
      (good_tinted (from + 1) os (every_tail (good_object 1) o os h))

pub kinds_tinted : (color : ℕ → ℕ) (from : ℕ) (os : List Object) → kinds_of (tinted color from os) ≡ kinds_of os
unfolding tinted
kinds_tinted color from [] = refl
kinds_tinted color from (o ∷ os) = ap (λ (l : List ℕ). o.kind ∷ l) (kinds_tinted color (from + 1) os)

-- ---- instructions, for any new targets that are below the new count

abbrev pub new_scope : Program → (lines : ℕ) → Scope
new_scope p lines = record { version = 2; kinds = kinds_of p.objects; sets = 0; code = lines }

-- what holds of each operand that is moved
each_moved : (target : ℕ → ℕ) {P : Operand → ℕ → Type 0} (Q : Operand → ℕ → Type 0) → ((kind : Operand) (n : ℕ) → P kind n → Q kind (moved_operand target kind n))
    → (kinds : List Operand) (ns : List ℕ) → Each P (named kinds ns) → Each Q (named kinds (map (λ o. moved_operand target o.0 o.1) (named kinds ns)))
each_moved target Q f [] ns e = tt
each_moved target Q f (kind ∷ kinds) [] e = tt
each_moved target Q f (kind ∷ kinds) (n ∷ ns) e = (f kind n e.0, each_moved target Q f kinds ns e.1)

good_each : (scope : Scope) (os : List (Operand × ℕ)) → Each (Operand-good scope) os → good_operands scope os ≡ true
good_each scope [] e = refl
good_each scope (o ∷ os) e = both_true (good_operand scope o.0 o.1) (good_operands scope os) e.0 (good_each scope os e.1)

-- an opcode of version 1 is one of version 2
opcode_kept : (op : ℕ) → has_opcode 1 op ≡ true → has_opcode 2 op ≡ true
opcode_kept op e = go (ltb op (length rows)) (row_of op).group e
  where
    go : (b : Bool) (g : Group) → elim b as (λ _. Bool) [ true ↦ has_group 1 g | false ↦ false ] ≡ true → elim b as (λ _. Bool) [ true ↦ has_group 2 g | false ↦ false ] ≡ true
    go true Group.Plain e = refl
    go true Group.Check e = refl
    go false g e = e

module _ (p : Program) (r : Good 1 p) (lines : ℕ) (target : ℕ → ℕ) (inside : (t : ℕ) → ltb t (length p.code) ≡ true → ltb (target t) lines ≡ true) where
  -- the copy of an instruction: each operand is in its new range
  operand_moved : (kind : Operand) (n : ℕ) → Operand-good (scope_of 1 p) kind n → Operand-good (new_scope p lines) kind (moved_operand target kind n)
  operand_moved Operand.None n g = g
  operand_moved Operand.Temporary n g = g
  operand_moved Operand.Number n g = g
  operand_moved Operand.Global n g = g
  operand_moved Operand.Site n g = g
  operand_moved Operand.Set n g = refl
  operand_moved Operand.Offset n g = g
  operand_moved Operand.Target n g = inside n g
  operand_moved Operand.Color n g = g

  blank_moved : (kind : Operand) (n : ℕ) → Operand-good (scope_of 1 p) kind n → Blank kind (moved_operand target kind n)
  blank_moved Operand.None n g = eqb-true n 0 g
  blank_moved Operand.Temporary n g = tt
  blank_moved Operand.Number n g = tt
  blank_moved Operand.Global n g = tt
  blank_moved Operand.Site n g = tt
  blank_moved Operand.Set n g = tt
  blank_moved Operand.Offset n g = tt
  blank_moved Operand.Target n g = tt
  blank_moved Operand.Color n g = tt

  pub good_moved : (i : Instr) → good_instr (scope_of 1 p) i ≡ true → good_instr (new_scope p lines) (moved target i) ≡ true
  good_moved i h =
      let q : Parts = parts_of i in
      let g : GoodParts (scope_of 1 p) q = good_parts_lem (scope_of 1 p) q h in
      let kinds : List Operand = operands_of (row_of q.op) in
      let ns : List ℕ = map (λ o. moved_operand target o.0 o.1) (operands_in q) in
      let blanks = each_moved target Blank blank_moved kinds (numbers_of q) g.operands in
      let goods = each_moved target (Operand-good (new_scope p lines)) operand_moved kinds (numbers_of q) g.operands in
      subst (λ (w : Parts). good_parts (new_scope p lines) w ≡ true)
      (sym (parts_make q.op (opcode_below 1 q.op g.opcode) ns refl blanks))
      (both_true (has_opcode 2 q.op) (good_operands (new_scope p lines) (named kinds ns)) (opcode_kept q.op g.opcode) (good_each (new_scope p lines) (named kinds ns) goods))

  -- the check of a store whose class has a color
  put_check : (g k c : ℕ) → is_kind (kinds_of p.objects) 0 g ≡ true → leb k 65535 ≡ true → within 2 255 c ≡ true
      → both (is_kind (kinds_of p.objects) 0 g) (both (leb k 65535) (both (within 2 255 c) true)) ≡ true
  put_check g k c global offset w =
      both_true (is_kind (kinds_of p.objects) 0 g) (both (leb k 65535) (both (within 2 255 c) true)) global
      (both_true (leb k 65535) (both (within 2 255 c) true) offset (both_true (within 2 255 c) true w refl))

  write_check : (a c : ℕ) → ltb a 16 ≡ true → within 2 255 c ≡ true → both (ltb a 16) (both (within 2 255 c) true) ≡ true
  write_check a c t w = both_true (ltb a 16) (both (within 2 255 c) true) t (both_true (within 2 255 c) true w refl)

  abbrev GoodCheck : View → Type 0
  GoodCheck (act x) = Unit
  GoodCheck (jump t) = Unit
  GoodCheck (jump_if a t) = Unit
  GoodCheck (store aim b s) = (c : ℕ) → within 2 255 c ≡ true → good_instr (new_scope p lines) (check_instr aim c) ≡ true
  GoodCheck (check aim c) = Unit

  check_ranged : (v : View) → Ranged (scope_of 1 p) v → GoodCheck v
  check_ranged (act x) r = tt
  check_ranged (jump t) r = tt
  check_ranged (jump_if a t) r = tt
  check_ranged (store (in_global g k one) b s) r = λ c w. put_check g k c r.0 r.1 w
  check_ranged (store (in_global g k four) b s) r = λ c w. put_check g k c r.0 r.1 w
  check_ranged (store (at_temp a one) b s) r = λ c w. write_check a c r.0 w
  check_ranged (store (at_temp a four) b s) r = λ c w. write_check a c r.0 w
  check_ranged (check aim c) r = tt

  good_check : (i : Instr) → good_instr (scope_of 1 p) i ≡ true → GoodCheck (view i)
  good_check i h = check_ranged (view i) (ranged (scope_of 1 p) i h)

  checks_in_lem : (color : ℕ → ℕ) (v : View) (rest : List (List ℕ)) → Names p v → GoodCheck v
      → ((x : ℕ) → unsafe_object (unsafe_set p v ++ rest) x ≡ true → within 2 255 (color x) ≡ true)
      → every (good_instr (new_scope p lines)) (check_of color p v) ≡ true
  unfolding every
  checks_in_lem color (act x) rest g k tint = refl
  checks_in_lem color (jump t) rest g k tint = refl
  checks_in_lem color (jump_if a t) rest g k tint = refl
  checks_in_lem color (store aim b s) rest g k tint = go (safe_aim p aim) refl
    where
      go : (safe : Bool) → safe_aim p aim ≡ safe → every (good_instr (new_scope p lines)) (check_of color p (store aim b s)) ≡ true
      go true e = rw (check_safe color p aim b s e)
      go false e =
          rw (check_unsafe color p aim b s e)
          (every_cons (good_instr (new_scope p lines)) (check_instr aim (color_of_set color (set_of p aim s))) []
          (k (color_of_set color (set_of p aim s)) (tint (get_or (set_of p aim s) 0 0) (store_unsafe p r aim b s rest g e)))
          refl)
  checks_in_lem color (check aim c) rest g k tint = refl

  -- the whole code, where what is unsafe in it has a color
  pub good_guarded : (color : ℕ → ℕ) (code : List Instr) → every (good_instr (scope_of 1 p)) code ≡ true
      → ((x : ℕ) → unsafe_object (sets_in p code) x ≡ true → within 2 255 (color x) ≡ true)
      → every (good_instr (new_scope p lines)) (guarded (checks_of color p) target code) ≡ true
  unfolding guarded sets_in every
  good_guarded color [] h tint = refl
  good_guarded color (i ∷ code) h tint =
      let g : good_instr (scope_of 1 p) i ≡ true = every_head (good_instr (scope_of 1 p)) i code h in
      every_append (good_instr (new_scope p lines)) (check_of color p (view i)) (moved target i ∷ guarded (checks_of color p) target code)
      (checks_in_lem color (view i) (sets_in p code) (names p i g) (good_check i g) tint)
      (every_cons (good_instr (new_scope p lines)) (moved target i) (guarded (checks_of color p) target code)
      (good_moved i g)
      (good_guarded color code
      (every_tail (good_instr (scope_of 1 p)) i code h)
      (λ x u. tint x (some_behind (λ t. holds t x) (unsafe_set p (view i)) (sets_in p code) u))))
