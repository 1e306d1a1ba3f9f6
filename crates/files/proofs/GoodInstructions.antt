-- What a good instruction says, over its view: each operand that it names is in its range (`ranged`, for every version, the
-- one list of all instructions). So one of version 1 names objects of their kinds, sets and places that are there, and is
-- no check (`names`).
use Prim.Native.Nat.{ℕ, ◌<◌}
use mathlib.Core.Path.{◌≡◌, refl, sym, ◌∙◌}
use mathlib.Core.Bool.{true}
use native.Mathlib.Omega.{arith}
use lib.ListN.{length, get_or, length-map, get_or-map}
use lib.Dec.{ltb, leb}
use borrow.Author.Tests.{ltb-true}
use Rattle.opcodes.specs.declared.Group.{Group}
use Rattle.opcodes.specs.declared.Operand.{Operand}
use Rattle.opcodes.specs.declared.Instr.{Instr}
use Rattle.opcodes.specs.declared.Instr.TheVariants.{End, Place, Add, Sub, Less, Load8, Load32, Put8, Put32, Write8, Write32, Jump, JumpIf, Alloc, Free, In, Out, Check8, Check32, CheckPut8, CheckPut32}
use Rattle.opcodes.specs.Table.{parts_of}
use Rattle.opcodes.specs.Ranges.{Scope, has_group, is_kind}
use Rattle.opcodes.specs.View.{Aim, in_global, at_temp, Act, View, act, jump, jump_if, store, check, view}
use Rattle.opcodes.proofs.Bounds.{kind_below, kind_is}
use Rattle.opcodes.specs.declared.Object.{Object}
use Rattle.files.specs.Program.{Program}
use Rattle.opcodes.specs.Ranges.{kinds_of}
use Rattle.files.specs.Writing.{good_operand, good_instr, scope_of}
use Rattle.files.proofs.Tests.{no_test}
use Rattle.files.proofs.SpelledInstructions.{GoodParts, good_parts_lem}

-- g is an object, and of this kind
abbrev pub OfKind : Program → (kind g : ℕ) → Type 0
OfKind p kind g = (g < length p.objects) × ((get_or p.objects g (record { kind = 0; size = 0; color = 0 })).kind ≡ kind)

abbrev pub NamesAct : Program → Act → Type 0
NamesAct p Act.end = Unit {0}
NamesAct p (Act.set d n) = Unit {0}
NamesAct p (Act.place d g) = OfKind p 0 g
NamesAct p (Act.add d a b) = Unit {0}
NamesAct p (Act.sub d a b) = Unit {0}
NamesAct p (Act.less d a b) = Unit {0}
NamesAct p (Act.load d a w) = Unit {0}
NamesAct p (Act.alloc d g a) = OfKind p 1 g
NamesAct p (Act.free a) = Unit {0}
NamesAct p (Act.input d) = Unit {0}
NamesAct p (Act.output a) = Unit {0}

-- what a store names: a global, or a set
abbrev pub NamesAim : Program → Aim → (set : ℕ) → Type 0
NamesAim p (in_global g k w) s = OfKind p 0 g
NamesAim p (at_temp a w) s = s < length p.sets

abbrev pub Names : Program → View → Type 0
Names p (act x) = NamesAct p x
Names p (jump t) = t < length p.code
Names p (jump_if a t) = t < length p.code
Names p (store aim b s) = NamesAim p aim s
Names p (check aim c) = ⊥

of_kind : (p : Program) (kind g : ℕ) → is_kind (kinds_of p.objects) kind g ≡ true → OfKind p kind g
of_kind p kind g h = (
  omega (arith, kind_below (kinds_of p.objects) kind g h, length-map p.objects (λ o. o.kind)),
  sym (get_or-map (λ (o : Object). o.kind) p.objects g (record { kind = 0; size = 0; color = 0 })) ∙ kind_is (kinds_of p.objects) kind g h,
)

-- ---- every operand in its range

abbrev pub RangedAct : Scope → Act → Type 0
RangedAct scope Act.end = Unit {0}
RangedAct scope (Act.set d n) = Unit {0}
RangedAct scope (Act.place d g) = is_kind scope.kinds 0 g ≡ true
RangedAct scope (Act.add d a b) = Unit {0}
RangedAct scope (Act.sub d a b) = Unit {0}
RangedAct scope (Act.less d a b) = Unit {0}
RangedAct scope (Act.load d a w) = Unit {0}
RangedAct scope (Act.alloc d g a) = is_kind scope.kinds 1 g ≡ true
RangedAct scope (Act.free a) = Unit {0}
RangedAct scope (Act.input d) = Unit {0}
RangedAct scope (Act.output a) = Unit {0}

-- an aim, and what is known beside it
abbrev pub RangedAim : Scope → Aim → (global temporary : Type 0) → Type 0
RangedAim scope (in_global g k w) G T = (is_kind scope.kinds 0 g ≡ true) × (leb k 65535 ≡ true) × G
RangedAim scope (at_temp a w) G T = (ltb a 16 ≡ true) × T

abbrev pub Ranged : Scope → View → Type 0
Ranged scope (act x) = RangedAct scope x
Ranged scope (jump t) = ltb t scope.code ≡ true
Ranged scope (jump_if a t) = ltb t scope.code ≡ true
Ranged scope (store aim b s) = RangedAim scope aim (Unit {0}) (good_operand scope Operand.Set s ≡ true)
Ranged scope (check aim c) = RangedAim scope aim (has_group scope.version Group.Check ≡ true) (has_group scope.version Group.Check ≡ true)

module _ (scope : Scope) where
  by_parts : (i : Instr) → GoodParts scope (parts_of i) → Ranged scope (view i)
  by_parts End q = tt
  by_parts (Instr.Set d n) q = tt
  by_parts (Place d g) q = q.operands.1.0
  by_parts (Add d a b) q = tt
  by_parts (Sub d a b) q = tt
  by_parts (Less d a b) q = tt
  by_parts (Load8 d a) q = tt
  by_parts (Load32 d a) q = tt
  by_parts (Put8 g k a) q = (q.operands.0, q.operands.1.0, tt)
  by_parts (Put32 g k a) q = (q.operands.0, q.operands.1.0, tt)
  by_parts (Write8 a b s) q = (q.operands.0, q.operands.1.1.0)
  by_parts (Write32 a b s) q = (q.operands.0, q.operands.1.1.0)
  by_parts (Jump t) q = q.operands.0
  by_parts (JumpIf a t) q = q.operands.1.0
  by_parts (Alloc d g a) q = q.operands.1.0
  by_parts (Free a) q = tt
  by_parts (In d) q = tt
  by_parts (Out a) q = tt
  by_parts (Check8 a c) q = (q.operands.0, q.opcode)
  by_parts (Check32 a c) q = (q.operands.0, q.opcode)
  by_parts (CheckPut8 g k c) q = (q.operands.0, q.operands.1.0, q.opcode)
  by_parts (CheckPut32 g k c) q = (q.operands.0, q.operands.1.0, q.opcode)

  pub ranged : (i : Instr) → good_instr scope i ≡ true → Ranged scope (view i)
  ranged i h = by_parts i (good_parts_lem scope (parts_of i) h)

-- ---- version 1

module _ (p : Program) where
  names_act : (x : Act) → RangedAct (scope_of 1 p) x → NamesAct p x
  names_act Act.end r = tt
  names_act (Act.set d n) r = tt
  names_act (Act.place d g) r = of_kind p 0 g r
  names_act (Act.add d a b) r = tt
  names_act (Act.sub d a b) r = tt
  names_act (Act.less d a b) r = tt
  names_act (Act.load d a w) r = tt
  names_act (Act.alloc d g a) r = of_kind p 1 g r
  names_act (Act.free a) r = tt
  names_act (Act.input d) r = tt
  names_act (Act.output a) r = tt

  names_view : (v : View) → Ranged (scope_of 1 p) v → Names p v
  names_view (act x) r = names_act x r
  names_view (jump t) r = ltb-true t (length p.code) r
  names_view (jump_if a t) r = ltb-true t (length p.code) r
  names_view (store (in_global g k w) b s) r = of_kind p 0 g r.0
  names_view (store (at_temp a w) b s) r = ltb-true s (length p.sets) r.1
  names_view (check (in_global g k w) c) r = no_test r.2 refl
  names_view (check (at_temp a w) c) r = no_test r.1 refl

  pub names : (i : Instr) → good_instr (scope_of 1 p) i ≡ true → Names p (view i)
  names i h = names_view (view i) (ranged (scope_of 1 p) i h)
