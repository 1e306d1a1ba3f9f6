-- The 22 opcodes in four groups: what an instruction calculates, where it jumps, what it stores, what
-- it checks. A check and its store share their aim: the same address and the same width.
use Rattle.std.specs.Prelude.{ℕ, ◌+◌, ◌*◌, ◌/◌}
use Rattle.opcodes.specs.declared.Instr.{Instr}
use Rattle.opcodes.specs.declared.Instr.TheVariants.{End, Place, Add, Sub, Less, Load8, Load32, Put8, Put32, Write8, Write32, Jump, JumpIf, Alloc, Free, In, Out, Check8, Check32, CheckPut8, CheckPut32}

-- "the low 1 or 4 bytes"
pub data Width : Type 0 where
  one : Width
  four : Width

abbrev pub bytes : Width → ℕ
bytes one = 1
bytes four = 4

-- where a store or a check points: "at byte k of global g", or "at address a", a temporary
pub data Aim : Type 0 where
  in_global : (g k : ℕ) → Width → Aim
  at_temp : (a : ℕ) → Width → Aim

-- what an instruction calculates from temporaries, memory, heap, input and output
pub data Act : Type 0 where
  end : Act
  set : (d n : ℕ) → Act
  place : (d g : ℕ) → Act
  add : (d a b : ℕ) → Act
  sub : (d a b : ℕ) → Act
  less : (d a b : ℕ) → Act
  load : (d a : ℕ) → Width → Act
  alloc : (d g a : ℕ) → Act
  free : (a : ℕ) → Act
  input : (d : ℕ) → Act
  output : (a : ℕ) → Act

pub data View : Type 0 where
  act : Act → View
  jump : (p : ℕ) → View
  jump_if : (a p : ℕ) → View
  store : Aim → (source set : ℕ) → View
  check : Aim → (color : ℕ) → View

abbrev pub view : Instr → View
view End = act end
view (Instr.Set d n) = act (set d n)
view (Place d g) = act (place d g)
view (Add d a b) = act (add d a b)
view (Sub d a b) = act (sub d a b)
view (Less d a b) = act (less d a b)
view (Load8 d a) = act (load d a one)
view (Load32 d a) = act (load d a four)
view (Put8 g k a) = store (in_global g k one) a 0
view (Put32 g k a) = store (in_global g k four) a 0
view (Write8 a b s) = store (at_temp a one) b s
view (Write32 a b s) = store (at_temp a four) b s
view (Jump p) = jump p
view (JumpIf a p) = jump_if a p
view (Alloc d g a) = act (alloc d g a)
view (Free a) = act (free a)
view (In d) = act (input d)
view (Out a) = act (output a)
view (Check8 a c) = check (at_temp a one) c
view (Check32 a c) = check (at_temp a four) c
view (CheckPut8 g k c) = check (in_global g k one) c
view (CheckPut32 g k c) = check (in_global g k four) c

-- the check of an aim for a color: opcodes 18 to 21
abbrev pub check_instr : Aim → (color : ℕ) → Instr
check_instr (in_global g k one) c = CheckPut8 g k c
check_instr (in_global g k four) c = CheckPut32 g k c
check_instr (at_temp a one) c = Check8 a c
check_instr (at_temp a four) c = Check32 a c

-- "each rounded up to eight (its extent)"
abbrev pub extent : (size : ℕ) → ℕ
extent size = (size + 7) / 8 * 8
