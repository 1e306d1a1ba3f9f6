-- One instruction in version 2, over the objects and sets that are held, where an element past an array's end
-- counts as 0.
-- These are words of contracts; no demand cites them.
use Rattle.std.specs.Prelude.{ℕ, ◌-◌, true, false, List, [], ◌∷◌, Option, Some, None, get_or, eqb}
use Rattle.opcodes.specs.declared.Instr.{Instr}
use Rattle.opcodes.specs.declared.Object.{Object}
use Rattle.opcodes.specs.View.{View, act, jump, jump_if, store, check, view, check_instr}
use Rattle.files.specs.Held.{blank}
use Rattle.safety.specs.declared.Nature.{Nature}
use Rattle.safety.specs.Nature.{nature_of}
use Rattle.safety.specs.Unsafe.{size_of}

-- where set s starts among the members: behind the set before it
abbrev pub set_start : (ends : List ℕ) (s : ℕ) → ℕ
set_start ends s = elim (eqb s 0) [ true ↦ 0 | false ↦ get_or ends (s - 1) 0 ]

-- its lowest object
abbrev pub first_in : (ends members : List ℕ) (s : ℕ) → ℕ
first_in ends members s = get_or members (set_start ends s) 0

-- the color of an object
abbrev pub color_at : List Object → (x : ℕ) → ℕ
color_at objects x = (get_or objects x blank).color

-- the check of a store; nothing else is checked
abbrev pub check_for : View → (color : ℕ) → Instr
check_for (act x) c = Instr.End
check_for (jump t) c = Instr.End
check_for (jump_if a t) c = Instr.End
check_for (store aim b s) c = check_instr aim c
check_for (check aim d) c = Instr.End

abbrev pub as_list : Option Instr → List Instr
as_list None = []
as_list (Some i) = i ∷ []

abbrev pub check_nature : List Object → (ends members : List ℕ) → View → Nature → List Instr
check_nature objects ends members v Nature.Safe = []
check_nature objects ends members v (Nature.Own g) = check_for v (color_at objects g) ∷ []
check_nature objects ends members v (Nature.Listed s) = check_for v (color_at objects (first_in ends members s)) ∷ []
check_nature objects ends members v (Nature.Jump t) = []
check_nature objects ends members v Nature.Check = []
check_nature objects ends members v Nature.Other = []

-- the check of an instruction, over the objects and sets that are held
unfoldable pub check_in : List Object → (ends members : List ℕ) → Instr → List Instr
check_in objects ends members i = check_nature objects ends members (view i) (nature_of (size_of objects) (view i))
