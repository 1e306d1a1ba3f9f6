-- What the functions inside the crate promise one another: version 2 over the arrays that hold a routine.
use Rattle.std.specs.Prelude.{ℕ, ◌<◌, ◌≤◌, ◌≡◌, List, length, get_or, take}
use Rattle.opcodes.specs.declared.Instr.{Instr}
use Rattle.opcodes.specs.declared.Object.{Object}
use Rattle.files.specs.declared.arrays.Sets.{Sets}
use Rattle.files.specs.declared.arrays.Code.{Code}
use Rattle.files.specs.declared.arrays.Loaded.{Loaded}
use Rattle.files.specs.Held.{code_held}
use Rattle.checks.specs.Held.{check_in}
use Rattle.instrumenter.specs.Instrumented.{guarded, span_of}

-- the check of an instruction, over objects and sets that are held
abbrev pub checks_over : List Object → Sets → Instr → List Instr
checks_over objects sets = check_in objects sets.ends sets.members

-- each instruction has its new place
abbrev pub PlacesAre : (checks : Instr → List Instr) (code : List Instr) (places : List ℕ) → Type 0
PlacesAre checks code places = (t : ℕ) → t < length code → get_or places t 0 ≡ span_of checks (take t code)

-- what holds of every routine that was read
pub record Small (l : Loaded) : Type 0 where
  pub objects : l.objects.count ≤ 400
  pub code : l.code.count ≤ 1000

-- ---- the code of version 2, over what is held

abbrev pub code_in : Loaded → List Instr
code_in l = take l.code.count l.code.list

abbrev pub checks_in : Loaded → Instr → List Instr
checks_in l = checks_over (take l.objects.count l.objects.list) l.sets

pub record Version2 (l : Loaded) (out : Code) : Type 0 where
  pub places : List ℕ
  pub placed : PlacesAre (checks_in l) (code_in l) places
  pub coded : out ≡ code_held (guarded (checks_in l) (λ t. get_or places t 0) (code_in l))
