-- When a version 2 program guards a version 1 program: it is what 01 says under "Version 2 of a routine",
-- whoever wrote it, with any color numbers that keep the classes apart.
use Rattle.std.specs.Prelude.{ℕ, ◌+◌, ◌≤◌, ◌<◌, ◌≡◌, List, [], ◌∷◌, true, false, length, get_or}
use Rattle.opcodes.specs.declared.Instr.{Instr}
use Rattle.files.specs.Program.{Program}
use Rattle.opcodes.specs.View.{view, check_instr}
use Rattle.instructions.specs.Moved.{moved}
use Rattle.safety.specs.Unsafe.{Unsafe, unsafe_in, unsafe_sets}
use Rattle.coloring.specs.Class.{unsafe_object, same_class}
use Rattle.coloring.specs.Color.{color_of_set}
use Rattle.coloring.specs.Colored.{tinted}

-- colors that give 0 exactly to the safe objects, and two unsafe objects one number exactly when they
-- are of one class; numbers from 2 up to 255, as a file has them
pub record Exact (sets : List (List ℕ)) (color : ℕ → ℕ) : Type 0 where
  pub safe : (x : ℕ) → unsafe_object sets x ≡ false → color x ≡ 0
  pub low : (x : ℕ) → unsafe_object sets x ≡ true → 2 ≤ color x
  pub high : (x : ℕ) → color x ≤ 255
  pub apart : (x y : ℕ) → unsafe_object sets x ≡ true → color x ≡ color y → same_class sets x y ≡ true
  pub together : (x y : ℕ) → same_class sets x y ≡ true → color x ≡ color y

-- ---- one instruction

abbrev pub instr_at : Program → (k : ℕ) → Instr
instr_at p k = get_or p.code k Instr.End

-- instruction k of the routine, which begins at its place in version 2: alone, or "directly preceded by
-- its check with its class's color"; what follows it begins directly behind
pub data Stands (p q : Program) (color place target : ℕ → ℕ) (k : ℕ) : Type 0 where
  alone : unsafe_in p (view (instr_at p k)) ≡ []
      → place k < length q.code
      → instr_at q (place k) ≡ moved target (instr_at p k)
      → place (k + 1) ≡ place k + 1
      → Stands p q color place target k
  behind : (u : Unsafe) → unsafe_in p (view (instr_at p k)) ≡ u ∷ []
      → place k + 1 < length q.code
      → instr_at q (place k) ≡ check_instr u.aim (color_of_set color u.set)
      → instr_at q (place k + 1) ≡ moved target (instr_at p k)
      → place (k + 1) ≡ place k + 2
      → Stands p q color place target k

-- ---- the whole

-- q guards p
pub record Guards (p q : Program) : Type 0 where
  pub color : ℕ → ℕ
  pub exact : Exact (unsafe_sets p) color
  pub objects : q.objects ≡ tinted color 0 p.objects
  -- where an instruction begins in version 2: its check, or else itself; and where jumps to it go
  pub place : ℕ → ℕ
  pub target : ℕ → ℕ
  -- "the same instructions in order", from the first place to the last
  pub first : place 0 ≡ 0
  pub stands : (k : ℕ) → k < length p.code → Stands p q color place target k
  pub last : (k : ℕ) → length p.code ≤ k → place k ≡ length q.code
  -- "A jump to p goes to the check of p where p has one"
  pub jumps : (t : ℕ) → target t ≡ place t
