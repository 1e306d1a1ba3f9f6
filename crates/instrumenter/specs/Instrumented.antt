-- 01, "Version 2 of a routine", for any numbers that the objects are given as colors.
use Rattle.std.specs.Prelude.{ℕ, ◌+◌, List, [], ◌∷◌, ◌++◌, map, length, take}
use Rattle.opcodes.specs.declared.Instr.{Instr}
use Rattle.opcodes.specs.View.{View, view, check_instr}
use Rattle.instructions.specs.Moved.{moved}
use Rattle.files.specs.Program.{Program}
use Rattle.safety.specs.Unsafe.{unsafe_in}
use Rattle.coloring.specs.Color.{color_of_set}
use Rattle.coloring.specs.Colored.{tinted}

-- "each unsafe one directly preceded by its check with its class's color"
abbrev pub check_of : (color : ℕ → ℕ) → Program → View → List Instr
check_of color p v = map (λ u. check_instr u.aim (color_of_set color u.set)) (unsafe_in p v)

abbrev pub checks_of : (color : ℕ → ℕ) → Program → Instr → List Instr
checks_of color p i = check_of color p (view i)

-- "the same instructions in order", each behind its check
unfoldable pub guarded : (checks : Instr → List Instr) (target : ℕ → ℕ) → List Instr → List Instr
guarded checks target [] = []
guarded checks target (i ∷ code) = checks i ++ moved target i ∷ guarded checks target code

-- how many instructions of version 2 these are
unfoldable pub span_of : (checks : Instr → List Instr) → List Instr → ℕ
span_of checks [] = 0
span_of checks (i ∷ code) = length (checks i) + 1 + span_of checks code

-- "A jump to p goes to the check of p where p has one": behind all that stand before p
unfoldable pub new_place : (color : ℕ → ℕ) → Program → (at : ℕ) → ℕ
new_place color p at = span_of (checks_of color p) (take at p.code)

-- version 2 of a routine under a choice of color numbers
unfoldable pub instrumented : (color : ℕ → ℕ) → Program → Program
instrumented color p =
    record {
      objects = tinted color 0 p.objects;
      sets = [];
      code = guarded (checks_of color p) (new_place color p) p.code;
    }
