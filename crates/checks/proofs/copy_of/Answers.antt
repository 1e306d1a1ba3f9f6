-- `copy_of` meets its contract: an instruction that no named arm takes is copied as it is.
use Prim.Native.Nat.{ℕ}
use mathlib.Core.Path.{◌≡◌, refl}
use mathlib.Core.List.{List, [], ◌∷◌}
use lib.ListN.{get_or}
use types.Run.{OneOf}
use denote.Enum.Declared.{tag_of}
use borrow.Author.Rules.{rules}
use Rattle.opcodes.specs.declared.Instr.{Instr}
use Rattle.opcodes.specs.contracts.Instr.{the_type}
use Rattle.instructions.proofs.Tables.{agree_on}
use Rattle.instructions.specs.Moved.{moved}
use Rattle.checks.proofs.copy_of.Goals as goal

-- the opcodes that are copied as they are
abbrev copied : List ℕ
copied = 0 ∷ 1 ∷ 2 ∷ 3 ∷ 4 ∷ 5 ∷ 6 ∷ 7 ∷ 8 ∷ 9 ∷ 14 ∷ 15 ∷ 16 ∷ 17 ∷ 18 ∷ 19 ∷ 20 ∷ 21 ∷ []

copied_whole : (target : ℕ → ℕ) (i : Instr) → OneOf copied (tag_of the_type i) → i ≡ moved target i
copied_whole target = agree_on copied (λ i. i) (moved target) (λ ns. refl)

pub returns-in_default : goal.returns-in_default
returns-in_default c = copied_whole (λ t. get_or c.args.places.now t 0) c.args.i (search rules)
