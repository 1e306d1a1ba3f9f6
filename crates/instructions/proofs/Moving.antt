-- What an instruction asks of the rule in version 2: a jump has its new target, a store no set, and nothing else changes.
use Prim.Native.Nat.{ℕ}
use mathlib.Core.Path.{◌≡◌, refl}
use Rattle.opcodes.specs.declared.Instr.{Instr}
use Rattle.opcodes.specs.View.{View, act, jump, jump_if, store, check, view}
use Rattle.instructions.specs.Moved.{moved}
use Rattle.instructions.proofs.Tables.{agree}

-- what an instruction is in version 2
abbrev pub moved_view : (target : ℕ → ℕ) → View → View
moved_view target (act x) = act x
moved_view target (jump t) = jump (target t)
moved_view target (jump_if a t) = jump_if a (target t)
moved_view target (store aim b s) = store aim b 0
moved_view target (check aim c) = check aim c

pub view_moved : (target : ℕ → ℕ) (i : Instr) → view (moved target i) ≡ moved_view target (view i)
view_moved target = agree (λ i. view (moved target i)) (λ i. moved_view target (view i)) (λ ns. refl)
