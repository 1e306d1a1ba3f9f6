-- What an opcode number says of the instruction that it makes.
use Prim.Native.Nat.{ℕ, ◌≤◌, ◌<◌}
use native.Mathlib.Omega.{arith}
use mathlib.Core.Path.{◌≡◌, refl}
use mathlib.Core.List.{[], ◌∷◌}
use Rattle.opcodes.specs.declared.Instr.{Instr}
use Rattle.opcodes.specs.declared.Parts.{Parts}
use Rattle.opcodes.specs.Table.{make, numbers_of, parts_of}
use Rattle.opcodes.specs.View.{view}
use Rattle.instructions.proofs.Parting.{make_parts}
use Rattle.safety.specs.declared.Nature.{Nature}
use Rattle.safety.specs.Nature.{nature_of}
use Rattle.instructions.proofs.Tables.{alike, agree}

module _ (size : ℕ → ℕ) (x y z w : ℕ) where
  abbrev made : (op : ℕ) → Nature
  made op = nature_of size (view (make op (x ∷ y ∷ z ∷ w ∷ [])))

  pub at_writes : (op : ℕ) → 10 ≤ op → op < 12 → made op ≡ Nature.Listed z
  at_writes = alike made (λ op. Nature.Listed z) 10 2 refl

  pub at_checks : (op : ℕ) → 18 ≤ op → op < 22 → made op ≡ Nature.Check
  at_checks = alike made (λ op. Nature.Check) 18 4 refl

  -- the rest that the check does not see alone: before the stores, and between jumps and checks
  pub at_first : (op : ℕ) → op < 8 → made op ≡ Nature.Other
  at_first op h = alike made (λ op. Nature.Other) 0 8 refl op (omega arith) h

  pub at_between : (op : ℕ) → 14 ≤ op → op < 18 → made op ≡ Nature.Other
  at_between = alike made (λ op. Nature.Other) 14 4 refl

-- only the size of the first operand is looked at
nature_size : (f : ℕ → ℕ) (i : Instr) → nature_of (λ g. f (parts_of i).x) (view i) ≡ nature_of f (view i)
nature_size f = agree (λ i. nature_of (λ g. f (parts_of i).x) (view i)) (λ i. nature_of f (view i)) (λ ns. refl)

pub nature_whole : (f : ℕ → ℕ) (i : Instr) (r : Parts) (size : ℕ) → r ≡ parts_of i → size ≡ f r.x
    → nature_of (λ g. size) (view (make r.op (numbers_of r))) ≡ nature_of f (view i)
nature_whole f i r size e s = rw s (rw e (rw (make_parts i) (nature_size f i)))
