-- What holds of each operand of an instruction.
use Prim.Native.Nat.{ℕ}
use mathlib.Core.List.{List, [], ◌∷◌}
use Rattle.opcodes.specs.declared.Operand.{Operand}
use Rattle.opcodes.specs.Table.{Each}

pub each_then : {P Q : Operand → ℕ → Type 0} → ((kind : Operand) (n : ℕ) → P kind n → Q kind n) → (os : List (Operand × ℕ)) → Each P os → Each Q os
each_then f [] e = tt
each_then f (o ∷ os) e = (f o.0 o.1 e.0, each_then f os e.1)
