-- The field of an operand holds the whole of a number below its roof.
use Prim.Native.Nat.{ℕ, ◌<◌}
use mathlib.Core.Path.{◌≡◌, refl, ap, ap₂}
use mathlib.Core.List.{List, [], ◌∷◌, map}
use native.Mathlib.Omega.{arith}
use lib.ListN.{length}
use Rattle.opcodes.specs.declared.Operand.{Operand}
use Rattle.opcodes.specs.Table.{row_of, operands_of, make, named, Each}
use Rattle.instructions.specs.Making.{fit, made}

abbrev pub roof : Operand → ℕ
roof Operand.None = 1
roof Operand.Temporary = 256
roof Operand.Number = 4294967296
roof Operand.Global = 65536
roof Operand.Site = 65536
roof Operand.Set = 65536
roof Operand.Offset = 65536
roof Operand.Target = 65536
roof Operand.Color = 256

fits : (kind : Operand) (n : ℕ) → n < roof kind → fit kind n ≡ n
fits Operand.None n h = omega arith
fits Operand.Temporary n h = omega arith
fits Operand.Number n h = refl
fits Operand.Global n h = omega arith
fits Operand.Site n h = omega arith
fits Operand.Set n h = omega arith
fits Operand.Offset n h = omega arith
fits Operand.Target n h = omega arith
fits Operand.Color n h = omega arith

abbrev pub Under : Operand → ℕ → Type 0
Under kind n = n < roof kind

all_fit : (kinds : List Operand) (ns : List ℕ) → length kinds ≡ length ns → Each Under (named kinds ns)
    → map (λ o. fit o.0 o.1) (named kinds ns) ≡ ns
all_fit [] [] e u = refl
all_fit [] (n ∷ ns) e u = absurd (omega arith)
all_fit (kind ∷ kinds) [] e u = absurd (omega arith)
all_fit (kind ∷ kinds) (n ∷ ns) e u = ap₂ (λ (m : ℕ) (ms : List ℕ). m ∷ ms) (fits kind n u.0) (all_fit kinds ns (omega arith) u.1)

pub made_whole : (op : ℕ) (ns : List ℕ) → 4 ≡ length ns → Each Under (named (operands_of (row_of op)) ns) → made op ns ≡ make op ns
made_whole op ns e u = ap (make op) (all_fit (operands_of (row_of op)) ns e u)
