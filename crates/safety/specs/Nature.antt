-- What an instruction is, as the contract of `by_opcode` says it; no demand cites it.
use Rattle.std.specs.Prelude.{ℕ, true, false}
use Rattle.opcodes.specs.View.{Aim, in_global, at_temp, View, act, jump, jump_if, store, check, bytes}
use Rattle.safety.specs.declared.Nature.{Nature}
use Rattle.safety.specs.Unsafe.{safe_put}

-- "Every other PUT is unsafe with the set {g}": of n bytes at byte k of global g
abbrev pub put_nature : (size g k n : ℕ) → Nature
put_nature size g k n = elim (safe_put size k n) [ true ↦ Nature.Safe | false ↦ Nature.Own g ]

-- ", and every WRITE is unsafe with its set."
abbrev pub store_nature : (size : ℕ → ℕ) → Aim → (set : ℕ) → Nature
store_nature size (in_global g k w) s = put_nature (size g) g k (bytes w)
store_nature size (at_temp a w) s = Nature.Listed s

-- safe, unsafe with which set, a jump and where it goes, a check, or none of these; the sizes are
-- those of the globals
abbrev pub nature_of : (size : ℕ → ℕ) → View → Nature
nature_of size (act x) = Nature.Other
nature_of size (jump t) = Nature.Jump t
nature_of size (jump_if a t) = Nature.Jump t
nature_of size (store aim b s) = store_nature size aim s
nature_of size (check aim c) = Nature.Check
