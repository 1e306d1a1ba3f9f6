-- 01, "Safe stores, classes, colors": which instructions are unsafe, and with which set.
use Rattle.std.specs.Prelude.{ℕ, ◌+◌, List, [], ◌∷◌, ◌++◌, map, Bool, true, false, get_or, leb}
use Rattle.opcodes.specs.declared.Object.{Object}
use Rattle.opcodes.specs.declared.Instr.{Instr}
use Rattle.files.specs.Program.{Program}
use Rattle.opcodes.specs.View.{Aim, in_global, at_temp, View, act, jump, jump_if, store, check, view, bytes, extent}

abbrev pub size_of : List Object → (g : ℕ) → ℕ
size_of objects g = (get_or objects g (record { kind = 0; size = 0; color = 0 })).size

-- "A PUT is safe when its last byte lies inside the global's size rounded up to eight": n bytes at byte k
abbrev pub safe_put : (size k n : ℕ) → Bool
safe_put size k n = leb (k + n) (extent size)

-- "Every other PUT is unsafe .., and every WRITE is unsafe"
abbrev pub safe_aim : Program → Aim → Bool
safe_aim p (in_global g k w) = safe_put (size_of p.objects g) k (bytes w)
safe_aim p (at_temp a w) = false

-- ".. with the set {g}, and every WRITE is unsafe with its set"
abbrev pub set_of : Program → Aim → (set : ℕ) → List ℕ
set_of p (in_global g k w) s = g ∷ []
set_of p (at_temp a w) s = get_or p.sets s []

-- an unsafe instruction: where it aims, and its set
pub record Unsafe : Type 0 where
  pub aim : Aim
  pub set : List ℕ

-- an instruction that is unsafe, as the one element of a list; nothing of any other
abbrev pub unsafe_in : Program → View → List Unsafe
unsafe_in p (act x) = []
unsafe_in p (jump t) = []
unsafe_in p (jump_if a t) = []
unsafe_in p (store aim b s) = elim (safe_aim p aim) [ true ↦ [] | false ↦ record { aim = aim; set = set_of p aim s } ∷ [] ]
unsafe_in p (check aim c) = []

abbrev pub unsafe_set : Program → View → List (List ℕ)
unsafe_set p v = map (λ u. u.set) (unsafe_in p v)

unfoldable pub sets_in : Program → List Instr → List (List ℕ)
sets_in p [] = []
sets_in p (i ∷ code) = unsafe_set p (view i) ++ sets_in p code

-- the sets of the unsafe instructions, in order: "a set that no instruction names counts for nothing"
abbrev pub unsafe_sets : Program → List (List ℕ)
unsafe_sets p = sets_in p p.code
