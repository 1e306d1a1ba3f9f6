-- What an unsafe instruction of an accepted routine aims at: its set is not empty and counts, so the
-- set's lowest object is unsafe; and a safe PUT stays in its global.
use Prim.Native.Nat.{ℕ, zero, suc, ◌+◌, ◌<◌, ◌≤◌}
use native.Mathlib.Nat.{not-suc-le-zero, le_of_suc-le-suc}
use native.Mathlib.Omega.{arith}
use mathlib.Core.Path.{◌≡◌, ◌∙◌, ap, subst}
use mathlib.Core.List.{List, [], ◌∷◌, ◌++◌, map}
use mathlib.Core.Bool.{Bool, true, false}
use lib.ListN.{length, get_or}
use lib.Dec.{eqb}
use borrow.Author.Tests.{ne_eqb, le-leb}
use Rattle.opcodes.specs.declared.Instr.{Instr}
use Rattle.files.specs.Program.{Program}
use Rattle.opcodes.specs.View.{one, four, Aim, in_global, at_temp, store, view}
use Rattle.safety.specs.Unsafe.{safe_aim, set_of, Unsafe, unsafe_set, sets_in, unsafe_sets}
use Rattle.safety.proofs.Stores.{unsafe_one}
use Rattle.coloring.specs.Class.{holds, some, unsafe_object}
use Rattle.coloring.proofs.Members.{some_here, some_behind, holds_at}
use Rattle.memory.specs.Memory.{memory_size, inside}
use Rattle.machine.specs.State.{width_of}
use Rattle.plain.proofs.Good.{Fine, Good}

-- ---- sets

-- the set of an unsafe instruction counts
in_sets : (p : Program) (test : List ℕ → Bool) (s : List ℕ) (code : List Instr) (k : ℕ) → k < length code
    → unsafe_set p (view (get_or code k Instr.End)) ≡ s ∷ [] → test s ≡ true → some test (sets_in p code) ≡ true
unfolding sets_in
in_sets p test s [] k h e t = absurd (not-suc-le-zero h)
in_sets p test s (i ∷ code) zero h e t = ap (λ l. some test (l ++ sets_in p code)) e ∙ some_here test s (sets_in p code) t
in_sets p test s (i ∷ code) (suc k) h e t =
    some_behind test (unsafe_set p (view i)) (sets_in p code) (in_sets p test s code k (le_of_suc-le-suc h) e t)

module _ (p : Program) (good : Good p) (k : ℕ) (in_code : k < length p.code) (aim : Aim) (b s : ℕ)
    (is : view (get_or p.code k Instr.End) ≡ store aim b s) (unsafe : safe_aim p aim ≡ false) where
  not_empty : (aim : Aim) → Fine p (store aim b s) → 1 ≤ length (set_of p aim s)
  not_empty (in_global g k w) f = omega arith
  not_empty (at_temp a w) f = good.some s f

  pub class_unsafe : unsafe_object (unsafe_sets p) (get_or (set_of p aim s) 0 0) ≡ true
  class_unsafe =
      let set : List ℕ = set_of p aim s in
      let named : unsafe_set p (store aim b s) ≡ set ∷ [] = ap (map (λ (u : Unsafe). u.set)) (unsafe_one p aim b s unsafe) in
      in_sets p (λ l. holds l (get_or set 0 0)) set p.code k in_code (ap (unsafe_set p) is ∙ named)
      (holds_at set 0 (not_empty aim (subst (Fine p) is (good.fines k in_code))))

-- ---- bytes

pub some_bytes : (aim : Aim) → 1 ≤ width_of aim
some_bytes (in_global g k one) = omega arith
some_bytes (in_global g k four) = omega arith
some_bytes (at_temp a one) = omega arith
some_bytes (at_temp a four) = omega arith

pub inside_is : (a n : ℕ) → 1 ≤ n → a + n ≤ memory_size → inside a n ≡ true
inside_is a n some fits =
    let e : eqb n 0 ≡ false = ne_eqb n 0 (λ q. omega arith) in
    rw (e, inside) (le-leb (a + n) memory_size fits)
