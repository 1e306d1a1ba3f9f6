-- Which stores are unsafe: one that is safe is nothing to the classes, and any other has its set.
use Prim.Native.Nat.{ℕ}
use mathlib.Core.Path.{◌≡◌, refl, ap}
use mathlib.Core.List.{List, [], ◌∷◌}
use mathlib.Core.Bool.{Bool, true, false}
use Rattle.files.specs.Program.{Program}
use Rattle.opcodes.specs.View.{Aim, View, act, jump, jump_if, store, check}
use Rattle.safety.specs.Unsafe.{safe_aim, set_of, Unsafe, unsafe_in}

-- an unsafe store, as it counts for the classes
abbrev pub unsafe_store : Program → Aim → (s : ℕ) → Unsafe
unsafe_store p aim s = record { aim = aim; set = set_of p aim s }

module _ (p : Program) where
  by_safety : (aim : Aim) (b s : ℕ) {safe : Bool} → safe_aim p aim ≡ safe → unsafe_in p (store aim b s) ≡ elim safe [ true ↦ [] | false ↦ unsafe_store p aim s ∷ [] ]
  by_safety aim b s e = ap (λ (safe : Bool). elim safe as (λ _. List Unsafe) [ true ↦ [] | false ↦ unsafe_store p aim s ∷ [] ]) e

  pub safe_none : (aim : Aim) (b s : ℕ) → safe_aim p aim ≡ true → unsafe_in p (store aim b s) ≡ []
  safe_none aim b s e = by_safety aim b s e

  pub unsafe_one : (aim : Aim) (b s : ℕ) → safe_aim p aim ≡ false → unsafe_in p (store aim b s) ≡ unsafe_store p aim s ∷ []
  unsafe_one aim b s e = by_safety aim b s e

  -- what an instruction is to the classes: nothing, or an unsafe store
  pub data Stores (v : View) : Type 0 where
    nothing : unsafe_in p v ≡ [] → Stores v
    unsafe : (aim : Aim) (b s : ℕ) → v ≡ store aim b s → safe_aim p aim ≡ false → unsafe_in p v ≡ unsafe_store p aim s ∷ [] → Stores v

  pub stores : (v : View) → Stores v
  stores (act x) = nothing refl
  stores (jump t) = nothing refl
  stores (jump_if a t) = nothing refl
  stores (store aim b s) = go (safe_aim p aim) refl
    where
      go : (safe : Bool) → safe_aim p aim ≡ safe → Stores (store aim b s)
      go true e = nothing (safe_none aim b s e)
      go false e = unsafe aim b s refl e (unsafe_one aim b s e)
  stores (check aim c) = nothing refl
