-- In a routine that a file says, a store names an object of the file or a set of it; so its set is never
-- empty, and the set's first object, whose color its check has, is an unsafe object of the file.
use Prim.Native.Nat.{ℕ, ◌<◌}
use mathlib.Core.Path.{◌≡◌, ap}
use mathlib.Core.List.{List, [], ◌∷◌, ◌++◌, map}
use mathlib.Core.Bool.{true, false}
use lib.ListN.{length, get_or}
use Rattle.files.specs.Program.{Program}
use Rattle.opcodes.specs.View.{Aim, in_global, at_temp, store}
use Rattle.safety.specs.Unsafe.{safe_aim, set_of, Unsafe, unsafe_set}
use Rattle.safety.proofs.Stores.{unsafe_one}
use Rattle.coloring.specs.Class.{holds, unsafe_object}
use Rattle.coloring.proofs.Members.{some_here, holds_here, holds_at}
use Rattle.coloring.proofs.Bounds.{member_below}
use Rattle.files.proofs.GoodInstructions.{NamesAim}
use Rattle.files.proofs.RoundTrip.{Good, set_some}

module _ (p : Program) (good : Good 1 p) where
  pub first_held : (aim : Aim) (s : ℕ) → NamesAim p aim s → holds (set_of p aim s) (get_or (set_of p aim s) 0 0) ≡ true
  first_held (in_global g k w) s l = holds_here g []
  first_held (at_temp a w) s l = holds_at (get_or p.sets s []) 0 (set_some p good s l)

  pub first_below : (aim : Aim) (s : ℕ) → NamesAim p aim s → get_or (set_of p aim s) 0 0 < length p.objects
  first_below (in_global g k w) s l = l.0
  first_below (at_temp a w) s l =
      member_below p good s (get_or (get_or p.sets s []) 0 0) l (first_held (at_temp a w) s l)

  set_unsafe : (aim : Aim) (b s : ℕ) → safe_aim p aim ≡ false → unsafe_set p (store aim b s) ≡ set_of p aim s ∷ []
  set_unsafe aim b s e = ap (map (λ (u : Unsafe). u.set)) (unsafe_one p aim b s e)

  -- the first object of an unsafe store's set is unsafe
  pub store_unsafe : (aim : Aim) (b s : ℕ) (rest : List (List ℕ)) → NamesAim p aim s → safe_aim p aim ≡ false
      → unsafe_object (unsafe_set p (store aim b s) ++ rest) (get_or (set_of p aim s) 0 0) ≡ true
  store_unsafe aim b s rest g e =
      rw (set_unsafe aim b s e) (some_here (λ t. holds t (get_or (set_of p aim s) 0 0)) (set_of p aim s) rest (first_held aim s g))
