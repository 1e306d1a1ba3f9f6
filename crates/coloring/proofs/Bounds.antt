-- What a routine that a file can say keeps inside its bounds: its sets' members and the objects and sets
-- that its instructions name; and that the arrays hold all of it.
use Prim.Native.Nat.{ℕ, ◌+◌, ◌<◌, ◌≤◌}
use native.Mathlib.Omega.{arith}
use mathlib.Core.Path.{◌≡◌, refl}
use mathlib.Core.Logic.{⊎_elim}
use mathlib.Core.List.{List, [], ◌∷◌, ◌++◌}
use mathlib.Core.Bool.{Bool, true, false}
use lib.ListN.{length, get_or, length-append}
use lib.Dec.{ltb, leb}
use borrow.Author.Tests.{ltb-true, leb-true}
use Rattle.numbers.specs.Number.{spell, groups}
use Rattle.opcodes.specs.declared.Instr.{Instr}
use Rattle.opcodes.specs.Ranges.{within}
use Rattle.files.specs.Program.{Program}
use Rattle.files.specs.Writing.{spell_file, spell_all, spell_object, spell_set, spell_instr, both, every, rising, good_set, good_instr, scope_of}
use Rattle.opcodes.specs.View.{in_global, at_temp, View, act, jump, jump_if, store, check, view, bytes, extent}
use Rattle.files.specs.Held.{joined}
use Rattle.files.proofs.Tests.{no_test, both_left, both_right, every_head, every_tail}
use Rattle.files.proofs.GoodInstructions.{Names, names}
use Rattle.files.proofs.RoundTrip.{Good, set_good}
use Rattle.safety.specs.declared.Nature.{Nature}
use Rattle.safety.specs.declared.Nature.TheVariants as nature
use Rattle.safety.specs.Nature.{put_nature, nature_of}
use Rattle.coloring.specs.Class.{holds, unsafe_object}
use Rattle.safety.specs.Unsafe.{unsafe_sets}
use Rattle.coloring.proofs.Members.{holds_cases, holds_nil}
use Rattle.coloring.proofs.Chains.{some_place}
use Rattle.coloring.proofs.Marking.{Named, here, there, sizes, From, own, listed, set_from, place_in}

-- ---- the sets' members

rising_below : (objects low : ℕ) (t : List ℕ) (x : ℕ) → rising objects low t ≡ true → holds t x ≡ true → x < objects
unfolding rising
rising_below objects low [] x h k = holds_nil x k
rising_below objects low (n ∷ ns) x h k = go (both (leb low n) (ltb n objects)) refl (λ g q. rising_below objects (n + 1) ns x g q)
  where
    go : (b : Bool) → both (leb low n) (ltb n objects) ≡ b → (rising objects (n + 1) ns ≡ true → holds ns x ≡ true → x < objects) → x < objects
    go true e rest =
        ⊎_elim
        (λ (q : x ≡ n). rw q (ltb-true n objects (both_right (leb low n) (ltb n objects) e)))
        (rest (rw (e, rising) at h))
        (holds_cases x n ns k)
    go false e rest = no_test (rw (e, rising) at h) refl

set_below : (objects : ℕ) (t : List ℕ) (x : ℕ) → good_set objects t ≡ true → holds t x ≡ true → x < objects
set_below objects t x h = rising_below objects 0 t x (both_right (within 1 objects (length t)) (rising objects 0 t) h)

module _ (p : Program) (good : Good 1 p) where
  abbrev pub objects : ℕ
  objects = length p.objects

  pub sets_most : length p.sets ≤ 400
  sets_most = leb-true (length p.sets) 400 (both_left (leb (length p.sets) 400) (every (good_set objects) p.sets) good.sets)

  pub member_below : (k x : ℕ) → k < length p.sets → holds (get_or p.sets k []) x ≡ true → x < objects
  member_below k x h = set_below objects (get_or p.sets k []) x (set_good p good k h)

  -- ---- what the instructions name

  abbrev Bound : Nature → Type 0
  Bound nature.Safe = Unit {0}
  Bound (nature.Own g) = g < objects
  Bound (nature.Listed s) = s < length p.sets
  Bound (nature.Jump t) = Unit {0}
  Bound nature.Check = Unit {0}
  Bound nature.Other = Unit {0}

  put_bound : (g k n : ℕ) → g < objects → Bound (put_nature (sizes p g) g k n)
  put_bound g k n h = go (leb (k + n) (extent (sizes p g))) refl
    where
      go : (b : Bool) → leb (k + n) (extent (sizes p g)) ≡ b → Bound (put_nature (sizes p g) g k n)
      go true e = rw (e, put_nature) tt
      go false e = rw (e, put_nature) h

  nature_bound : (v : View) → Names p v → Bound (nature_of (sizes p) v)
  nature_bound (act x) n = tt
  nature_bound (jump t) n = tt
  nature_bound (jump_if a t) n = tt
  nature_bound (store (in_global g k w) b s) n = put_bound g k (bytes w) n.0
  nature_bound (store (at_temp a w) b s) n = n
  nature_bound (check aim c) n = tt

  named_bound : (n : Nature) (code : List Instr) → every (good_instr (scope_of 1 p)) code ≡ true → Named (sizes p) n code → Bound n
  named_bound n [] g h = elim h [ ]
  named_bound n (i ∷ is) g (here q) = rw q at (nature_bound (view i) (names p i (every_head (good_instr (scope_of 1 p)) i is g)))
  named_bound n (i ∷ is) g (there k) = named_bound n is (every_tail (good_instr (scope_of 1 p)) i is g) k

  pub own_below : (g : ℕ) → Named (sizes p) (nature.Own g) p.code → g < objects
  own_below g h = named_bound (nature.Own g) p.code good.code h

  pub listed_below : (s : ℕ) → Named (sizes p) (nature.Listed s) p.code → s < length p.sets
  listed_below s h = named_bound (nature.Listed s) p.code good.code h

  -- an unsafe object is one of the routine's
  from_below : (t : List ℕ) → From p p.code t → (x : ℕ) → holds t x ≡ true → x < objects
  from_below t (own {g} h) x k = ⊎_elim (λ (e : x ≡ g). rw e (own_below g h)) (λ q. holds_nil x q) (holds_cases x g [] k)
  from_below t (listed {s} h) x k = member_below s x (listed_below s h) k

  pub unsafe_below : (x : ℕ) → unsafe_object (unsafe_sets p) x ≡ true → x < objects
  unsafe_below x u =
      let r = some_place (λ t. holds t x) (unsafe_sets p) u in
      from_below (get_or (unsafe_sets p) r.0 []) (set_from p p.code (place_in (unsafe_sets p) r.0 r.1)) x r.2

-- ---- the members fit their array: each takes a byte of the file at least

spell_some : (n : ℕ) → 1 ≤ length (spell n)
unfolding groups
spell_some n = go (ltb n 128) refl
  where
    go : (b : Bool) → ltb n 128 ≡ b → 1 ≤ length (groups 5 n)
    go true e = rw (e, groups) (omega arith)
    go false e = rw (e, groups) (omega arith)

spelled_members : (t : List ℕ) → length t ≤ length (spell_all spell t)
unfolding spell_all
spelled_members [] = omega arith
spelled_members (n ∷ t) = omega (arith, spell_some n, spelled_members t, length-append (spell n) (spell_all spell t))

spelled_sets : (ss : List (List ℕ)) → length (joined ss) ≤ length (spell_all spell_set ss)
unfolding spell_all joined
spelled_sets [] = omega arith
spelled_sets (t ∷ ss) =
    omega (
      arith,
      spelled_members t,
      spelled_sets ss,
      length-append t (joined ss),
      length-append (spell (length t)) (spell_all spell t),
      length-append (spell (length t) ++ spell_all spell t) (spell_all spell_set ss),
    )

pub joined_most : (p : Program) → Good 1 p → length (joined p.sets) ≤ 16384
unfolding spell_file
joined_most p good =
    let code : List ℕ = spell (length p.code) ++ spell_all (spell_instr 1) p.code in
    let sets : List ℕ = spell (length p.sets) ++ spell_all spell_set p.sets in
    let objects : List ℕ = spell_all (spell_object 1) p.objects in
    omega (
      arith,
      good.short,
      spelled_sets p.sets,
      length-append (spell 1) (spell (length p.objects) ++ (objects ++ (sets ++ code))),
      length-append (spell (length p.objects)) (objects ++ (sets ++ code)),
      length-append objects (sets ++ code),
      length-append sets code,
      length-append (spell (length p.sets)) (spell_all spell_set p.sets),
    )
