-- Labels that join what the chains join give 01's colors.
--
-- The label of an unsafe object is the lowest object of its class: the label is in the class, and no
-- object of the class has a label above its own number. So an object is its own label exactly when it
-- is the lowest of a class, and the two counts agree.
use Prim.Native.Nat.{ℕ, zero, suc, ◌+◌, ◌<◌, ◌≤◌}
use native.Mathlib.Omega.{arith}
use native.Mathlib.Numerals.{add-one}
use mathlib.Core.Path.{◌≡◌, refl, sym, ◌∙◌, ap}
use mathlib.Core.Logic.{◌⊎◌, inl, inr, ⊎_elim, ◌≢◌}
use mathlib.Core.List.{List}
use mathlib.Core.Bool.{Bool, true, false}
use lib.ListN.{length, take}
use borrow.Author.Tests.{ne_eqb}
use Rattle.coloring.specs.Class.{unsafe_object, Chain}
use Rattle.coloring.specs.Color.{lowest, first, classes_below, color_of}
use Rattle.coloring.specs.Labels.{classes_in, color_by}
use Rattle.files.proofs.Tests.{no_test}
use Rattle.coloring.proofs.Chains.{class_is_chain, class_self, class_unsafe}
use Rattle.coloring.proofs.Colors.{lowest_upto, lowest_in, lowest_least, first_one, color_safe, color_unsafe}
use Rattle.coloring.proofs.Numbered.{classes_none, classes_own, classes_other, color_some, color_none}
use Rattle.coloring.proofs.Joining.{at, Sound, Together, below_or, equal_or}

first_zero : (sets : List (List ℕ)) (x : ℕ) → (unsafe_object sets x ≡ true → lowest sets x ≡ x → ⊥) → first sets x ≡ 0
first_zero sets x h = go (unsafe_object sets x) refl
  where
    go : (b : Bool) → unsafe_object sets x ≡ b → first sets x ≡ 0
    go true u = rw (u, first) (rw (ne_eqb (lowest sets x) x (h u)))
    go false u = rw (u, first)

pub unsafe_or : (sets : List (List ℕ)) (x : ℕ) → (unsafe_object sets x ≡ true) ⊎ (unsafe_object sets x ≡ false)
unsafe_or sets x = go (unsafe_object sets x) refl
  where
    go : (b : Bool) → unsafe_object sets x ≡ b → (unsafe_object sets x ≡ true) ⊎ (unsafe_object sets x ≡ false)
    go true u = inl u
    go false u = inr u

module _ (sets : List (List ℕ)) (l : List ℕ) (s : Sound sets l) (complete : (x y : ℕ) → Chain sets x y → Together l x y) (below : (x : ℕ) → unsafe_object sets x ≡ true → x < 400) where
  -- ---- labels

  label_unsafe : (x : ℕ) → x < 400 → at l x < 400 → unsafe_object sets x ≡ true
  label_unsafe x h b = class_unsafe sets x x ((class_is_chain sets x x).1 (s.chained x x h h b refl))

  unsafe_label : (x : ℕ) → unsafe_object sets x ≡ true → at l x < 400
  unsafe_label x u = (complete x x ((class_is_chain sets x x).0 (class_self sets x u))).0

  safe_label : (x : ℕ) → x < 400 → unsafe_object sets x ≡ false → 400 ≤ at l x
  safe_label x h u = ⊎_elim (λ b. no_test (label_unsafe x h b) u) (λ b. b) (below_or (at l x) 400)

  pub label_lowest : (x : ℕ) → unsafe_object sets x ≡ true → at l x ≡ lowest sets x
  label_lowest x u =
      let h : x < 400 = below x u in
      let b : at l x < 400 = unsafe_label x u in
      let c : Chain sets (at l x) x = s.chained (at l x) x b h (omega (arith, s.lowest.self x h b)) (s.lowest.self x h b) in
      let z : ℕ = lowest sets x in
      let t : Together l z x = complete z x ((class_is_chain sets z x).0 (lowest_in sets x u)) in
      omega (
        arith,
        lowest_least sets x (at l x) ((class_is_chain sets (at l x) x).1 c),
        s.lowest.low z (omega (arith, lowest_upto sets x)) t.0,
        t.1,
      )

  -- ---- the classes are counted

  -- each object is its own label where it is the lowest of a class
  own_first : (x : ℕ) → x < 400 → (at l x ≡ x → first sets x ≡ 1) × (at l x ≢ x → first sets x ≡ 0)
  own_first x h = (
    λ e. let u : unsafe_object sets x ≡ true = label_unsafe x h (omega (arith, e)) in first_one sets x u (sym (label_lowest x u) ∙ e),
    λ n. first_zero sets x (λ u e. n (label_lowest x u ∙ e)),
  )

  pub classes_are : (n : ℕ) → n ≤ 400 → classes_in (take n l) ≡ classes_below sets n
  unfolding classes_below
  classes_are zero h = classes_none
  classes_are (suc n) h =
      let inside : n < length l = omega (arith, s.wide) in
      ⊎_elim
      (λ e. omega (arith, rw add-one at (classes_own l n inside e), classes_are n (omega arith), (own_first n (omega arith)).0 e))
      (λ d. omega (arith, rw add-one at (classes_other l n inside d), classes_are n (omega arith), (own_first n (omega arith)).1 d))
      (equal_or (at l n) n)

  -- ---- the colors

  pub colors_are : (x : ℕ) → x < 400 → color_by l x ≡ color_of sets x
  colors_are x h =
      ⊎_elim
      (λ u.
      let e : at l x ≡ lowest sets x = label_lowest x u in
      color_some l x (unsafe_label x u)
      ∙ ap (λ (n : ℕ). 2 + n) (classes_are (at l x) (omega (arith, unsafe_label x u)) ∙ ap (classes_below sets) e)
      ∙ sym (color_unsafe sets x u))
      (λ u. color_none l x (safe_label x h u) ∙ sym (color_safe sets x u))
      (unsafe_or sets x)
