-- 01's colors: legal, as fine as any legal coloring, in order, and the only ones that are so.
--
-- An unsafe object has the same lowest object as all of its class (`lowest_same`), and the lowest
-- object is in the class itself (`lowest_in`). Between two different lowest objects the count of
-- classes rises (`count_rises`), so equal colors mean equal lowest objects, and those mean one class.
-- Two numberings in order agree by induction over the objects: at a lowest object each of the two
-- numbers is at most the other, because a smaller one would already stand below.
use Prim.Native.Nat.{ℕ, zero, suc, ◌+◌, ◌-◌, ◌<◌, ◌≤◌}
use native.Mathlib.Omega.{arith}
use mathlib.Core.Path.{◌≡◌, refl, sym, ◌∙◌, ap}
use mathlib.Core.Logic.{◌≢◌}
use mathlib.Core.List.{List}
use mathlib.Core.Bool.{Bool, true, false}
use lib.Dec.{eqb, ltb}
use borrow.Author.Tests.{eqb-true, eq-eqb, ltb-true, ltb-false}
use Rattle.coloring.specs.Class.{unsafe_object, Chain, last, link, same_class}
use Rattle.coloring.specs.Color.{Legal, Keeps, lowest_from, lowest, first, classes_below, color_of}
use Rattle.files.proofs.Tests.{no_test}
use Rattle.coloring.proofs.Chains.{class_is_chain, set_class, class_trans, class_sym, class_self, class_unsafe}

module _ (sets : List (List ℕ)) where
  -- ---- the lowest object of a class

  from_upto : (left x from : ℕ) → lowest_from left sets x from ≤ from + left
  unfolding lowest_from
  from_upto zero x from = omega arith
  from_upto (suc left) x from = go (same_class sets from x) refl (from_upto left x (from + 1))
    where
      go : (b : Bool) → same_class sets from x ≡ b → lowest_from left sets x (from + 1) ≤ from + 1 + left → lowest_from (suc left) sets x from ≤ from + suc left
      go true e rest = rw (e, lowest_from) (omega arith)
      go false e rest = rw (e, lowest_from) (omega arith)

  -- x itself is the last that is looked at
  from_in : (left x from : ℕ) → from + left ≡ x → same_class sets x x ≡ true → same_class sets (lowest_from left sets x from) x ≡ true
  unfolding lowest_from
  from_in zero x from e h = let q : from ≡ x = omega arith in rw q h
  from_in (suc left) x from e h = go (same_class sets from x) refl (from_in left x (from + 1) (omega arith) h)
    where
      go : (b : Bool) → same_class sets from x ≡ b → same_class sets (lowest_from left sets x (from + 1)) x ≡ true → same_class sets (lowest_from (suc left) sets x from) x ≡ true
      go true f rest = rw (f, lowest_from) f
      go false f rest = rw (f, lowest_from) rest

  from_least : (left x from y : ℕ) → from ≤ y → from + left ≡ x → same_class sets y x ≡ true → lowest_from left sets x from ≤ y
  unfolding lowest_from
  from_least zero x from y l e h = l
  from_least (suc left) x from y l e h = go (same_class sets from x) refl (λ l'. from_least left x (from + 1) y l' (omega arith) h)
    where
      further : same_class sets from x ≡ false → from + 1 ≤ y
      further f = go' (eqb from y) refl
        where
          go' : (b : Bool) → eqb from y ≡ b → from + 1 ≤ y
          go' true q = let p : from ≡ y = eqb-true from y q in no_test h (rw p at f)
          go' false q = let p : from ≢ y = borrow.Author.Tests.eqb-false from y q in omega arith

      go : (b : Bool) → same_class sets from x ≡ b → (from + 1 ≤ y → lowest_from left sets x (from + 1) ≤ y) → lowest_from (suc left) sets x from ≤ y
      go true f rest = rw (f, lowest_from) l
      go false f rest = rw (f, lowest_from) (rest (further f))

  pub lowest_upto : (x : ℕ) → lowest sets x ≤ x
  lowest_upto x = omega (arith, from_upto x x 0)

  pub lowest_in : (x : ℕ) → unsafe_object sets x ≡ true → same_class sets (lowest sets x) x ≡ true
  lowest_in x h = from_in x x 0 (omega arith) (class_self sets x h)

  pub lowest_least : (x y : ℕ) → same_class sets y x ≡ true → lowest sets x ≤ y
  lowest_least x y h = from_least x x 0 y (omega arith) (omega arith) h

  pub lowest_same : (x y : ℕ) → same_class sets x y ≡ true → lowest sets x ≡ lowest sets y
  lowest_same x y h =
      let ux : unsafe_object sets x ≡ true = class_unsafe sets x y h in
      let uy : unsafe_object sets y ≡ true = class_unsafe sets y x (class_sym sets x y h) in
      let a : lowest sets x ≤ lowest sets y =
      lowest_least x (lowest sets y) (class_trans sets (lowest sets y) y x (lowest_in y uy) (class_sym sets x y h))
      in
      let b : lowest sets y ≤ lowest sets x =
      lowest_least y (lowest sets x) (class_trans sets (lowest sets x) x y (lowest_in x ux) h)
      in
      omega arith

  pub lowest_unsafe : (x : ℕ) → unsafe_object sets x ≡ true → unsafe_object sets (lowest sets x) ≡ true
  lowest_unsafe x h = class_unsafe sets (lowest sets x) x (lowest_in x h)

  -- ---- counting the classes

  pub first_one : (x : ℕ) → unsafe_object sets x ≡ true → lowest sets x ≡ x → first sets x ≡ 1
  first_one x u e = rw (u, first) (rw (eq-eqb (lowest sets x) x e))

  pub first_of : (x : ℕ) → unsafe_object sets x ≡ true → first sets (lowest sets x) ≡ 1
  first_of x u = first_one (lowest sets x) (lowest_unsafe x u) (lowest_same (lowest sets x) x (lowest_in x u))

  pub count_grows : (n k : ℕ) → classes_below sets n ≤ classes_below sets (n + k)
  unfolding classes_below
  count_grows n zero = let e : n + 0 ≡ n = omega arith in rw e (omega arith)
  count_grows n (suc k) = let e : n + suc k ≡ suc (n + k) = omega arith in rw e (omega (arith, count_grows n k))

  pub count_rises : (x n : ℕ) → first sets x ≡ 1 → x < n → classes_below sets x < classes_below sets n
  unfolding classes_below
  count_rises x n f l =
      let e : n ≡ suc x + (n - suc x) = omega arith in
      let g : classes_below sets (suc x) ≤ classes_below sets n = rw e (count_grows (suc x) (n - suc x)) in
      omega (arith, f)

  -- ---- colors

  pub color_safe : (x : ℕ) → unsafe_object sets x ≡ false → color_of sets x ≡ 0
  unfolding color_of
  color_safe x h = rw (h, color_of)

  pub color_unsafe : (x : ℕ) → unsafe_object sets x ≡ true → color_of sets x ≡ 2 + classes_below sets (lowest sets x)
  unfolding color_of
  color_unsafe x h = rw (h, color_of)

  pub color_low : (x : ℕ) → unsafe_object sets x ≡ true → 2 ≤ color_of sets x
  color_low x h = omega (arith, color_unsafe x h)

  pub color_together : (x y : ℕ) → same_class sets x y ≡ true → color_of sets x ≡ color_of sets y
  color_together x y h =
      let ux : unsafe_object sets x ≡ true = class_unsafe sets x y h in
      let uy : unsafe_object sets y ≡ true = class_unsafe sets y x (class_sym sets x y h) in
      color_unsafe x ux ∙ ap (λ (l : ℕ). 2 + classes_below sets l) (lowest_same x y h) ∙ sym (color_unsafe y uy)

  -- an object with an unsafe object's color is unsafe
  pub color_unsafe_too : (x y : ℕ) → unsafe_object sets x ≡ true → color_of sets x ≡ color_of sets y → unsafe_object sets y ≡ true
  color_unsafe_too x y u e = go (unsafe_object sets y) refl
    where
      go : (b : Bool) → unsafe_object sets y ≡ b → unsafe_object sets y ≡ true
      go true h = h
      go false h = absurd (omega (arith, color_low x u, color_safe y h, e))

  pub color_apart : (x y : ℕ) → unsafe_object sets x ≡ true → color_of sets x ≡ color_of sets y → same_class sets x y ≡ true
  color_apart x y u e =
      let v : unsafe_object sets y ≡ true = color_unsafe_too x y u e in
      let c : classes_below sets (lowest sets x) ≡ classes_below sets (lowest sets y) = omega (arith, color_unsafe x u, color_unsafe y v, e) in
      let l : lowest sets x ≡ lowest sets y = go (ltb (lowest sets x) (lowest sets y)) refl (ltb (lowest sets y) (lowest sets x)) refl c v in
      class_trans sets x (lowest sets x) y (class_sym sets (lowest sets x) x (lowest_in x u)) (rw l (lowest_in y v))
    where
      go : (b : Bool) → ltb (lowest sets x) (lowest sets y) ≡ b → (d : Bool) → ltb (lowest sets y) (lowest sets x) ≡ d
          → classes_below sets (lowest sets x) ≡ classes_below sets (lowest sets y) → unsafe_object sets y ≡ true → lowest sets x ≡ lowest sets y
      go true p d q c v = absurd (omega (arith, count_rises (lowest sets x) (lowest sets y) (first_of x u) (ltb-true (lowest sets x) (lowest sets y) p), c))
      go false p true q c v = absurd (omega (arith, count_rises (lowest sets y) (lowest sets x) (first_of y v) (ltb-true (lowest sets y) (lowest sets x) q), c))
      go false p false q c v = omega (arith, ltb-false (lowest sets x) (lowest sets y) p, ltb-false (lowest sets y) (lowest sets x) q)

  -- where every unsafe object is below n and at most 254 classes are, a color fits a byte
  pub color_high : (n : ℕ) → classes_below sets n ≤ 254 → ((x : ℕ) → unsafe_object sets x ≡ true → x < n) → (x : ℕ) → color_of sets x ≤ 255
  color_high n few below x = go (unsafe_object sets x) refl
    where
      go : (b : Bool) → unsafe_object sets x ≡ b → color_of sets x ≤ 255
      go true u =
          omega (
            arith,
            color_unsafe x u,
            count_rises (lowest sets x) n (first_of x u) (omega (arith, below x u, lowest_upto x)),
          )
      go false u = omega (arith, color_safe x u)

  -- ---- the coloring is legal, and none that is legal tells more objects apart

  pub coloring_is_legal : Legal sets (color_of sets)
  coloring_is_legal =
      record {
        safe = color_safe;
        high = color_low;
        shared = λ at x y l p q. color_together x y (set_class sets at x y l p q);
      }

  legal_chain : (number : ℕ → ℕ) → Legal sets number → {x y : ℕ} → Chain sets x y → number x ≡ number y
  legal_chain number g {x} {y} (last n) = g.shared n.at x y n.inside n.left n.right
  legal_chain number g {x} {y = z} (link {y} n c) =
      g.shared n.at x y n.inside n.left n.right ∙ legal_chain number g c

  pub none_finer : (number : ℕ → ℕ) → Legal sets number → (x y : ℕ) → color_of sets x ≡ color_of sets y → number x ≡ number y
  none_finer number g x y e = go (unsafe_object sets x) refl (unsafe_object sets y) refl
    where
      go : (b : Bool) → unsafe_object sets x ≡ b → (d : Bool) → unsafe_object sets y ≡ d → number x ≡ number y
      go true u d v = legal_chain number g ((class_is_chain sets x y).0 (color_apart x y u e))
      go false u true v = absurd (omega (arith, color_low y v, color_safe x u, e))
      go false u false v = g.safe x u ∙ sym (g.safe y v)

  -- 0 on the safe objects, and equal colors exactly where a chain joins two unsafe ones
  pub colors_keep : Keeps sets (color_of sets)
  colors_keep =
      record {
        safe = color_safe;
        together = λ x y c. color_together x y ((class_is_chain sets x y).1 c);
        apart = λ x y u e. (class_is_chain sets x y).0 (color_apart x y u e);
      }
