-- 01's colors are numbered in order, and no other numbers are.
--
-- Two numberings agree by induction over the objects. A safe object has 0 in both. An object that is
-- not the lowest of its class has the number of the lowest, which stands below it. At the lowest
-- object each of the two numbers is at most the other: were the second smaller, the first would have
-- it at an object below, where the second has it too, and there the second's numbers are smaller.
use Prim.Native.Nat.{ℕ, zero, suc, ◌+◌, ◌-◌, ◌<◌, ◌≤◌}
use native.Mathlib.Omega.{arith}
use mathlib.Core.Path.{◌≡◌, refl, sym, ◌∙◌, ap}
use mathlib.Core.Logic.{◌⊎◌, inl, inr}
use mathlib.Core.List.{List}
use mathlib.Core.Bool.{Bool, true, false}
use lib.Dec.{eqb, ltb}
use borrow.Author.Tests.{eqb-true, eqb-false, ltb-true, ltb-false}
use Rattle.coloring.specs.Class.{unsafe_object, Chain}
use Rattle.coloring.specs.Color.{lowest, first, classes_below, color_of, IsLowest, InOrder, Numbering}
use Rattle.coloring.proofs.Chains.{class_is_chain}
use Rattle.coloring.proofs.Colors.{lowest_upto, lowest_in, lowest_least, first_one, first_of, count_rises, color_safe, color_unsafe, color_low, colors_keep}

module _ (sets : List (List ℕ)) where
  -- ---- the lowest object, as a fact and as a number

  pub is_lowest : (x : ℕ) → unsafe_object sets x ≡ true → lowest sets x ≡ x → IsLowest sets x
  is_lowest x u e =
      record { unsafe = u; least = λ y c. omega (arith, lowest_least sets x y ((class_is_chain sets y x).1 c), e) }

  pub lowest_itself : (x : ℕ) → IsLowest sets x → lowest sets x ≡ x
  lowest_itself x h =
      omega (
        arith,
        lowest_upto sets x,
        h.least (lowest sets x) ((class_is_chain sets (lowest sets x) x).0 (lowest_in sets x h.unsafe)),
      )

  pub first_cases : (x : ℕ) → (first sets x ≡ 0) ⊎ ((unsafe_object sets x ≡ true) × (lowest sets x ≡ x))
  first_cases x = go (unsafe_object sets x) refl (eqb (lowest sets x) x) refl
    where
      go : (b : Bool) → unsafe_object sets x ≡ b → (d : Bool) → eqb (lowest sets x) x ≡ d → (first sets x ≡ 0) ⊎ ((unsafe_object sets x ≡ true) × (lowest sets x ≡ x))
      go true u true e = inr (u, eqb-true (lowest sets x) x e)
      go true u false e = inl (rw (u, first) (rw e))
      go false u d e = inl (rw (u, first))

  -- every number below the count of classes is the count at some class's lowest object
  pub count_at : (n k : ℕ) → k < classes_below sets n → (y : ℕ) × (y < n) × (unsafe_object sets y ≡ true) × (lowest sets y ≡ y) × (classes_below sets y ≡ k)
  unfolding classes_below
  count_at zero k l = absurd (omega arith)
  count_at (suc n) k l = go (ltb k (classes_below sets n)) refl (count_at n k) (first_cases n)
    where
      go : (b : Bool) → ltb k (classes_below sets n) ≡ b
          → (k < classes_below sets n → (y : ℕ) × (y < n) × (unsafe_object sets y ≡ true) × (lowest sets y ≡ y) × (classes_below sets y ≡ k))
          → (first sets n ≡ 0) ⊎ ((unsafe_object sets n ≡ true) × (lowest sets n ≡ n))
          → (y : ℕ) × (y < suc n) × (unsafe_object sets y ≡ true) × (lowest sets y ≡ y) × (classes_below sets y ≡ k)
      go true e rest f =
          let r : (y : ℕ) × (y < n) × (unsafe_object sets y ≡ true) × (lowest sets y ≡ y) × (classes_below sets y ≡ k) = rest (ltb-true k (classes_below sets n) e) in
          (r.0, omega (arith, r.1), r.2, r.3, r.4)
      go false e rest (inl z) = absurd (omega (arith, ltb-false k (classes_below sets n) e, z, l))
      go false e rest (inr u) =
          (n, omega arith, u.0, u.1, omega (arith, ltb-false k (classes_below sets n) e, first_one sets n u.0 u.1, l))

  -- ---- 01's colors are in order

  color_lowest : (x : ℕ) → unsafe_object sets x ≡ true → lowest sets x ≡ x → color_of sets x ≡ 2 + classes_below sets x
  color_lowest x u e = color_unsafe sets x u ∙ ap (λ (l : ℕ). 2 + classes_below sets l) e

  color_rising : (x y : ℕ) → IsLowest sets x → y < x → color_of sets y < color_of sets x
  color_rising x y h l = go (unsafe_object sets y) refl
    where
      cx : color_of sets x ≡ 2 + classes_below sets x
      cx = color_lowest x h.unsafe (lowest_itself x h)

      go : (b : Bool) → unsafe_object sets y ≡ b → color_of sets y < color_of sets x
      go false u = omega (arith, color_safe sets y u, cx)
      go true u =
          omega (
            arith,
            color_unsafe sets y u,
            cx,
            count_rises sets (lowest sets y) x (first_of sets y u) (omega (arith, lowest_upto sets y, l)),
          )

  color_gapless : (x n : ℕ) → IsLowest sets x → 2 ≤ n → n ≤ color_of sets x → (y : ℕ) × (y ≤ x) × (color_of sets y ≡ n)
  color_gapless x n h low high = go (eqb n (color_of sets x)) refl
    where
      cx : color_of sets x ≡ 2 + classes_below sets x
      cx = color_lowest x h.unsafe (lowest_itself x h)

      go : (b : Bool) → eqb n (color_of sets x) ≡ b → (y : ℕ) × (y ≤ x) × (color_of sets y ≡ n)
      go true e = (x, omega arith, sym (eqb-true n (color_of sets x) e))
      go false e =
          let ne : n ≡ color_of sets x → ⊥ = eqb-false n (color_of sets x) e in
          let k : n - 2 < classes_below sets x = omega (arith, cx, ne) in
          let r : (y : ℕ) × (y < x) × (unsafe_object sets y ≡ true) × (lowest sets y ≡ y) × (classes_below sets y ≡ n - 2) = count_at x (n - 2) k in
          (r.0, omega (arith, r.1), omega (arith, color_lowest r.0 r.2 r.3, r.4))

  pub colors_in_order : InOrder sets (color_of sets)
  colors_in_order =
      record { high = λ x h. color_low sets x h.unsafe; rising = color_rising; gapless = color_gapless }

  pub colors_are_numbering : Numbering sets (color_of sets)
  colors_are_numbering =
      record {
        keeps = colors_keep sets;
        ordered = colors_in_order;
      }

  -- ---- two numberings agree

  module _ (f g : ℕ → ℕ) (hf : Numbering sets f) (hg : Numbering sets g) where
    -- at a lowest object, where the numbers below agree
    at_most : (x : ℕ) → IsLowest sets x → ((y : ℕ) → y < x → f y ≡ g y) → f x ≤ g x
    at_most x h below = go (ltb (g x) (f x)) refl
      where
        go : (b : Bool) → ltb (g x) (f x) ≡ b → f x ≤ g x
        go false e = ltb-false (g x) (f x) e
        go true e =
            let l : g x < f x = ltb-true (g x) (f x) e in
            let r : (y : ℕ) × (y ≤ x) × (f y ≡ g x) = hf.ordered.gapless x (g x) h (hg.ordered.high x h) (omega arith) in
            at_y r.0 r.1 r.2 l (eqb r.0 x) refl
          where
            at_y : (y : ℕ) → y ≤ x → f y ≡ g x → g x < f x → (b : Bool) → eqb y x ≡ b → f x ≤ g x
            at_y y u q l true p = let z : y ≡ x = eqb-true y x p in let w : f x ≡ g x = rw z at q in omega arith
            at_y y u q l false p =
                let ne : y ≡ x → ⊥ = eqb-false y x p in
                let v : y < x = omega (arith, ne) in
                absurd (omega (arith, below y v, hg.ordered.rising x y h v, q))

module _ (sets : List (List ℕ)) (f g : ℕ → ℕ) (hf : Numbering sets f) (hg : Numbering sets g) where
  same_at : (x : ℕ) → ((y : ℕ) → y < x → f y ≡ g y) → f x ≡ g x
  same_at x below = go (unsafe_object sets x) refl (eqb (lowest sets x) x) refl
    where
      go : (b : Bool) → unsafe_object sets x ≡ b → (d : Bool) → eqb (lowest sets x) x ≡ d → f x ≡ g x
      go false u d e = hf.keeps.safe x u ∙ sym (hg.keeps.safe x u)
      go true u true e =
          let h : IsLowest sets x = is_lowest sets x u (eqb-true (lowest sets x) x e) in
          omega (arith, at_most sets f g hf hg x h below, at_most sets g f hg hf x h (λ y l. sym (below y l)))
      go true u false e =
          let ne : lowest sets x ≡ x → ⊥ = eqb-false (lowest sets x) x e in
          let l : lowest sets x < x = omega (arith, lowest_upto sets x, ne) in
          let c : Chain sets (lowest sets x) x = (class_is_chain sets (lowest sets x) x).0 (lowest_in sets x u) in
          sym (hf.keeps.together (lowest sets x) x c) ∙ below (lowest sets x) l ∙ hg.keeps.together (lowest sets x) x c

  same_below : (n x : ℕ) → x < n → f x ≡ g x
  same_below zero x l = absurd (omega arith)
  same_below (suc n) x l = same_at x (λ y m. same_below n y (omega arith))

  pub same_numbers : (x : ℕ) → f x ≡ g x
  same_numbers x = same_below (suc x) x (omega arith)

-- a routine has one coloring
pub one_coloring : (sets : List (List ℕ)) (number : ℕ → ℕ) → Numbering sets number → (x : ℕ) → number x ≡ color_of sets x
one_coloring sets number h = same_numbers sets number (color_of sets) h (colors_are_numbering sets)
