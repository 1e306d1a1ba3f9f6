-- Numbering the classes and giving the objects their colors, turn by turn.
use Rattle.std.specs.Prelude.{ℕ, zero, suc, ◌+◌, ◌<◌, ◌≤◌, ◌≡◌, ◌≢◌, ◌==◌, Bool, true, false, cond, List, [], ◌∷◌, ◌++◌, length, get_or, take, drop, set, ltb}
use Rattle.std.specs.List.{enumerate_from}
use Rattle.std.proofs.Common.{◌∙◌, refl, sym, ap, arith, add-one, add-zero, zero-add, ⊎_elim}
use Rattle.std.proofs.Math.ListN.{get_or-eq_default, get_or-append}
use Rattle.std.proofs.lemmas.List.{length-take, length-drop, length-take-le, take-take, get_or-take, length-append}
use Rattle.std.proofs.lemmas.List.FromFn.{length-enumerate_from, get_or-enumerate_from}
use Rattle.std.proofs.lemmas.List.Sums.{count_by_more_yes, count_by_more_no, sum_by_more_le}
use borrow.Author.Tests.{eq-eqb, ne_eqb, lt-ltb, le-ltb}
use Rattle.opcodes.specs.declared.Object.{Object}
use Rattle.files.specs.Held.{blank}
use Rattle.coloring.specs.Colored.{tinted}
use Rattle.coloring.specs.Labels.{classes_in, color_by, Lowest}
use Rattle.coloring.proofs.Tinted.{tinted_length, tinted_at}
use Rattle.coloring.proofs.Joining.{below_or}

-- ---- the count of the classes

pub classes_none : classes_in [] ≡ 0
unfolding classes_in
classes_none = refl

take-enumerate : (n i : ℕ) (xs : List ℕ) → take i (enumerate_from n xs) ≡ enumerate_from n (take i xs)
take-enumerate n zero xs = refl
take-enumerate n (suc i) [] = refl
take-enumerate n (suc i) (x ∷ xs) = ap (λ (l : List (ℕ × ℕ)). (n, x) ∷ l) (take-enumerate (n + 1) i xs)

module _ (labels : List ℕ) (x : ℕ) where
  -- the test of `classes_in` at x
  own_at : (b : Bool) → x < length labels → (get_or labels x 0 == x) ≡ b
      → ◌≡◌ {A = Bool} ((get_or (enumerate_from 0 labels) x (0, 0)).1 == (get_or (enumerate_from 0 labels) x (0, 0)).0) b
  own_at b h e = rw (get_or-enumerate_from 0 labels x (0, 0) h, zero-add) e

  -- one object more is its own label, or is not
  pub classes_own : x < length labels → get_or labels x 0 ≡ x → classes_in (take (x + 1) labels) ≡ classes_in (take x labels) + 1
  unfolding classes_in
  classes_own h e =
      rw (← take-enumerate 0 (x + 1) labels, ← take-enumerate 0 x labels)
      (count_by_more_yes (λ p. p.1 == p.0) (enumerate_from 0 labels) x (0, 0) (rw length-enumerate_from h) (own_at true h (eq-eqb (get_or labels x 0) x e)))

  pub classes_other : x < length labels → get_or labels x 0 ≢ x → classes_in (take (x + 1) labels) ≡ classes_in (take x labels)
  unfolding classes_in
  classes_other h e =
      rw (← take-enumerate 0 (x + 1) labels, ← take-enumerate 0 x labels)
      (count_by_more_no (λ p. p.1 == p.0) (enumerate_from 0 labels) x (0, 0) (rw length-enumerate_from h) (own_at false h (ne_eqb (get_or labels x 0) x e)))

-- a class more below n than below x, where x is its own label
pub classes_room : (labels : List ℕ) (x n : ℕ) → x < n → n ≤ length labels → get_or labels x 0 ≡ x → classes_in (take x labels) + 1 ≤ classes_in (take n labels)
unfolding classes_in
classes_room labels x n h w e =
    let few : List ℕ = take n labels in
    let inside : x < length few = rw length-take (omega arith) in
    let own : ◌≡◌ {A = Bool} ((get_or (enumerate_from 0 few) x (0, 0)).1 == (get_or (enumerate_from 0 few) x (0, 0)).0) true =
    own_at few x true inside (eq-eqb (get_or few x 0) x (get_or-take n labels x 0 h ∙ e))
    in
    let before : take x (enumerate_from 0 few) ≡ enumerate_from 0 (take x labels) =
    take-enumerate 0 x few ∙ ap (enumerate_from 0) (take-take x n labels (omega arith))
    in
    rw (← before) (rw own at (sum_by_more_le (λ p. cond (p.1 == p.0) 1 0) (enumerate_from 0 few) x (0, 0) (rw length-enumerate_from inside)))

-- ---- the colors

abbrev pub painted : Object → (color : ℕ) → Object
painted o color = record { kind = o.kind; size = o.size; color = color }

painted_turn : (color : ℕ → ℕ) (from i : ℕ) (xs : List Object) → i < length xs
    → set (tinted color from (take i xs) ++ drop i xs) i (painted (get_or (tinted color from (take i xs) ++ drop i xs) i blank) (color (from + i)))
    ≡ tinted color from (take (suc i) xs) ++ drop (suc i) xs
unfolding tinted
painted_turn color from i [] h = absurd (omega arith)
painted_turn color from zero (x ∷ xs) h = rw add-zero
painted_turn color from (suc i) (x ∷ xs) h =
    let e : from + suc i ≡ from + 1 + i = omega arith in
    ap (λ (l : List Object). painted x (color from) ∷ l) (rw e (painted_turn color (from + 1) i xs (omega arith)))

-- the color of an object that has its color
painted_at : (color : ℕ → ℕ) (i k : ℕ) (xs : List Object) → i ≤ length xs → k < i → (get_or (tinted color 0 (take i xs) ++ drop i xs) k blank).color ≡ color k
painted_at color i k xs h l =
    let n : length (tinted color 0 (take i xs)) ≡ i = tinted_length color 0 (take i xs) ∙ length-take-le i xs h in
    ap (λ (o : Object). o.color) (get_or-append (tinted color 0 (take i xs)) (drop i xs) blank k (omega arith))
    ∙ tinted_at color 0 (take i xs) k (omega (arith, length-take-le i xs h))
    ∙ ap color (zero-add k)

-- the next object gets its color
painted_next : (color : ℕ → ℕ) (xs ys : List Object) (x c : ℕ) → x < length xs → ys ≡ tinted color 0 (take x xs) ++ drop x xs → c ≡ color x
    → set ys x (painted (get_or ys x blank) c) ≡ tinted color 0 (take (x + 1) xs) ++ drop (x + 1) xs
painted_next color xs ys x c h e k = rw (k, e, add-one) (rw zero-add at (painted_turn color 0 x xs h))

-- the color of the lowest object of a class, of another of the class, and of a safe object
module _ (labels : List ℕ) (x : ℕ) where
  pub color_some : get_or labels x 0 < 400 → color_by labels x ≡ 2 + classes_in (take (get_or labels x 0) labels)
  color_some h = rw (lt-ltb (get_or labels x 0) 400 h, color_by)

  color_own : x < 400 → get_or labels x 0 ≡ x → 2 + classes_in (take x labels) ≡ color_by labels x
  color_own h e = ap (λ (k : ℕ). 2 + classes_in (take k labels)) (sym e) ∙ sym (color_some (omega arith))

  color_shared : get_or labels (get_or labels x 0) 0 ≡ get_or labels x 0 → color_by labels (get_or labels x 0) ≡ color_by labels x
  color_shared e = ap (λ (k : ℕ). elim (ltb k 400) [ true ↦ 2 + classes_in (take k labels) | false ↦ 0 ]) e

  pub color_none : 400 ≤ get_or labels x 0 → color_by labels x ≡ 0
  color_none h = rw (le-ltb (get_or labels x 0) 400 h, color_by)

module _ (labels : List ℕ) (lowest : Lowest labels) (xs ys : List Object) (x : ℕ) (h : x < length ys) (few : length ys ≤ 400) (done : ys ≡ tinted (color_by labels) 0 (take x xs) ++ drop x xs) where
  wide : length ys ≡ length xs
  wide = rw done (simp (length-append, tinted_length, length-take, length-drop) (omega arith))

  next : (c : ℕ) → c ≡ color_by labels x → set ys x (painted (get_or ys x blank) c) ≡ tinted (color_by labels) 0 (take (x + 1) xs) ++ drop (x + 1) xs
  next c e = painted_next (color_by labels) xs ys x c (omega (arith, wide)) done e

  pub own_turn : (c : ℕ) → c ≡ 2 + classes_in (take x labels) → get_or labels x 0 ≡ x
      → set ys x (painted (get_or ys x blank) c) ≡ tinted (color_by labels) 0 (take (x + 1) xs) ++ drop (x + 1) xs
  own_turn c n e = next c (n ∙ color_own labels x (omega arith) e)

  shared : get_or labels x 0 ≢ x → (get_or ys (get_or labels x 0) blank).color ≡ color_by labels x
  shared n =
      ⊎_elim
      (λ b.
      let under : get_or labels x 0 < x = omega (arith, lowest.low x (omega arith) b, n) in
      ap (λ (l : List Object). (get_or l (get_or labels x 0) blank).color) done
      ∙ painted_at (color_by labels) x (get_or labels x 0) xs (omega (arith, wide)) under
      ∙ color_shared labels x (lowest.self x (omega arith) b))
      (λ b. ap (λ (o : Object). o.color) (get_or-eq_default ys blank (omega arith)) ∙ sym (color_none labels x b))
      (below_or (get_or labels x 0) 400)

  pub other_turn : get_or labels x 0 ≢ x
      → set ys x (painted (get_or ys x blank) (get_or ys (get_or labels x 0) blank).color) ≡ tinted (color_by labels) 0 (take (x + 1) xs) ++ drop (x + 1) xs
  other_turn n = next (get_or ys (get_or labels x 0) blank).color (shared n)
