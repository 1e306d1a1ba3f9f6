-- The rule as a Bool. Where a byte's color is that of each object that owns the byte, and at most 1
-- where none does, "the byte lies in a live object of this class" and "the byte has this color" are the
-- same test.
use Prim.Native.Nat.{ℕ, ◌+◌, ◌<◌, ◌≤◌}
use native.Mathlib.Omega.{arith}
use mathlib.Core.Path.{◌≡◌, refl, sym, ◌∙◌}
use mathlib.Core.List.{List, [], ◌∷◌, ◌++◌}
use mathlib.Core.Bool.{Bool, true, false, false≢true}
use lib.Dec.{eqb, leb, ltb}
use borrow.Author.Tests.{eq-eqb, ne_eqb, leb-true, ltb-true, le-leb, lt-ltb}
use Rattle.coloring.specs.Class.{unsafe_object, same_class}
use Rattle.plain.specs.Guards.{Exact}
use Rattle.plain.specs.Live.{Live, owns, some_live}

-- ---- what holds of each object of a list

abbrev pub Each : (Live → Type 0) → List Live → Type 0
Each P [] = Unit {0}
Each P (o ∷ os) = P o × Each P os

pub each_append : (P : Live → Type 0) (xs ys : List Live) → Each P xs → Each P ys → Each P (xs ++ ys)
each_append P [] ys f g = g
each_append P (x ∷ xs) ys f g = (f.0, each_append P xs ys f.1 g)

pub each_left : (P : Live → Type 0) (xs ys : List Live) → Each P (xs ++ ys) → Each P xs
each_left P [] ys f = tt
each_left P (x ∷ xs) ys f = (f.0, each_left P xs ys f.1)

pub each_right : (P : Live → Type 0) (xs ys : List Live) → Each P (xs ++ ys) → Each P ys
each_right P [] ys f = f
each_right P (x ∷ xs) ys f = each_right P xs ys f.1

pub each_map : (P Q : Live → Type 0) → ((o : Live) → P o → Q o) → (os : List Live) → Each P os → Each Q os
each_map P Q f [] e = tt
each_map P Q f (o ∷ os) e = (f o e.0, each_map P Q f os e.1)

-- ---- owning a byte

pub owns_is : (o : Live) (a : ℕ) → owns o a ≡ true → (o.start ≤ a) × (a < o.start + o.size)
owns_is o a = go (leb o.start a) refl
  where
    go : (b : Bool) → leb o.start a ≡ b → elim b [ true ↦ ltb a (o.start + o.size) | false ↦ false ] ≡ true
        → (o.start ≤ a) × (a < o.start + o.size)
    go true e f = (leb-true o.start a e, ltb-true a (o.start + o.size) f)
    go false e f = absurd (false≢true f)

pub owns_inside : (o : Live) (a : ℕ) → o.start ≤ a → a < o.start + o.size → owns o a ≡ true
owns_inside o a low high =
    let e : leb o.start a ≡ true = le-leb o.start a low in
    let f : ltb a (o.start + o.size) ≡ true = lt-ltb a (o.start + o.size) high in
    rw (e, f, owns)

pub owns_outside : (o : Live) (a : ℕ) → (o.start ≤ a → a < o.start + o.size → ⊥) → owns o a ≡ false
owns_outside o a out = go (owns o a) refl
  where
    go : (b : Bool) → owns o a ≡ b → owns o a ≡ false
    go true e = absurd (out (owns_is o a e).0 (owns_is o a e).1)
    go false e = e

-- ---- a color tells of which class a byte is

-- the color that was found at an address tells which object owns it
pub record Tells (color : ℕ → ℕ) (os : List Live) (found a : ℕ) : Type 0 where
  pub owned : Each (λ o. owns o a ≡ true → found ≡ color o.object) os
  pub clear : Each (λ o. owns o a ≡ false) os → found ≤ 1

pub tells_append : (color : ℕ → ℕ) (xs ys : List Live) (found a : ℕ)
    → Each (λ o. owns o a ≡ true → found ≡ color o.object) xs → Each (λ o. owns o a ≡ true → found ≡ color o.object) ys
    → (Each (λ o. owns o a ≡ false) xs → Each (λ o. owns o a ≡ false) ys → found ≤ 1) → Tells color (xs ++ ys) found a
tells_append color xs ys found a f g clear =
    record {
      owned = each_append (λ o. owns o a ≡ true → found ≡ color o.object) xs ys f g;
      clear = λ e. clear (each_left (λ o. owns o a ≡ false) xs ys e) (each_right (λ o. owns o a ≡ false) xs ys e);
    }

module _ (sets : List (List ℕ)) (color : ℕ → ℕ) (exact : Exact sets color) (x : ℕ) (unsafe : unsafe_object sets x ≡ true) (found a : ℕ) where
  abbrev in_live : Live → Bool
  in_live o = elim (owns o a) [ true ↦ same_class sets x o.object | false ↦ false ]

  class_found : (os : List Live) → Each (λ o. owns o a ≡ true → found ≡ color o.object) os
      → (Each (λ o. owns o a ≡ false) os → eqb found (color x) ≡ false) → some_live in_live os ≡ eqb found (color x)
  unfolding some_live
  class_found [] each clear = sym (clear tt)
  class_found (o ∷ os) each clear = go (class_found os each.1) (owns o a) refl (same_class sets x o.object) refl
    where
      go : ((Each (λ o. owns o a ≡ false) os → eqb found (color x) ≡ false) → some_live in_live os ≡ eqb found (color x))
          → (b : Bool) → owns o a ≡ b → (c : Bool) → same_class sets x o.object ≡ c → some_live in_live (o ∷ os) ≡ eqb found (color x)
      go later true e true e' =
          rw (e, e', some_live) (sym (eq-eqb found (color x) (each.0 e ∙ sym (exact.together x o.object e'))))
      go later true e false e' =
          rw (e, e', some_live)
          (later (λ n. ne_eqb found (color x) (λ q. false≢true (sym e' ∙ exact.apart x o.object unsafe (sym q ∙ each.0 e)))))
      go later false e c e' = rw (e, some_live) (later (λ n. clear (e, n)))

  -- the two tests are one
  pub tells_class : (os : List Live) → Tells color os found a → some_live in_live os ≡ eqb found (color x)
  tells_class os tells =
      class_found os tells.owned (λ n. ne_eqb found (color x) (λ q. omega (arith, exact.low x unsafe, tells.clear n)))
