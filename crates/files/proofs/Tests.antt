-- Tests: one, two at once (`both`), and one that each element of a list passes (`every`).
use Prim.Native.Nat.{ℕ, zero, suc, ◌<◌}
use mathlib.Core.Path.{◌≡◌, refl, sym, ◌∙◌}
use mathlib.Core.List.{List, [], ◌∷◌, ◌++◌}
use mathlib.Core.Bool.{Bool, true, false, true≢false}
use native.Mathlib.Omega.{arith}
use lib.ListN.{length, get_or, take}
use Rattle.files.specs.Writing.{both, every}

-- no test is true and false
pub no_test : {A : Type 0} {b : Bool} → b ≡ true → b ≡ false → A
no_test p q = absurd (true≢false (sym p ∙ q))

-- ---- two tests at once

pub both_true : (a b : Bool) → a ≡ true → b ≡ true → both a b ≡ true
both_true true b p q = q
both_true false b p q = p

-- the same, with tests that the proofs show
pub both_are : {a b : Bool} → a ≡ true → b ≡ true → both a b ≡ true
both_are {a} {b} p q = both_true a b p q

pub both_left : (a b : Bool) → both a b ≡ true → a ≡ true
both_left true b p = refl
both_left false b p = p

pub both_right : (a b : Bool) → both a b ≡ true → b ≡ true
both_right true b p = p
both_right false b p = no_test p refl

pub both_each : (a b : Bool) → both a b ≡ true → (a ≡ true) × (b ≡ true)
both_each a b e = (both_left a b e, both_right a b e)

-- the first fails
pub both_no : {a : Bool} (b : Bool) → a ≡ false → both a b ≡ false
both_no b p = simp (p, both)

-- the second fails
pub both_then : (a : Bool) {b : Bool} → b ≡ false → both a b ≡ false
both_then true q = q
both_then false q = refl

-- two tests at once, either way it is written
pub both_is : (a b : Bool) → ◌≡◌ {A = Bool} (both a b) (elim a [ true ↦ b | false ↦ false ])
both_is true b = refl
both_is false b = refl

-- ---- a test that each element passes

module _ {A : Type 0} (test : A → Bool) where
  pub every_more : (x : A) (xs : List A) → test x ≡ true → every test (x ∷ xs) ≡ every test xs
  unfolding every
  every_more x xs p = rw (p, every)

  pub every_stops : (x : A) (xs : List A) → test x ≡ false → every test (x ∷ xs) ≡ false
  unfolding every
  every_stops x xs p = rw (p, every)

  pub every_head : (x : A) (xs : List A) → every test (x ∷ xs) ≡ true → test x ≡ true
  every_head x xs h = go (test x) refl
    where
      go : (b : Bool) → test x ≡ b → test x ≡ true
      go true e = e
      go false e = no_test h (every_stops x xs e)

  pub every_tail : (x : A) (xs : List A) → every test (x ∷ xs) ≡ true → every test xs ≡ true
  every_tail x xs h = sym (every_more x xs (every_head x xs h)) ∙ h

  pub every_cons : (x : A) (xs : List A) → test x ≡ true → every test xs ≡ true → every test (x ∷ xs) ≡ true
  every_cons x xs p q = every_more x xs p ∙ q

  pub every_append : (xs ys : List A) → every test xs ≡ true → every test ys ≡ true → every test (xs ++ ys) ≡ true
  every_append [] ys p q = q
  every_append (x ∷ xs) ys p q = every_cons x (xs ++ ys) (every_head x xs p) (every_append xs ys (every_tail x xs p) q)

  pub every_at : (xs : List A) (d : A) (k : ℕ) → every test xs ≡ true → k < length xs → test (get_or xs k d) ≡ true
  every_at [] d k h l = absurd (omega arith)
  every_at (x ∷ xs) d zero h l = every_head x xs h
  every_at (x ∷ xs) d (suc k) h l = every_at xs d k (every_tail x xs h) (omega arith)

  pub every_take : (n : ℕ) (xs : List A) → every test xs ≡ true → every test (take n xs) ≡ true
  unfolding every
  every_take zero xs h = refl
  every_take (suc n) [] h = refl
  every_take (suc n) (x ∷ xs) h = every_cons x (take n xs) (every_head x xs h) (every_take n xs (every_tail x xs h))
