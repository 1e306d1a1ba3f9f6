-- Membership: a list that holds an object, a list of lists of which some hold it, two lists that meet.
use Prim.Native.Nat.{ℕ, zero, suc, ◌<◌}
use native.Mathlib.Omega.{arith}
use mathlib.Core.Path.{◌≡◌, refl}
use mathlib.Core.Logic.{◌⊎◌, inl, inr, ⊎_elim}
use mathlib.Core.List.{List, [], ◌∷◌, ◌++◌}
use mathlib.Core.Bool.{Bool, true, false}
use lib.ListN.{length, get_or}
use lib.Dec.{eqb}
use borrow.Author.Tests.{eqb-true, eq-eqb}
use Rattle.files.proofs.Tests.{no_test}
use Rattle.coloring.specs.Class.{holds, some, holds_both, unsafe_object, meets}

-- ---- tests

-- a test is false where it cannot be true
pub test_false : (b : Bool) → (b ≡ true → ⊥) → b ≡ false
test_false true h = absurd (h refl)
test_false false h = refl

pub both_left : (x y : ℕ) (s : List ℕ) → holds_both x y s ≡ true → holds s x ≡ true
both_left x y s h = go (holds s x) refl
  where
    go : (b : Bool) → holds s x ≡ b → holds s x ≡ true
    go true e = e
    go false e = no_test (rw (e, holds_both) at h) refl

pub both_right : (x y : ℕ) (s : List ℕ) → holds_both x y s ≡ true → holds s y ≡ true
both_right x y s h = let e : holds s x ≡ true = both_left x y s h in rw (e, holds_both) at h

pub both_true : (x y : ℕ) (s : List ℕ) → holds s x ≡ true → holds s y ≡ true → holds_both x y s ≡ true
both_true x y s p q = rw (p, holds_both) q

-- ---- a test that one of the lists passes

module _ (test : List ℕ → Bool) where
  pub some_here : (s : List ℕ) (ss : List (List ℕ)) → test s ≡ true → some test (s ∷ ss) ≡ true
  unfolding some
  some_here s ss h = rw (h, some)

  pub some_there : (s : List ℕ) (ss : List (List ℕ)) → some test ss ≡ true → some test (s ∷ ss) ≡ true
  unfolding some
  some_there s ss h = go (test s) refl
    where
      go : (b : Bool) → test s ≡ b → some test (s ∷ ss) ≡ true
      go true e = rw (e, some)
      go false e = rw (e, some) h

  pub some_behind : (xs ys : List (List ℕ)) → some test ys ≡ true → some test (xs ++ ys) ≡ true
  some_behind [] ys h = h
  some_behind (x ∷ xs) ys h = some_there x (xs ++ ys) (some_behind xs ys h)

  pub some_cases : (s : List ℕ) (ss : List (List ℕ)) → some test (s ∷ ss) ≡ true → (test s ≡ true) ⊎ (some test ss ≡ true)
  unfolding some
  some_cases s ss h = go (test s) refl
    where
      go : (b : Bool) → test s ≡ b → (test s ≡ true) ⊎ (some test ss ≡ true)
      go true e = inl e
      go false e = inr (rw (e, some) at h)

  pub some_nil : {A : Type 0} → some test [] ≡ true → A
  unfolding some
  some_nil h = no_test h refl

  -- by a place in the list
  pub some_at : (ss : List (List ℕ)) (at : ℕ) → at < length ss → test (get_or ss at []) ≡ true → some test ss ≡ true
  some_at [] at l h = absurd (omega arith)
  some_at (s ∷ ss) zero l h = some_here s ss h
  some_at (s ∷ ss) (suc at) l h = some_there s ss (some_at ss at (omega arith) h)

-- every list that passes one test passes the other
pub some_map : (t u : List ℕ → Bool) → ((s : List ℕ) → t s ≡ true → u s ≡ true) → (ss : List (List ℕ)) → some t ss ≡ true → some u ss ≡ true
some_map t u f [] h = some_nil t h
some_map t u f (s ∷ ss) h =
    ⊎_elim (λ p. some_here u s ss (f s p)) (λ p. some_there u s ss (some_map t u f ss p)) (some_cases t s ss h)

pub unsafe_left : (x y : ℕ) (cs : List (List ℕ)) → some (holds_both x y) cs ≡ true → unsafe_object cs x ≡ true
unsafe_left x y cs h = some_map (holds_both x y) (λ s. holds s x) (both_left x y) cs h

pub unsafe_right : (x y : ℕ) (cs : List (List ℕ)) → some (holds_both x y) cs ≡ true → unsafe_object cs y ≡ true
unsafe_right x y cs h = some_map (holds_both x y) (λ s. holds s y) (both_right x y) cs h

pub unsafe_both : (x : ℕ) (cs : List (List ℕ)) → unsafe_object cs x ≡ true → some (holds_both x x) cs ≡ true
unsafe_both x cs h = some_map (λ s. holds s x) (holds_both x x) (λ s p. both_true x x s p p) cs h

-- ---- lists of object numbers

pub holds_here : (y : ℕ) (ys : List ℕ) → holds (y ∷ ys) y ≡ true
unfolding holds
holds_here y ys = rw (eq-eqb y y refl, holds)

pub holds_there : (x y : ℕ) (ys : List ℕ) → holds ys x ≡ true → holds (y ∷ ys) x ≡ true
unfolding holds
holds_there x y ys h = go (eqb x y) refl
  where
    go : (b : Bool) → eqb x y ≡ b → holds (y ∷ ys) x ≡ true
    go true e = rw (e, holds)
    go false e = rw (e, holds) h

pub holds_cases : (x y : ℕ) (ys : List ℕ) → holds (y ∷ ys) x ≡ true → (x ≡ y) ⊎ (holds ys x ≡ true)
unfolding holds
holds_cases x y ys h = go (eqb x y) refl
  where
    go : (b : Bool) → eqb x y ≡ b → (x ≡ y) ⊎ (holds ys x ≡ true)
    go true e = inl (eqb-true x y e)
    go false e = inr (rw (e, holds) at h)

pub holds_nil : {A : Type 0} (x : ℕ) → holds [] x ≡ true → A
unfolding holds
holds_nil x h = no_test h refl

-- by a place in the list
pub holds_at : (t : List ℕ) (i : ℕ) → i < length t → holds t (get_or t i 0) ≡ true
holds_at [] i h = absurd (omega arith)
holds_at (x ∷ t) zero h = holds_here x t
holds_at (x ∷ t) (suc i) h = holds_there (get_or t i 0) x t (holds_at t i (omega arith))

pub holds_left : (x : ℕ) (s c : List ℕ) → holds s x ≡ true → holds (s ++ c) x ≡ true
holds_left x [] c h = holds_nil x h
holds_left x (y ∷ s) c h =
    ⊎_elim (λ (e : x ≡ y). rw e (holds_here y (s ++ c))) (λ p. holds_there x y (s ++ c) (holds_left x s c p)) (holds_cases x y s h)

pub holds_right : (x : ℕ) (s c : List ℕ) → holds c x ≡ true → holds (s ++ c) x ≡ true
holds_right x [] c h = h
holds_right x (y ∷ s) c h = holds_there x y (s ++ c) (holds_right x s c h)

pub holds_append : (x : ℕ) (s c : List ℕ) → holds (s ++ c) x ≡ true → (holds s x ≡ true) ⊎ (holds c x ≡ true)
holds_append x [] c h = inr h
holds_append x (y ∷ s) c h =
    ⊎_elim
    (λ (e : x ≡ y). inl (rw e (holds_here y s)))
    (λ p. ⊎_elim (λ q. inl (holds_there x y s q)) inr (holds_append x s c p))
    (holds_cases x y (s ++ c) h)

-- two lists meet in an object
pub meets_at : (s c : List ℕ) → meets s c ≡ true → (z : ℕ) × (holds s z ≡ true) × (holds c z ≡ true)
unfolding meets
meets_at [] c h = no_test h refl
meets_at (y ∷ s) c h = go (holds c y) refl (λ p. meets_at s c p)
  where
    go : (b : Bool) → holds c y ≡ b → (meets s c ≡ true → (z : ℕ) × (holds s z ≡ true) × (holds c z ≡ true))
        → (z : ℕ) × (holds (y ∷ s) z ≡ true) × (holds c z ≡ true)
    go true e rest = (y, holds_here y s, e)
    go false e rest =
        let r : (z : ℕ) × (holds s z ≡ true) × (holds c z ≡ true) = rest (rw (e, meets) at h) in
        (r.0, holds_there r.0 y s r.1, r.2)

pub at_meets : (s c : List ℕ) (z : ℕ) → holds s z ≡ true → holds c z ≡ true → meets s c ≡ true
unfolding meets
at_meets [] c z h k = holds_nil z h
at_meets (y ∷ s) c z h k = go (holds c y) refl (λ p. at_meets s c z p k)
  where
    go : (b : Bool) → holds c y ≡ b → (holds s z ≡ true → meets s c ≡ true) → meets (y ∷ s) c ≡ true
    go true e rest = rw (e, meets)
    go false e rest =
        rw (e, meets)
        (⊎_elim (λ (p : z ≡ y). no_test k (rw p e)) rest (holds_cases z y s h))
