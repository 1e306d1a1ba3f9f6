-- The computed class is the chain.
--
-- Chains can be turned round and put together, so each set's objects stay chained when `join` puts the
-- set and the classes that it meets into one list: every class holds only chained objects (`within`).
-- The other way round each set stays inside one class (`set_inside`), and no object is in two classes
-- (`apart`), so being of one class goes on along a chain.
use Prim.Native.Nat.{ℕ, zero, suc, ◌<◌}
use native.Mathlib.Omega.{arith}
use mathlib.Core.Path.{◌≡◌, refl}
use mathlib.Core.Logic.{◌⊎◌, inl, inr, ⊎_elim}
use mathlib.Core.List.{List, [], ◌∷◌, ◌++◌}
use mathlib.Core.Bool.{Bool, true, false}
use lib.ListN.{length, get_or}
use Rattle.coloring.specs.Class.{holds, some, holds_both, unsafe_object, Neighbours, Chain, last, link, meets, join, classes_of, same_class}
use Rattle.files.proofs.Tests.{no_test}
use Rattle.coloring.proofs.Members.{test_false, both_left, both_right, both_true, some_here, some_there, some_cases, some_nil, some_at, some_map, unsafe_left, unsafe_right, holds_left, holds_right, holds_append, meets_at, at_meets}

-- ---- chains

pub chain_append : {sets : List (List ℕ)} {x y z : ℕ} → Chain sets x y → Chain sets y z → Chain sets x z
chain_append (last n) d = link n d
chain_append (link n c) d = link n (chain_append c d)

neighbours_sym : {sets : List (List ℕ)} {x y : ℕ} → Neighbours sets x y → Neighbours sets y x
neighbours_sym n = record { at = n.at; inside = n.inside; left = n.right; right = n.left }

pub chain_sym : {sets : List (List ℕ)} {x y : ℕ} → Chain sets x y → Chain sets y x
chain_sym (last n) = last (neighbours_sym n)
chain_sym (link n c) = chain_append (chain_sym c) (last (neighbours_sym n))

-- one set more keeps the chains
pub chain_more : {s : List ℕ} {sets : List (List ℕ)} {x y : ℕ} → Chain sets x y → Chain (s ∷ sets) x y
chain_more {s} {sets} (last n) = last (record { at = suc n.at; inside = omega (arith, n.inside); left = n.left; right = n.right })
chain_more {s} {sets} (link n c) =
    link (record { at = suc n.at; inside = omega (arith, n.inside); left = n.left; right = n.right }) (chain_more c)

-- ---- what join keeps

-- every class holds only objects that C relates
abbrev Within : (C : ℕ → ℕ → Type 0) → List (List ℕ) → Type 0
Within C cs = (x y : ℕ) → some (holds_both x y) cs ≡ true → C x y

abbrev Related : (C : ℕ → ℕ → Type 0) → List ℕ → Type 0
Related C s = (x y : ℕ) → holds s x ≡ true → holds s y ≡ true → C x y

module _ (C : ℕ → ℕ → Type 0) (back : (x y : ℕ) → C x y → C y x) (on : (x y z : ℕ) → C x y → C y z → C x z) where
  related_append : (s c : List ℕ) → meets s c ≡ true → Related C s → Related C c → Related C (s ++ c)
  related_append s c m hs hc x y p q =
      ⊎_elim
      (λ px. ⊎_elim (λ py. hs x y px py) (λ py. on x z y (hs x z px zs) (hc z y zc py)) (holds_append y s c q))
      (λ px. ⊎_elim (λ py. on x z y (hc x z px zc) (hs z y zs py)) (λ py. hc x y px py) (holds_append y s c q))
      (holds_append x s c p)
    where
      z : ℕ
      z = (meets_at s c m).0

      zs : holds s z ≡ true
      zs = (meets_at s c m).1

      zc : holds c z ≡ true
      zc = (meets_at s c m).2

  within_cons : (c : List ℕ) (cs : List (List ℕ)) → Related C c → Within C cs → Within C (c ∷ cs)
  within_cons c cs hc h x y p =
      ⊎_elim (λ q. hc x y (both_left x y c q) (both_right x y c q)) (h x y) (some_cases (holds_both x y) c cs p)

  within_join : (cs : List (List ℕ)) (s : List ℕ) → Related C s → Within C cs → Within C (join s cs)
  unfolding join
  within_join [] s hs h = within_cons s [] hs h
  within_join (c ∷ cs) s hs h =
      go (meets s c) refl (λ t ht. within_join cs t ht (λ x y p. h x y (some_there (holds_both x y) c cs p)))
    where
      hc : Related C c
      hc x y p q = h x y (some_here (holds_both x y) c cs (both_true x y c p q))

      go : (b : Bool) → meets s c ≡ b → ((t : List ℕ) → Related C t → Within C (join t cs)) → Within C (join s (c ∷ cs))
      go true e rest = rw (e, join) (rest (s ++ c) (related_append s c e hs hc))
      go false e rest = rw (e, join) (within_cons c (join s cs) hc (rest s hs))

-- a set stays inside one class
set_inside : (x y : ℕ) (cs : List (List ℕ)) (s : List ℕ) → holds s x ≡ true → holds s y ≡ true → some (holds_both x y) (join s cs) ≡ true
unfolding join
set_inside x y [] s p q = some_here (holds_both x y) s [] (both_true x y s p q)
set_inside x y (c ∷ cs) s p q = go (meets s c) refl (λ t. set_inside x y cs t)
  where
    go : (b : Bool) → meets s c ≡ b
        → ((t : List ℕ) → holds t x ≡ true → holds t y ≡ true → some (holds_both x y) (join t cs) ≡ true)
        → some (holds_both x y) (join s (c ∷ cs)) ≡ true
    go true e rest = rw (e, join) (rest (s ++ c) (holds_left x s c p) (holds_left y s c q))
    go false e rest = rw (e, join) (some_there (holds_both x y) c (join s cs) (rest s p q))

-- and so does what was in one class
class_inside : (x y : ℕ) (cs : List (List ℕ)) (s : List ℕ) → some (holds_both x y) cs ≡ true → some (holds_both x y) (join s cs) ≡ true
unfolding join
class_inside x y [] s h = some_nil (holds_both x y) h
class_inside x y (c ∷ cs) s h = go (meets s c) refl (λ t. class_inside x y cs t)
  where
    go : (b : Bool) → meets s c ≡ b
        → ((t : List ℕ) → some (holds_both x y) cs ≡ true → some (holds_both x y) (join t cs) ≡ true)
        → some (holds_both x y) (join s (c ∷ cs)) ≡ true
    go true e rest =
        rw (e, join)
        (⊎_elim
        (λ p. set_inside x y cs (s ++ c) (holds_right x s c (both_left x y c p)) (holds_right y s c (both_right x y c p)))
        (rest (s ++ c))
        (some_cases (holds_both x y) c cs h))
    go false e rest =
        rw (e, join)
        (⊎_elim
        (some_here (holds_both x y) c (join s cs))
        (λ p. some_there (holds_both x y) c (join s cs) (rest s p))
        (some_cases (holds_both x y) c cs h))

-- ---- no object is in two classes

pub data Apart : List (List ℕ) → Type 0 where
  none : Apart []
  more : {c : List ℕ} {cs : List (List ℕ)} → ((x : ℕ) → holds c x ≡ true → unsafe_object cs x ≡ false) → Apart cs → Apart (c ∷ cs)

-- join brings no object in
join_unsafe : (x : ℕ) (cs : List (List ℕ)) (s : List ℕ) → unsafe_object (join s cs) x ≡ true → (holds s x ≡ true) ⊎ (unsafe_object cs x ≡ true)
unfolding join
join_unsafe x [] s h = ⊎_elim inl (λ p. some_nil (λ t. holds t x) p) (some_cases (λ t. holds t x) s [] h)
join_unsafe x (c ∷ cs) s h = go (meets s c) refl (λ t. join_unsafe x cs t)
  where
    test : List ℕ → Bool
    test t = holds t x

    go : (b : Bool) → meets s c ≡ b
        → ((t : List ℕ) → unsafe_object (join t cs) x ≡ true → (holds t x ≡ true) ⊎ (unsafe_object cs x ≡ true))
        → (holds s x ≡ true) ⊎ (unsafe_object (c ∷ cs) x ≡ true)
    go true e rest =
        ⊎_elim
        (λ p. ⊎_elim inl (λ q. inr (some_here (λ t. holds t x) c cs q)) (holds_append x s c p))
        (λ p. inr (some_there (λ t. holds t x) c cs p))
        (rest (s ++ c) (rw (e, join) at h))
    go false e rest =
        ⊎_elim
        (λ p. inr (some_here (λ t. holds t x) c cs p))
        (λ p. ⊎_elim inl (λ q. inr (some_there (λ t. holds t x) c cs q)) (rest s p))
        (some_cases (λ t. holds t x) c (join s cs) (rw (e, join) at h))

apart_join : (cs : List (List ℕ)) (s : List ℕ) → Apart cs → Apart (join s cs)
unfolding join
apart_join [] s a = more (λ x h. test_false _ (λ p. some_nil (λ t. holds t x) p)) none
apart_join (c ∷ cs) s (more f a) = go (meets s c) refl (λ t. apart_join cs t a)
  where
    go : (b : Bool) → meets s c ≡ b → ((t : List ℕ) → Apart (join t cs)) → Apart (join s (c ∷ cs))
    go true e rest = rw (e, join) (rest (s ++ c))
    go false e rest =
        rw (e, join)
        (more
        (λ x h.
        test_false (unsafe_object (join s cs) x)
        (λ p. ⊎_elim (λ q. no_test (at_meets s c x q h) e) (λ q. no_test q (f x h)) (join_unsafe x cs s p)))
        (rest s))

pub classes_apart : (sets : List (List ℕ)) → Apart (classes_of sets)
unfolding classes_of
classes_apart [] = none
classes_apart (s ∷ ss) = apart_join (classes_of ss) s (classes_apart ss)

-- where no object is in two classes, being in one class goes on
apart_on : (x y z : ℕ) {cs : List (List ℕ)} → Apart cs → some (holds_both x y) cs ≡ true → some (holds_both y z) cs ≡ true → some (holds_both x z) cs ≡ true
apart_on x y z none h k = some_nil (holds_both x y) h
apart_on x y z (more {c} {cs} f a) h k =
    ⊎_elim
    (λ p. ⊎_elim
    (λ q. some_here (holds_both x z) c cs (both_true x z c (both_left x y c p) (both_right y z c q)))
    (λ q. no_test (unsafe_left y z cs q) (f y (both_right x y c p)))
    (some_cases (holds_both y z) c cs k))
    (λ p. ⊎_elim
    (λ q. no_test (unsafe_right x y cs p) (f y (both_left y z c q)))
    (λ q. some_there (holds_both x z) c cs (apart_on x y z a p q))
    (some_cases (holds_both y z) c cs k))
    (some_cases (holds_both x y) c cs h)

-- ---- the class is the chain

class_chain : (sets : List (List ℕ)) → Within (Chain sets) (classes_of sets)
unfolding classes_of
class_chain [] = λ x y h. some_nil (holds_both x y) h
class_chain (s ∷ ss) =
    within_join
    (Chain (s ∷ ss))
    (λ x y c. chain_sym c)
    (λ x y z c d. chain_append c d)
    (classes_of ss)
    s
    (λ x y p q. last (record { at = 0; inside = omega arith; left = p; right = q }))
    (λ x y p. chain_more (class_chain ss x y p))

-- one set's objects are of one class
pub set_class : (sets : List (List ℕ)) (at x y : ℕ) → at < length sets → holds (get_or sets at []) x ≡ true → holds (get_or sets at []) y ≡ true → same_class sets x y ≡ true
unfolding classes_of
set_class [] at x y l p q = absurd (omega arith)
set_class (s ∷ ss) zero x y l p q = set_inside x y (classes_of ss) s p q
set_class (s ∷ ss) (suc at) x y l p q =
    class_inside x y (classes_of ss) s (set_class ss at x y (omega arith) p q)

pub class_trans : (sets : List (List ℕ)) (x y z : ℕ) → same_class sets x y ≡ true → same_class sets y z ≡ true → same_class sets x z ≡ true
class_trans sets x y z = apart_on x y z (classes_apart sets)

pub class_sym : (sets : List (List ℕ)) (x y : ℕ) → same_class sets x y ≡ true → same_class sets y x ≡ true
class_sym sets x y = some_map (holds_both x y) (holds_both y x) (λ s p. both_true y x s (both_right x y s p) (both_left x y s p)) (classes_of sets)

chain_class : (sets : List (List ℕ)) (x y : ℕ) → Chain sets x y → same_class sets x y ≡ true
chain_class sets x y (last n) = set_class sets n.at x y n.inside n.left n.right
chain_class sets x z (link {y} n c) =
    class_trans sets x y z (set_class sets n.at x y n.inside n.left n.right) (chain_class sets y z c)

-- the computed class is the chain
pub class_is_chain : (sets : List (List ℕ)) (x y : ℕ) → (same_class sets x y ≡ true → Chain sets x y) × (Chain sets x y → same_class sets x y ≡ true)
class_is_chain sets x y = (class_chain sets x y, chain_class sets x y)

-- ---- unsafe objects are those that have a class

pub some_place : (t : List ℕ → Bool) (ss : List (List ℕ)) → some t ss ≡ true → (at : ℕ) × (at < length ss) × (t (get_or ss at []) ≡ true)
some_place t [] h = some_nil t h
some_place t (s ∷ ss) h =
    ⊎_elim
    (λ p. (0, omega arith, p))
    (λ p.
    let r : (at : ℕ) × (at < length ss) × (t (get_or ss at []) ≡ true) = some_place t ss p in
    (suc r.0, omega (arith, r.1), r.2))
    (some_cases t s ss h)

pub class_self : (sets : List (List ℕ)) (x : ℕ) → unsafe_object sets x ≡ true → same_class sets x x ≡ true
class_self sets x h =
    let r : (at : ℕ) × (at < length sets) × (holds (get_or sets at []) x ≡ true) = some_place (λ s. holds s x) sets h in
    set_class sets r.0 x x r.1 r.2 r.2

chain_unsafe : (sets : List (List ℕ)) (x y : ℕ) → Chain sets x y → unsafe_object sets x ≡ true
chain_unsafe sets x y (last n) = some_at (λ s. holds s x) sets n.at n.inside n.left
chain_unsafe sets x y (link n c) = some_at (λ s. holds s x) sets n.at n.inside n.left

pub class_unsafe : (sets : List (List ℕ)) (x y : ℕ) → same_class sets x y ≡ true → unsafe_object sets x ≡ true
class_unsafe sets x y h = chain_unsafe sets x y ((class_is_chain sets x y).0 h)

-- being of one class is an equivalence on the unsafe objects
pub unsafe_is_classed : (sets : List (List ℕ)) (x : ℕ) → (unsafe_object sets x ≡ true → same_class sets x x ≡ true) × (same_class sets x x ≡ true → unsafe_object sets x ≡ true)
unsafe_is_classed sets x = (class_self sets x, class_unsafe sets x x)

-- so an object has the class of every object that it is chained to, tested from either side
pub class_row : (sets : List (List ℕ)) (x y z : ℕ) → same_class sets x y ≡ true → same_class sets z x ≡ same_class sets z y
class_row sets x y z h = go (same_class sets z x) (same_class sets z y) refl refl
  where
    go : (a b : Bool) → same_class sets z x ≡ a → same_class sets z y ≡ b → a ≡ b
    go true true e f = refl
    go true false e f = no_test (class_trans sets z x y e h) f
    go false true e f = no_test (class_trans sets z y x f (class_sym sets x y h)) e
    go false false e f = refl
