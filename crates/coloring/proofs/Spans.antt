-- What joining the sets does to the labels.
use Prim.Native.Nat.{ℕ, zero, suc, ◌+◌, ◌<◌}
use native.Mathlib.Omega.{arith}
use mathlib.Core.Path.{◌≡◌, refl}
use mathlib.Core.Logic.{⊎_elim}
use mathlib.Core.List.{List, [], ◌∷◌}
use mathlib.Core.Bool.{Bool, true, false}
use lib.ListN.{length, get_or}
use Rattle.std.specs.List.{fold}
use Rattle.coloring.specs.Class.{holds, Chain}
use Rattle.coloring.specs.Labels.{touched, joined_to, set_joined, joined_if, sets_joined}
use Rattle.files.proofs.Tests.{no_test}
use Rattle.coloring.proofs.Members.{holds_cases, holds_nil, holds_here, holds_there}
use Rattle.coloring.proofs.Joining.{at, Sound, Together, together_sym, together_trans, Step, step_none, step_on, touched_in, still_labelled, joined_step, joined_together}

module _ (sets : List (List ℕ)) where
  -- a set's members from the second on, all chained to the first
  pub record Joined (l m : List ℕ) (first : ℕ) (xs : List ℕ) : Type 0 where
    pub step : Step sets l m
    pub inside : (x : ℕ) → holds xs x ≡ true → Together m first x

  members_joined : (first : ℕ) (p : first < 400) (xs l : List ℕ) → Sound sets l → at l first < 400
      → ((x : ℕ) → holds xs x ≡ true → (x < 400) × Chain sets first x) → Joined l (fold (joined_to first) l xs) first xs
  members_joined first p [] l s h f = record { step = step_none sets l s; inside = λ x q. holds_nil x q }
  members_joined first p (y ∷ xs) l s h f =
      let fy : (y < 400) × Chain sets first y = f y (holds_here y xs) in
      let still : at (touched l y) first < 400 = still_labelled sets l s first y p fy.0 fy.1 h in
      let u : Step sets l (joined_to first l y) = joined_step sets l s first y p fy.0 fy.1 still in
      let g : Together (joined_to first l y) first y = joined_together sets l s first y p fy.0 fy.1 still in
      let r : Joined (joined_to first l y) (fold (joined_to first) (joined_to first l y) xs) first xs =
      members_joined first p xs (joined_to first l y) u.sound g.0 (λ x q. f x (holds_there x y xs q))
      in
      record {
        step = step_on u r.step;
        inside =
            λ x q.
            ⊎_elim
            (λ (e : x ≡ y). rw e (r.step.kept first y p fy.0 g))
            (r.inside x)
            (holds_cases x y xs q);
      }

  -- a whole set whose objects are chained
  abbrev pub Chained : List ℕ → Type 0
  Chained t = ((x : ℕ) → holds t x ≡ true → x < 400) × ((x y : ℕ) → holds t x ≡ true → holds t y ≡ true → Chain sets x y)

  pub record SetJoined (l m : List ℕ) (t : List ℕ) : Type 0 where
    pub step : Step sets l m
    pub inside : (x y : ℕ) → holds t x ≡ true → holds t y ≡ true → Together m x y

  set_joined_lem : (t l : List ℕ) → Sound sets l → Chained t → SetJoined l (set_joined l t) t
  set_joined_lem [] l s c = record { step = step_none sets l s; inside = λ x y p q. holds_nil x p }
  set_joined_lem (z ∷ t) l s c =
      let hz : holds (z ∷ t) z ≡ true = holds_here z t in
      let pz : z < 400 = c.0 z hz in
      let own : Chain sets z z = c.1 z z hz hz in
      let first : Step sets l (joined_to z l z) = joined_step sets l s z z pz pz own (touched_in sets l s z pz) in
      let g : Together (joined_to z l z) z z = joined_together sets l s z z pz pz own (touched_in sets l s z pz) in
      let r : Joined (joined_to z l z) (set_joined l (z ∷ t)) z t =
      members_joined z pz t (joined_to z l z) first.sound g.0 (λ x q. (c.0 x (holds_there x z t q), c.1 z x hz (holds_there x z t q)))
      in
      let in-z : (x : ℕ) → holds (z ∷ t) x ≡ true → Together (set_joined l (z ∷ t)) z x =
      λ x q. ⊎_elim (λ (e : x ≡ z). rw e (r.step.kept z z pz pz g)) (r.inside x) (holds_cases x z t q)
      in
      record {
        step = step_on first r.step;
        inside =
            λ x y p q.
            together_trans (set_joined l (z ∷ t)) x z y
            (together_sym (set_joined l (z ∷ t)) z x (in-z x p))
            (in-z y q);
      }

  -- the sets that are used
  pub record AllJoined (used : List Bool) (s : ℕ) (ss : List (List ℕ)) (l m : List ℕ) : Type 0 where
    pub step : Step sets l m
    pub inside : (k : ℕ) → k < length ss → get_or used (s + k) false ≡ true → (x y : ℕ) → holds (get_or ss k []) x ≡ true → holds (get_or ss k []) y ≡ true → Together m x y

  one_done : (b : Bool) (t l : List ℕ) → Sound sets l → (b ≡ true → Chained t) → Step sets l (joined_if b l t)
  one_done true t l s c = (set_joined_lem t l s (c refl)).step
  one_done false t l s c = step_none sets l s

  one_inside : (b : Bool) (t l : List ℕ) → Sound sets l → (b ≡ true → Chained t) → b ≡ true
      → (x y : ℕ) → holds t x ≡ true → holds t y ≡ true → Together (joined_if b l t) x y
  one_inside true t l s c e = (set_joined_lem t l s (c refl)).inside
  one_inside false t l s c e = no_test e refl

  pub sets_joined_lem : (used : List Bool) (ss : List (List ℕ)) (s : ℕ) (l : List ℕ) → Sound sets l
      → ((k : ℕ) → k < length ss → get_or used (s + k) false ≡ true → Chained (get_or ss k []))
      → AllJoined used s ss l (sets_joined used s l ss)
  unfolding sets_joined
  sets_joined_lem used [] s l h c = record { step = step_none sets l h; inside = λ k p. absurd (omega arith) }
  sets_joined_lem used (t ∷ ts) s l h c =
      let b : Bool = get_or used s false in
      let z : s + 0 ≡ s = omega arith in
      let c₀ : b ≡ true → Chained t = rw z at (c 0 (omega arith)) in
      let one : Step sets l (joined_if b l t) = one_done b t l h c₀ in
      let r : AllJoined used (s + 1) ts (joined_if b l t) (sets_joined used (s + 1) (joined_if b l t) ts) =
      sets_joined_lem used ts (s + 1) (joined_if b l t) one.sound
      (λ k p. let w : s + 1 + k ≡ s + suc k = omega arith in rw w (c (suc k) (omega arith)))
      in
      record {
        step = step_on one r.step;
        inside = within (joined_if b l t) (sets_joined used (s + 1) (joined_if b l t) ts) r c₀ (one_inside b t l h c₀);
      }
    where
      within : (n m : List ℕ) → AllJoined used (s + 1) ts n m → (get_or used s false ≡ true → Chained t)
          → (get_or used s false ≡ true → (x y : ℕ) → holds t x ≡ true → holds t y ≡ true → Together n x y)
          → (k : ℕ) → k < length (t ∷ ts) → get_or used (s + k) false ≡ true
          → (x y : ℕ) → holds (get_or (t ∷ ts) k []) x ≡ true → holds (get_or (t ∷ ts) k []) y ≡ true → Together m x y
      within n m r c₀ i zero p u x y hx hy =
          let z : s + 0 ≡ s = omega arith in
          let u₀ : get_or used s false ≡ true = rw z at u in
          r.step.kept x y ((c₀ u₀).0 x hx) ((c₀ u₀).0 y hy) (i u₀ x y hx hy)
      within n m r c₀ i (suc k) p u x y hx hy =
          let w : s + suc k ≡ s + 1 + k = omega arith in
          r.inside k (omega arith) (rw w at u) x y hx hy
