-- What the instructions say of the labels and of the sets in use, and that it is what the unsafe
-- instructions' sets say.
use Prim.Native.Nat.{ℕ, zero, suc, ◌<◌, ◌≤◌}
use native.Mathlib.Omega.{arith}
use mathlib.Core.Path.{◌≡◌, refl, sym, ◌∙◌, ap}
use mathlib.Core.Logic.{◌⊎◌, inl, inr, ⊎_elim}
use mathlib.Core.List.{List, [], ◌∷◌, ◌++◌, map}
use mathlib.Core.Bool.{Bool, true, false}
use lib.ListN.{length, get_or, set, length-set}
use lib.Seq.{get_or-set_same, get_or-set_other}
use borrow.Author.Tests.{lt-ltb, le-ltb}
use Rattle.opcodes.specs.declared.Instr.{Instr}
use Rattle.files.specs.Program.{Program}
use Rattle.opcodes.specs.View.{Aim, in_global, at_temp, View, act, jump, jump_if, store, check, view, bytes}
use Rattle.safety.specs.declared.Nature.{Nature}
use Rattle.safety.specs.declared.Nature.TheVariants.{Safe, Own, Listed, Jump, Check, Other}
use Rattle.safety.specs.Nature.{nature_of}
use Rattle.safety.specs.Unsafe.{size_of, safe_put, Unsafe, unsafe_set, sets_in}
use Rattle.coloring.specs.Class.{holds, Neighbours, Chain, last}
use Rattle.coloring.specs.Labels.{touched, own_marked, use_marked, owns_marked, uses_marked}
use Rattle.files.proofs.Tests.{no_test}
use Rattle.coloring.proofs.Joining.{at, Sound, Together, Step, step_none, step_on, touched_step, touched_in, below_or, equal_or}

-- ---- the natures of the code, and the sets that they name

-- n is the nature of one of the instructions
pub data Named (size : ℕ → ℕ) (n : Nature) : List Instr → Type 0 where
  here : {i : Instr} {is : List Instr} → nature_of size (view i) ≡ n → Named size n (i ∷ is)
  there : {i : Instr} {is : List Instr} → Named size n is → Named size n (i ∷ is)

-- t is one of the lists
pub data In (t : List ℕ) : List (List ℕ) → Type 0 where
  head : {ts : List (List ℕ)} → In t (t ∷ ts)
  tail : {u : List ℕ} {ts : List (List ℕ)} → In t ts → In t (u ∷ ts)

pub in_place : {t : List ℕ} {ts : List (List ℕ)} → In t ts → (k : ℕ) × (k < length ts) × (get_or ts k [] ≡ t)
in_place head = (0, omega arith, refl)
in_place (tail h) = let r = in_place h in (suc r.0, omega (arith, r.1), r.2)

only_one : {t u : List ℕ} → In t (u ∷ []) → t ≡ u
only_one head = refl
only_one (tail h) = elim h [ ]

pub place_in : (ts : List (List ℕ)) (k : ℕ) → k < length ts → In (get_or ts k []) ts
place_in [] k h = absurd (omega arith)
place_in (t ∷ ts) zero h = head
place_in (t ∷ ts) (suc k) h = tail (place_in ts k (omega arith))

pub in_chain : {t : List ℕ} {ts : List (List ℕ)} → In t ts → (x y : ℕ) → holds t x ≡ true → holds t y ≡ true → Chain ts x y
in_chain {t} {ts} h x y p q =
    let r = in_place h in
    let n : Neighbours ts x y = record { at = r.0; inside = r.1; left = rw r.2 p; right = rw r.2 q } in
    last n

-- the sets of a nature
abbrev sets_by : Program → Nature → List (List ℕ)
sets_by p Safe = []
sets_by p (Own g) = (g ∷ []) ∷ []
sets_by p (Listed s) = get_or p.sets s [] ∷ []
sets_by p (Jump t) = []
sets_by p Check = []
sets_by p Other = []

module _ (p : Program) where
  abbrev pub sizes : ℕ → ℕ
  sizes g = size_of p.objects g

  by_put : (aim : Aim) (g : ℕ) (safe : Bool)
      → map (λ (u : Unsafe). u.set) (elim safe as (λ _. List Unsafe) [ true ↦ [] | false ↦ record { aim = aim; set = g ∷ [] } ∷ [] ])
      ≡ sets_by p (elim safe as (λ _. Nature) [ true ↦ Nature.Safe | false ↦ Nature.Own g ])
  by_put aim g true = refl
  by_put aim g false = refl

  -- an instruction's unsafe set is that of its nature
  unsafe_by : (v : View) → unsafe_set p v ≡ sets_by p (nature_of sizes v)
  unsafe_by (act x) = refl
  unsafe_by (jump t) = refl
  unsafe_by (jump_if a t) = refl
  unsafe_by (store (in_global g k w) b s) = by_put (in_global g k w) g (safe_put (sizes g) k (bytes w))
  unsafe_by (store (at_temp a w) b s) = refl
  unsafe_by (check aim c) = refl

  in_right : {t : List ℕ} (ss ts : List (List ℕ)) → In t ts → In t (ss ++ ts)
  in_right [] ts h = h
  in_right (s ∷ ss) ts h = tail (in_right ss ts h)

  in_cases : {t : List ℕ} (ss ts : List (List ℕ)) → In t (ss ++ ts) → (In t ss) ⊎ (In t ts)
  in_cases [] ts h = inr h
  in_cases (s ∷ ss) ts head = inl head
  in_cases (s ∷ ss) ts (tail h) = ⊎_elim (λ k. inl (tail k)) inr (in_cases ss ts h)

  pub own_in : {g : ℕ} {code : List Instr} → Named sizes (Own g) code → In (g ∷ []) (sets_in p code)
  unfolding sets_in
  own_in (here {i} e) = rw (unsafe_by (view i)) (rw e head)
  own_in (there {i} {is} h) = in_right (unsafe_set p (view i)) (sets_in p is) (own_in h)

  pub listed_in : {s : ℕ} {code : List Instr} → Named sizes (Listed s) code → In (get_or p.sets s []) (sets_in p code)
  unfolding sets_in
  listed_in (here {i} e) = rw (unsafe_by (view i)) (rw e head)
  listed_in (there {i} {is} h) = in_right (unsafe_set p (view i)) (sets_in p is) (listed_in h)

  -- where a set comes from
  pub data From (code : List Instr) : List ℕ → Type 0 where
    own : {g : ℕ} → Named sizes (Own g) code → From code (g ∷ [])
    listed : {s : ℕ} → Named sizes (Listed s) code → From code (get_or p.sets s [])

  from_later : {i : Instr} {code : List Instr} {t : List ℕ} → From code t → From (i ∷ code) t
  from_later (own h) = own (there h)
  from_later (listed h) = listed (there h)

  from_here : (i : Instr) (code : List Instr) (t : List ℕ) (n : Nature) → nature_of sizes (view i) ≡ n → In t (sets_by p n) → From (i ∷ code) t
  from_here i code t Safe e h = elim h [ ]
  from_here i code t (Own g) e h = rw (only_one h) (own (here e))
  from_here i code t (Listed s) e h = rw (only_one h) (listed (here e))
  from_here i code t (Jump _) e h = elim h [ ]
  from_here i code t Check e h = elim h [ ]
  from_here i code t Other e h = elim h [ ]

  pub set_from : (code : List Instr) {t : List ℕ} → In t (sets_in p code) → From code t
  unfolding sets_in
  set_from [] {t} h = elim h [ ]
  set_from (i ∷ code) {t} h =
      ⊎_elim
      (λ k. from_here i code t (nature_of sizes (view i)) refl (rw (unsafe_by (view i)) at k))
      (λ k. from_later (set_from code k))
      (in_cases (unsafe_set p (view i)) (sets_in p code) h)

-- ---- what they do

module _ (sets : List (List ℕ)) (size : ℕ → ℕ) where
  abbrev Fine : Nature → Type 0
  Fine n = (g : ℕ) → n ≡ Own g → (g < 400) × Chain sets g g

  mark_own : (l : List ℕ) (g : ℕ) → g < 400 → own_marked l (Own g) ≡ touched l g
  mark_own l g h = rw (lt-ltb g 400 h, own_marked)

  mark_step : (n : Nature) (l : List ℕ) → Sound sets l → Fine n → Step sets l (own_marked l n)
  mark_step Safe l s f = step_none sets l s
  mark_step (Own g) l s f = rw (mark_own l g (f g refl).0) (touched_step sets l s g (f g refl).0 (f g refl).1)
  mark_step (Listed t) l s f = step_none sets l s
  mark_step (Jump t) l s f = step_none sets l s
  mark_step Check l s f = step_none sets l s
  mark_step Other l s f = step_none sets l s

  mark_in : (l : List ℕ) (g : ℕ) (n : Nature) → Sound sets l → g < 400 → n ≡ Own g → at (own_marked l n) g < 400
  mark_in l g n s h e = rw e (rw (mark_own l g h) (touched_in sets l s g h))

  pub record OwnsMarked (code : List Instr) (l m : List ℕ) : Type 0 where
    pub step : Step sets l m
    pub inside : (g : ℕ) → Named size (Own g) code → Together m g g

  pub owns_marked_lem : (code : List Instr) (l : List ℕ) → Sound sets l → ((g : ℕ) → Named size (Own g) code → (g < 400) × Chain sets g g) → OwnsMarked code l (owns_marked size l code)
  owns_marked_lem [] l s f = record { step = step_none sets l s; inside = λ g h. elim h [ ] }
  owns_marked_lem (i ∷ is) l s f =
      let n : Nature = nature_of size (view i) in
      let one : Step sets l (own_marked l n) = mark_step n l s (λ g e. f g (here e)) in
      let r : OwnsMarked is (own_marked l n) (owns_marked size (own_marked l n) is) = owns_marked_lem is (own_marked l n) one.sound (λ g h. f g (there h)) in
      record { step = step_on one r.step; inside = within (own_marked l n) (owns_marked size (own_marked l n) is) r (λ g e b. mark_in l g n s b e) }
    where
      within : (k m : List ℕ) → OwnsMarked is k m → ((g : ℕ) → nature_of size (view i) ≡ Own g → g < 400 → at k g < 400)
          → (g : ℕ) → Named size (Own g) (i ∷ is) → Together m g g
      within k m r z g (here e) =
          let b : g < 400 = (f g (here e)).0 in
          r.step.kept g g b b (z g e b, refl)
      within k m r z g (there h) = r.inside g h

-- the sets in use
module _ (size : ℕ → ℕ) where
  use_inside : (u : List Bool) (s : ℕ) → s < 400 → use_marked u (Listed s) ≡ set u s true
  use_inside u s h = rw (lt-ltb s 400 h, use_marked)

  use_past : (u : List Bool) (s : ℕ) → 400 ≤ s → use_marked u (Listed s) ≡ u
  use_past u s h = rw (le-ltb s 400 h, use_marked)

  use_wide : (n : Nature) (u : List Bool) → length (use_marked u n) ≡ length u
  use_wide Safe u = refl
  use_wide (Own g) u = refl
  use_wide (Listed s) u =
      ⊎_elim (λ b. rw (use_inside u s b) (length-set u s true)) (λ b. rw (use_past u s b)) (below_or s 400)
  use_wide (Jump t) u = refl
  use_wide Check u = refl
  use_wide Other u = refl

  -- what is in use after one instruction: what was, and its own set
  set_kept : (u : List Bool) (s t : ℕ) → get_or u t false ≡ true → get_or (set u s true) t false ≡ true
  set_kept u s t h =
      ⊎_elim
      (λ (e : t ≡ s).
      ⊎_elim
      (λ b. rw e (get_or-set_same u s true false b))
      (λ b. no_test h (lib.ListN.get_or-eq_default u false (omega (arith, b, e))))
      (below_or s (length u)))
      (λ n. get_or-set_other u s t true false n ∙ h)
      (equal_or t s)

  set_only : (u : List Bool) (s t : ℕ) → get_or (set u s true) t false ≡ true → (get_or u t false ≡ true) ⊎ (t ≡ s)
  set_only u s t h = ⊎_elim inr (λ n. inl (sym (get_or-set_other u s t true false n) ∙ h)) (equal_or t s)

  use_kept : (n : Nature) (u : List Bool) (t : ℕ) → get_or u t false ≡ true → get_or (use_marked u n) t false ≡ true
  use_kept Safe u t h = h
  use_kept (Own g) u t h = h
  use_kept (Listed s) u t h =
      ⊎_elim (λ b. rw (use_inside u s b) (set_kept u s t h)) (λ b. rw (use_past u s b) h) (below_or s 400)
  use_kept (Jump p) u t h = h
  use_kept Check u t h = h
  use_kept Other u t h = h

  use_only : (n : Nature) (u : List Bool) (t : ℕ) → get_or (use_marked u n) t false ≡ true → (get_or u t false ≡ true) ⊎ (n ≡ Listed t)
  use_only Safe u t h = inl h
  use_only (Own g) u t h = inl h
  use_only (Listed s) u t h =
      ⊎_elim
      (λ b. ⊎_elim inl (λ e. inr (ap Listed (sym e))) (set_only u s t (rw (use_inside u s b) at h)))
      (λ b. inl (rw (use_past u s b) at h))
      (below_or s 400)
  use_only (Jump p) u t h = inl h
  use_only Check u t h = inl h
  use_only Other u t h = inl h

  pub uses_kept : (code : List Instr) (u : List Bool) (t : ℕ) → get_or u t false ≡ true → get_or (uses_marked size u code) t false ≡ true
  uses_kept [] u t h = h
  uses_kept (i ∷ is) u t h = uses_kept is (use_marked u (nature_of size (view i))) t (use_kept (nature_of size (view i)) u t h)

  pub uses_only : (code : List Instr) (u : List Bool) (t : ℕ) → get_or (uses_marked size u code) t false ≡ true → (get_or u t false ≡ true) ⊎ Named size (Listed t) code
  uses_only [] u t h = inl h
  uses_only (i ∷ is) u t h =
      ⊎_elim
      (λ k. ⊎_elim inl (λ e. inr (here e)) (use_only (nature_of size (view i)) u t k))
      (λ k. inr (there k))
      (uses_only is (use_marked u (nature_of size (view i))) t h)

  pub uses_named : (code : List Instr) (u : List Bool) (t : ℕ) → length u ≡ 400 → t < 400 → Named size (Listed t) code → get_or (uses_marked size u code) t false ≡ true
  uses_named [] u t w b h = elim h [ ]
  uses_named (i ∷ is) u t w b (here e) =
      uses_kept is (use_marked u (nature_of size (view i))) t
      (rw e (rw (use_inside u t b) (get_or-set_same u t true false (omega (arith, w)))))
  uses_named (i ∷ is) u t w b (there h) =
      uses_named is (use_marked u (nature_of size (view i))) t (use_wide (nature_of size (view i)) u ∙ w) b h
