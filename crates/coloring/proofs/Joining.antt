-- What the labels mean while they are made, whatever list of sets is complete in the end.
--
-- `Sound sets l`: a label is the lowest object that has it, and objects with one label are chained by
-- the sets. `Kept l m`: objects that l gives one label m gives one label too. Giving an object a label
-- and uniting two classes keep both, where the sets chain what is united; so does any sequence of them
-- (`Step`, which composes). In the end soundness says that labels join no more than chains do, and what
-- was kept says that they join no less.
use Prim.Native.Nat.{ℕ, ◌<◌, ◌≤◌}
use native.Mathlib.Omega.{arith}
use mathlib.Core.Path.{◌≡◌, refl, sym, ◌∙◌, ap}
use mathlib.Core.Logic.{◌⊎◌, inl, inr, ⊎_elim, ◌≢◌}
use mathlib.Core.List.{List, map}
use mathlib.Core.Bool.{Bool, true, false}
use lib.ListN.{length, get_or, set, length-set}
use lib.Seq.{get_or-set_same, get_or-set_other}
use lib.Dec.{eqb, ltb}
use borrow.Author.Tests.{eqb-true, eqb-false, ltb-true, ltb-false, lt-ltb, le-ltb, eq-eqb, ne_eqb}
use Rattle.std.proofs.Math.Nat.{max-eq_left, max-eq_right, min-eq_left, min-eq_right}
use Rattle.std.proofs.lemmas.List.{get_or-map, length-map}
use Rattle.coloring.specs.Class.{Chain}
use Rattle.coloring.specs.Labels.{touched, renamed, united, joined_to, Lowest}
use Rattle.coloring.proofs.Chains.{chain_append, chain_sym}

-- x's label
abbrev pub at : List ℕ → ℕ → ℕ
at l x = get_or l x 0

pub record Sound (sets : List (List ℕ)) (l : List ℕ) : Type 0 where
  pub wide : length l ≡ 400
  pub lowest : Lowest l
  pub chained : (x y : ℕ) → x < 400 → y < 400 → at l x < 400 → at l x ≡ at l y → Chain sets x y

-- of one class, by the labels
abbrev pub Together : List ℕ → ℕ → ℕ → Type 0
Together l x y = (at l x < 400) × (at l x ≡ at l y)

pub together_sym : (l : List ℕ) (x y : ℕ) → Together l x y → Together l y x
together_sym l x y h = (omega (arith, h.0, h.1), sym h.1)

pub together_trans : (l : List ℕ) (x y z : ℕ) → Together l x y → Together l y z → Together l x z
together_trans l x y z h k = (h.0, h.1 ∙ k.1)

abbrev pub Kept : List ℕ → List ℕ → Type 0
Kept l m = (x y : ℕ) → x < 400 → y < 400 → Together l x y → Together m x y

-- one step of the computation, or many
pub record Step (sets : List (List ℕ)) (l m : List ℕ) : Type 0 where
  pub sound : Sound sets m
  pub kept : Kept l m

pub step_none : (sets : List (List ℕ)) (l : List ℕ) → Sound sets l → Step sets l l
step_none sets l s = record { sound = s; kept = λ x y p q h. h }

pub step_on : {sets : List (List ℕ)} {l m n : List ℕ} → Step sets l m → Step sets m n → Step sets l n
step_on s t = record { sound = t.sound; kept = λ x y p q h. t.kept x y p q (s.kept x y p q h) }

pub equal_or : (x y : ℕ) → (x ≡ y) ⊎ (x ≢ y)
equal_or x y = go (eqb x y) refl
  where
    go : (b : Bool) → eqb x y ≡ b → (x ≡ y) ⊎ (x ≢ y)
    go true e = inl (eqb-true x y e)
    go false e = inr (eqb-false x y e)

pub below_or : (x y : ℕ) → (x < y) ⊎ (y ≤ x)
below_or x y = go (ltb x y) refl
  where
    go : (b : Bool) → ltb x y ≡ b → (x < y) ⊎ (y ≤ x)
    go true e = inl (ltb-true x y e)
    go false e = inr (ltb-false x y e)

-- ---- an object gets a label

touched_old : (l : List ℕ) (x : ℕ) → at l x < 400 → touched l x ≡ l
touched_old l x h = rw (lt-ltb (at l x) 400 h, touched)

touched_new : (l : List ℕ) (x : ℕ) → 400 ≤ at l x → touched l x ≡ set l x x
touched_new l x h = rw (le-ltb (at l x) 400 h, touched)

module _ (sets : List (List ℕ)) (l : List ℕ) (s : Sound sets l) (x : ℕ) (h : x < 400) where
  new_same : at (set l x x) x ≡ x
  new_same = get_or-set_same l x x 0 (omega (arith, s.wide))

  new_other : (y : ℕ) → y ≢ x → at (set l x x) y ≡ at l y
  new_other y n = get_or-set_other l x y x 0 n

  module _ (free : 400 ≤ at l x) (c : Chain sets x x) where
    -- no other object has the label x
    unlabelled : (y : ℕ) → y < 400 → at l y < 400 → at l y ≡ x → ⊥
    unlabelled y p q e =
        let f : at l (at l y) ≡ at l y = s.lowest.self y p q in
        let g : at l x ≡ x = rw e at f in
        omega arith

    new_sound : Sound sets (set l x x)
    new_sound =
        record {
          wide = length-set l x x ∙ s.wide;
          lowest =
              record {
                low = λ y p. ⊎_elim (λ (e : y ≡ x). λ q. rw e (omega (arith, new_same))) (λ n. rw (new_other y n) (s.lowest.low y p)) (equal_or y x);
                self = self';
              };
          chained = chained';
        }
      where
        self' : (y : ℕ) → y < 400 → at (set l x x) y < 400 → at (set l x x) (at (set l x x) y) ≡ at (set l x x) y
        self' y p q =
            ⊎_elim
            (λ (e : y ≡ x). rw e (rw new_same new_same))
            (λ n.
            let o : at (set l x x) y ≡ at l y = new_other y n in
            let q' : at l y < 400 = omega (arith, o, q) in
            rw o (new_other (at l y) (unlabelled y p q') ∙ s.lowest.self y p q'))
            (equal_or y x)

        chained' : (y z : ℕ) → y < 400 → z < 400 → at (set l x x) y < 400 → at (set l x x) y ≡ at (set l x x) z → Chain sets y z
        chained' y z p q b e =
            ⊎_elim
            (λ (f : y ≡ x). ⊎_elim
            (λ (g : z ≡ x). rw (f, g) c)
            (λ n.
            let a : at (set l x x) y ≡ x = rw f new_same in
            let o : at l z ≡ x = sym (new_other z n) ∙ sym e ∙ a in
            absurd (unlabelled z q (omega (arith, o)) o))
            (equal_or z x))
            (λ m. ⊎_elim
            (λ (g : z ≡ x).
            let a : at (set l x x) z ≡ x = rw g new_same in
            let o : at l y ≡ x = sym (new_other y m) ∙ e ∙ a in
            absurd (unlabelled y p (omega (arith, o)) o))
            (λ n. s.chained y z p q (omega (arith, new_other y m, b)) (sym (new_other y m) ∙ e ∙ new_other z n))
            (equal_or z x))
            (equal_or y x)

    new_kept : Kept l (set l x x)
    new_kept y z p q t =
        let m : y ≢ x = λ (e : y ≡ x). let f : at l x < 400 = rw e at t.0 in omega arith in
        let n : z ≢ x = λ (e : z ≡ x). let f : at l y ≡ at l x = rw e at t.1 in omega (arith, f, t.0) in
        (omega (arith, new_other y m, t.0), new_other y m ∙ t.1 ∙ sym (new_other z n))

  pub touched_step : Chain sets x x → Step sets l (touched l x)
  touched_step c =
      ⊎_elim
      (λ b. rw (touched_old l x b) (step_none sets l s))
      (λ b. rw (touched_new l x b) (record { sound = new_sound b c; kept = new_kept b c }))
      (below_or (at l x) 400)

  pub touched_in : at (touched l x) x < 400
  touched_in =
      ⊎_elim
      (λ b. rw (touched_old l x b) b)
      (λ b. rw (touched_new l x b) (omega (arith, new_same)))
      (below_or (at l x) 400)

-- ---- two classes become one

renamed_same : (from to v : ℕ) → v ≡ from → renamed from to v ≡ to
renamed_same from to v e = rw (eq-eqb v from e, renamed)

renamed_other : (from to v : ℕ) → v ≢ from → renamed from to v ≡ v
renamed_other from to v e = rw (ne_eqb v from e, renamed)

-- a label becomes the new one, or was another and stays
renamed_cases : (from to v : ℕ) → ((v ≡ from) × (renamed from to v ≡ to)) ⊎ ((v ≢ from) × (renamed from to v ≡ v))
renamed_cases from to v =
    ⊎_elim (λ e. inl (e, renamed_same from to v e)) (λ n. inr (n, renamed_other from to v n)) (equal_or v from)

-- the class of u gets the lower label of w's
module _ (sets : List (List ℕ)) (l : List ℕ) (s : Sound sets l) (u w : ℕ) (pu : u < 400) (pw : w < 400) (hu : at l u < 400) (le : at l w ≤ at l u) (c : Chain sets u w) where
  abbrev merged : List ℕ
  merged = map (renamed (at l u) (at l w)) l

  merged_at : (y : ℕ) → y < 400 → at merged y ≡ renamed (at l u) (at l w) (at l y)
  merged_at y h = get_or-map (renamed (at l u) (at l w)) l y 0 0 (omega (arith, s.wide))

  -- a label after it: the lower one where it was one of the two, and the same otherwise
  merged_cases : (y : ℕ) → y < 400 → ((at l y ≡ at l u) × (at merged y ≡ at l w)) ⊎ ((at l y ≢ at l u) × (at merged y ≡ at l y))
  merged_cases y h =
      ⊎_elim
      (λ e. inl (e.0, merged_at y h ∙ e.1))
      (λ n. inr (n.0, merged_at y h ∙ n.1))
      (renamed_cases (at l u) (at l w) (at l y))

  hw : at l w < 400
  hw = omega arith

  -- chained to u's class or to w's
  to_u : (y : ℕ) → y < 400 → at l y ≡ at l u → Chain sets y u
  to_u y h e = s.chained y u h pu (omega (arith, e)) e

  to_w : (y : ℕ) → y < 400 → at l y ≡ at l w → Chain sets y w
  to_w y h e = s.chained y w h pw (omega (arith, e, hw)) e

  merged_low : (y : ℕ) → y < 400 → at merged y < 400 → at merged y ≤ y
  merged_low y h b =
      ⊎_elim
      (λ e. omega (arith, e.0, e.1, s.lowest.low y h (omega (arith, e.0))))
      (λ n. omega (arith, n.1, s.lowest.low y h (omega (arith, n.1, b))))
      (merged_cases y h)

  -- the lower label keeps itself
  merged_w : at merged (at l w) ≡ at l w
  merged_w =
      let k : at l (at l w) ≡ at l w = s.lowest.self w pw hw in
      ⊎_elim (λ e. e.1) (λ n. n.1 ∙ k) (merged_cases (at l w) hw)

  merged_self : (y : ℕ) → y < 400 → at merged y < 400 → at merged (at merged y) ≡ at merged y
  merged_self y h b =
      ⊎_elim
      (λ e. ap (at merged) e.1 ∙ merged_w ∙ sym e.1)
      (λ n.
      let b' : at l y < 400 = omega (arith, n.1, b) in
      let k : at l (at l y) ≡ at l y = s.lowest.self y h b' in
      ap (at merged) n.1
      ∙ ⊎_elim
      (λ e. absurd (n.0 (sym k ∙ e.0)))
      (λ o. o.1 ∙ k)
      (merged_cases (at l y) b')
      ∙ sym n.1)
      (merged_cases y h)

  merged_chained : (y z : ℕ) → y < 400 → z < 400 → at merged y < 400 → at merged y ≡ at merged z → Chain sets y z
  merged_chained y z p q b e =
      ⊎_elim
      (λ f. ⊎_elim
      (λ g. s.chained y z p q (omega (arith, f.0)) (f.0 ∙ sym g.0))
      (λ g. chain_append (to_u y p f.0) (chain_append c (chain_sym (to_w z q (sym g.1 ∙ sym e ∙ f.1)))))
      (merged_cases z q))
      (λ f. ⊎_elim
      (λ g. chain_append (to_w y p (sym f.1 ∙ e ∙ g.1)) (chain_append (chain_sym c) (chain_sym (to_u z q g.0))))
      (λ g. s.chained y z p q (omega (arith, f.1, b)) (sym f.1 ∙ e ∙ g.1))
      (merged_cases z q))
      (merged_cases y p)

  merged_kept : Kept l merged
  merged_kept y z p q t =
      let same : at merged y ≡ at merged z = merged_at y p ∙ ap (renamed (at l u) (at l w)) t.1 ∙ sym (merged_at z q) in
      (⊎_elim (λ e. omega (arith, e.1, hw)) (λ n. omega (arith, n.1, t.0)) (merged_cases y p), same)

  merge_step : Step sets l merged
  merge_step =
      record {
        sound =
            record {
              wide = length-map l (renamed (at l u) (at l w)) ∙ s.wide;
              lowest = record { low = merged_low; self = merged_self };
              chained = merged_chained;
            };
        kept = merged_kept;
      }

  merge_together : Together merged u w
  merge_together =
      let eu : at merged u ≡ at l w = merged_at u pu ∙ renamed_same (at l u) (at l w) (at l u) refl in
      let ew : at merged w ≡ at l w = ⊎_elim (λ e. e.1) (λ n. n.1) (merged_cases w pw) in
      (omega (arith, eu, hw), eu ∙ sym ew)

-- the lower label is kept
united_first : (l : List ℕ) (a b : ℕ) → at l a ≤ at l b → united l a b ≡ map (renamed (at l b) (at l a)) l
united_first l a b h = rw (max-eq_right h, min-eq_left h)

united_second : (l : List ℕ) (a b : ℕ) → at l b ≤ at l a → united l a b ≡ map (renamed (at l a) (at l b)) l
united_second l a b h = rw (max-eq_left h, min-eq_right h)

-- any two labelled objects that are chained
module _ (sets : List (List ℕ)) (l : List ℕ) (s : Sound sets l) (a b : ℕ) (pa : a < 400) (pb : b < 400) (ha : at l a < 400) (hb : at l b < 400) (c : Chain sets a b) where
  united_step : Step sets l (united l a b)
  united_step =
      ⊎_elim
      (λ p. let h : at l a ≤ at l b = omega arith in rw (united_first l a b h) (merge_step sets l s b a pb pa hb h (chain_sym c)))
      (λ p. rw (united_second l a b p) (merge_step sets l s a b pa pb ha p c))
      (below_or (at l a) (at l b))

  united_together : Together (united l a b) a b
  united_together =
      ⊎_elim
      (λ p.
      let h : at l a ≤ at l b = omega arith in
      rw (united_first l a b h) (together_sym (map (renamed (at l b) (at l a)) l) b a (merge_together sets l s b a pb pa hb h (chain_sym c))))
      (λ p. rw (united_second l a b p) (merge_together sets l s a b pa pb ha p c))
      (below_or (at l a) (at l b))

-- b comes into the class of a, which has a class by then
module _ (sets : List (List ℕ)) (l : List ℕ) (s : Sound sets l) (a b : ℕ) (pa : a < 400) (pb : b < 400) (c : Chain sets a b) where
  touch : Step sets l (touched l b)
  touch = touched_step sets l s b pb (chain_append (chain_sym c) c)

  pub still_labelled : at l a < 400 → at (touched l b) a < 400
  still_labelled h = (touch.kept a a pa pa (h, refl)).0

  pub joined_step : at (touched l b) a < 400 → Step sets l (joined_to a l b)
  joined_step h = step_on touch (united_step sets (touched l b) touch.sound a b pa pb h (touched_in sets l s b pb) c)

  pub joined_together : at (touched l b) a < 400 → Together (joined_to a l b) a b
  joined_together h = united_together sets (touched l b) touch.sound a b pa pb h (touched_in sets l s b pb) c
