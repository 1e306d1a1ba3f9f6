-- ALLOC: the first fit that the loop finds is the block that the definition takes.
--
-- The picture: by induction over the walk, the list of blocks has no free block that holds the size, and
-- then the loop found 0 and the definition answers nothing; or it has one, and then the loop found its
-- header, the definition takes the block that stands there, and that header was walked, so it is sound.
use Prim.Native.Nat.{ℕ, zero, suc, ◌+◌, ◌≤◌, ◌<◌}
use mathlib.Core.Path.{◌≡◌, refl, sym, ap, ◌∙◌, subst}
use mathlib.Core.Bool.{Bool, true, false}
use mathlib.Core.Logic.{◌⊎◌, inl, inr}
use mathlib.Core.List.{List, [], ◌∷◌}
use native.Mathlib.Omega.{arith}
use lib.ListN.{length}
use lib.Dec.{leb, eqb}
use borrow.Author.Tests.{le-leb, lt-leb, eq-eqb, ne_eqb, leb-true}
use Rattle.opcodes.specs.View.{extent}
use Rattle.std.specs.Prelude.{Result, Ok, Err, Option, None}
use Rattle.heap.specs.declared.HeapError.{HeapError}
use Rattle.memory.specs.Memory.{memory_size, table_size, exact, number_at}
use Rattle.heap.specs.Heap.{Block, Alloc, is_free, end_slot, heap_start, block_at, sound, Walk, unsound, blocks, with_block, walk_from, walk, take_block, first_fit, alloc_in, alloc}
use Rattle.heap.specs.Lent.{After, after_alloc, allocated}
use Rattle.heap.specs.Search.{first_of, found_in, fit_in, Fitting}
use Rattle.heap.proofs.Exact.{allocated_exact}
use Rattle.heap.proofs.Walks.{Sound, sound_says, next_of}

-- a header that was found stays
found_stays : (found want : ℕ) (bs : List Block) → (found ≡ 0 → ⊥) → found_in found want bs ≡ found
unfolding found_in
found_stays found want [] h = refl
found_stays found want (b ∷ bs) h =
    let e : first_of found want b ≡ found = rw (ne_eqb found 0 h, first_of) refl in
    ap (λ x. found_in x want bs) e ∙ found_stays found want bs h

module _ (m : List ℕ) (want : ℕ) where
  -- a sound header above the heap's start, whose block holds the size
  pub record Holds (header : ℕ) : Type 0 where
    pub low : heap_start ≤ header
    pub ends : header + 8 + number_at 4 m header ≤ end_slot
    pub holds : want ≤ number_at 4 m header

  pub data Fits (bs : List Block) : Type 0 where
    none : found_in 0 want bs ≡ 0 → ((mark : ℕ) → first_fit m bs want mark ≡ Alloc.nothing) → Fits bs
    one : (header : ℕ) → found_in 0 want bs ≡ header
        → ((mark : ℕ) → first_fit m bs want mark ≡ Alloc.made (take_block m (block_at m header) want mark))
        → Holds header → Fits bs

  abbrev FitsIn : Walk → Type 0
  FitsIn unsound = Unit {0}
  FitsIn (blocks bs) = Fits bs

  module _ (at : ℕ) (low : heap_start ≤ at) (s : sound (block_at m at) ≡ true) where
    -- a block that does not fit changes nothing
    passed : (bs : List Block) → first_of 0 want (block_at m at) ≡ 0
        → ((mark : ℕ) → first_fit m (block_at m at ∷ bs) want mark ≡ first_fit m bs want mark) → Fits bs → Fits (block_at m at ∷ bs)
    unfolding found_in
    passed bs f g (none e h) = none (ap (λ x. found_in x want bs) f ∙ e) (λ mark. g mark ∙ h mark)
    passed bs f g (one header e h k) = one header (ap (λ x. found_in x want bs) f ∙ e) (λ mark. g mark ∙ h mark) k

    fits_cons : (bs : List Block) → Fits bs → Fits (block_at m at ∷ bs)
    unfolding found_in first_fit block_at
    fits_cons bs fits = go (is_free (block_at m at)) refl (leb want (block_at m at).size) refl
      where
        known : Sound at (number_at 4 m at)
        known = sound_says (block_at m at) s

        go : (x : Bool) → is_free (block_at m at) ≡ x → (y : Bool) → leb want (block_at m at).size ≡ y → Fits (block_at m at ∷ bs)
        go true e true f =
            let first : first_of 0 want (block_at m at) ≡ at = rw (e, f, first_of) refl in
            one at (ap (λ x. found_in x want bs) first ∙ found_stays at want bs (λ z. omega arith))
            (λ mark. rw (e, f, first_fit) refl)
            (record { low = low; ends = known.ends; holds = leb-true want (number_at 4 m at) f })
        go true e false f = passed bs (rw (e, f, first_of) refl) (λ mark. rw (e, f, first_fit) refl) fits
        go false e y f = passed bs (rw (e, first_of) refl) (λ mark. rw (e, first_fit) refl) fits

    with_block_lem : (w : Walk) → FitsIn w → FitsIn (with_block (block_at m at) w)
    with_block_lem unsound fits = tt
    with_block_lem (blocks bs) fits = fits_cons bs fits

  pub fits_walk : (left at : ℕ) → heap_start ≤ at → FitsIn (walk_from left m at)
  unfolding walk_from found_in first_fit
  fits_walk zero at low = go (eqb at end_slot) refl
    where
      go : (x : Bool) → eqb at end_slot ≡ x → FitsIn (walk_from zero m at)
      go true e = rw (e, walk_from) (none refl (λ mark. refl))
      go false e = rw (e, walk_from) tt
  fits_walk (suc left) at low =
      let later : FitsIn (walk_from left m (next_of m at)) = fits_walk left (next_of m at) (omega arith) in
      go (eqb at end_slot) refl (sound (block_at m at)) refl later
    where
      go : (x : Bool) → eqb at end_slot ≡ x → (y : Bool) → sound (block_at m at) ≡ y → FitsIn (walk_from left m (next_of m at))
          → FitsIn (walk_from (suc left) m at)
      go true e y s later = rw (e, walk_from) (none refl (λ mark. refl))
      go false e true s later = rw (e, s, walk_from) (with_block_lem at low s (walk_from left m (next_of m at)) later)
      go false e false s later = rw (e, s, walk_from) tt

-- ---- what ALLOC answers

module _ (m : List ℕ) (want header : ℕ) (f : Ok header ≡ fit_in 0 want (walk m)) where
  -- what the loop found stands in the walk
  found : (bs : List Block) × ((walk m ≡ blocks bs) × ((header ≡ found_in 0 want bs) × Fits m want bs))
  found = go (walk m) refl f (fits_walk m want 1792 heap_start (omega arith))
    where
      go : (w : Walk) → walk m ≡ w → Ok header ≡ fit_in 0 want w → FitsIn m want w
          → (bs : List Block) × ((walk m ≡ blocks bs) × ((header ≡ found_in 0 want bs) × Fits m want bs))
      go unsound q f k = cc
      go (blocks bs) q f k = (bs, (q, (cc, k)))

  pub found_fits : (t : List ℕ) → length m ≡ memory_size → length t ≡ table_size → (header ≡ 0 → ⊥) → Fitting m t header want
  found_fits t hm ht some = go found.1.1.0 found.1.1.1
    where
      go : {bs : List Block} → header ≡ found_in 0 want bs → Fits m want bs → Fitting m t header want
      go e (none z n) = absurd (some (e ∙ z))
      go e (one h z n k) = subst (λ x. Fitting m t x want) (sym (e ∙ z)) (record { memory = hm; table = ht; ends = k.ends; holds = k.holds })

-- the answer, and what memory and table hold afterwards
abbrev after : (answer : Result (Option ℕ) HeapError) → (memory table : List ℕ) → After (Result (Option ℕ) HeapError)
after answer m t = record { answer = answer; memory = m; table = t }

module _ (m t : List ℕ) (size site color : ℕ) where
  pub wrong_length : (length m ≡ memory_size → ⊥) ⊎ ((length m ≡ memory_size) × (length t ≡ table_size → ⊥))
      → allocated m t size site color ≡ after (Err HeapError.WrongLength) m t
  unfolding allocated
  wrong_length (inl h) = rw (ne_eqb (length m) memory_size h, exact, allocated) refl
  wrong_length (inr h) = rw (eq-eqb (length m) memory_size h.0, ne_eqb (length t) table_size h.1, exact, allocated) refl

  module _ (hm : length m ≡ memory_size) (ht : length t ≡ table_size) where
    by : (a : Alloc) → alloc m size site ≡ a → allocated m t size site color ≡ after_alloc m t color a
    by a e = allocated_exact m t hm ht size site color ∙ ap (after_alloc m t color) e

    pub no_size : (size ≡ 0) ⊎ ((size ≡ 0 → ⊥) × (4096 < size)) → allocated m t size site color ≡ after (Ok None) m t
    unfolding alloc
    no_size (inl h) = by Alloc.nothing (rw (eq-eqb size 0 h, alloc) refl)
    no_size (inr h) = by Alloc.nothing (rw (ne_eqb size 0 h.0, lt-leb size 4096 h.1, alloc) refl)

    module _ (some : size ≡ 0 → ⊥) (most : size ≤ 4096) (want : ℕ) (wanted : want ≡ extent size) where
      walked : (w : Walk) → walk m ≡ w → alloc m size site ≡ alloc_in m size site w
      unfolding alloc
      walked w e = rw (ne_eqb size 0 some, le-leb size 4096 most, alloc) (ap (alloc_in m size site) e)

      pub stopped : (e : HeapError) → Err e ≡ fit_in 0 want (walk m) → allocated m t size site color ≡ after (Err e) m t
      stopped e = go (walk m) refl
        where
          go : (w : Walk) → walk m ≡ w → Err e ≡ fit_in 0 want w → allocated m t size site color ≡ after (Err e) m t
          go unsound q f = let is : HeapError.Unsound ≡ e = cc in by Alloc.stopped (walked unsound q) ∙ ap (λ x. after (Err x) m t) is
          go (blocks bs) q f = cc

      module _ (header : ℕ) (f : Ok header ≡ fit_in 0 want (walk m)) where
        -- what is found in the walk decides
        first : {bs : List Block} (a : Alloc) → walk m ≡ blocks bs → first_fit m bs want (site + 1) ≡ a
            → allocated m t size site color ≡ after_alloc m t color a
        first {bs} a q e = by a (walked (blocks bs) q ∙ ap (λ x. first_fit m bs x (site + 1)) (sym wanted) ∙ e)

        pub found_none : header ≡ 0 → allocated m t size site color ≡ after (Ok None) m t
        found_none z = let w = found m want header f in go w.1.0 w.1.1.0 w.1.1.1
          where
            go : {bs : List Block} → walk m ≡ blocks bs → header ≡ found_in 0 want bs → Fits m want bs
                → allocated m t size site color ≡ after (Ok None) m t
            go q e (none z n) = first Alloc.nothing q (n (site + 1))
            go q e (one h z' n k) = let low : heap_start ≤ h = k.low in absurd (omega (arith, z, e, z', low))

        pub found_made : (header ≡ 0 → ⊥)
            → allocated m t size site color ≡ after_alloc m t color (Alloc.made (take_block m (block_at m header) want (site + 1)))
        found_made some = let w = found m want header f in go w.1.0 w.1.1.0 w.1.1.1
          where
            go : {bs : List Block} → walk m ≡ blocks bs → header ≡ found_in 0 want bs → Fits m want bs
                → allocated m t size site color ≡ after_alloc m t color (Alloc.made (take_block m (block_at m header) want (site + 1)))
            go q e (none z n) = absurd (some (e ∙ z))
            go q e (one h z n k) = first _ q (n (site + 1) ∙ ap (λ x. Alloc.made (take_block m (block_at m x) want (site + 1))) (sym (e ∙ z)))

-- each return by its law
pub ruleset alloc_answers = (wrong_length, no_size, stopped, found_none, found_made)
