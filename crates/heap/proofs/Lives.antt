-- FREE: the live block that the loop finds is the one that the definition frees.
--
-- The picture: by induction over the walk, the list of blocks has no live block whose body is at the
-- address, and then the loop found 0 and the definition answers bad; or it has one, and then the loop
-- found where the joined block starts. Behind a block whose body is at the address the headers lie
-- higher, so the loop changes nothing more; what the block behind adds is read at its header, which was
-- walked, so the joined block ends at or below the end slot.
use Prim.Native.Nat.{ℕ, zero, suc, ◌+◌, ◌-◌, ◌≤◌, ◌<◌}
use mathlib.Core.Path.{◌≡◌, refl, sym, ap, ap₂, ◌∙◌, subst}
use mathlib.Core.Bool.{Bool, true, false}
use mathlib.Core.Logic.{◌⊎◌, inl, inr}
use mathlib.Core.List.{List, [], ◌∷◌}
use native.Mathlib.Omega.{arith}
use lib.ListN.{length}
use lib.Dec.{eqb}
use borrow.Author.Tests.{eq-eqb, ne_eqb, eqb-true}
use Rattle.std.specs.Prelude.{Result, Ok, Err, ⊤}
use Rattle.heap.specs.declared.HeapError.{HeapError}
use Rattle.memory.specs.Memory.{memory_size, table_size, exact, number_at, paint}
use Rattle.heap.specs.Heap.{Block, Freed, Free, is_free, end_slot, heap_start, block_at, sound, Walk, unsound, blocks, with_block, walk_from, walk, put_header, spare, free_in, free_walked, free}
use Rattle.heap.specs.Lent.{After, after_free, released}
use Rattle.heap.specs.Search.{spare_of, spare_at, start_of, start_in, live_in, whole_of, Joining}
use Rattle.heap.proofs.Exact.{released_exact}
use Rattle.heap.proofs.Walks.{Sound, sound_says, next_of, spare_below}

module _ (m : List ℕ) where
  -- ---- what the first of the blocks that are left adds

  abbrev SpareIn : (at : ℕ) → Walk → Type 0
  SpareIn at unsound = Unit {0}
  SpareIn at (blocks bs) = (spare bs ≡ spare_at m at) × (at + spare_at m at ≤ end_slot)

  spare_walk : (left at : ℕ) → at ≤ end_slot → SpareIn at (walk_from left m at)
  unfolding walk_from block_at
  spare_walk left at high = go left (eqb at end_slot) refl (sound (block_at m at)) refl
    where
      at_end : eqb at end_slot ≡ true → SpareIn at (blocks [])
      at_end e =
          let none : spare_at m at ≡ 0 = rw (e, spare_at) refl in
          (sym none, omega arith)

      on : eqb at end_slot ≡ false → sound (block_at m at) ≡ true → (w : Walk) → SpareIn at (with_block (block_at m at) w)
      on e s unsound = tt
      on e s (blocks bs) =
          let here : spare_at m at ≡ spare_of (block_at m at) = rw (e, spare_at) refl in
          let known : Sound at (number_at 4 m at) = sound_says (block_at m at) s in
          let less : spare_at m at ≤ 8 + number_at 4 m at = spare_below at (number_at 4 m at) (number_at 4 m (at + 4)) (spare_at m at) here in
          (sym here, omega arith)

      go : (n : ℕ) (x : Bool) → eqb at end_slot ≡ x → (y : Bool) → sound (block_at m at) ≡ y → SpareIn at (walk_from n m at)
      go zero true e y s = rw (e, walk_from) (at_end e)
      go zero false e y s = rw (e, walk_from) tt
      go (suc n) true e y s = rw (e, walk_from) (at_end e)
      go (suc n) false e true s = rw (e, s, walk_from) (on e s (walk_from n m (next_of m at)))
      go (suc n) false e false s = rw (e, s, walk_from) tt

  sound_at : {at : ℕ} → sound (block_at m at) ≡ true → Sound at (block_at m at).size
  unfolding block_at
  sound_at {at} s = sound_says (block_at m at) s

  module _ (address : ℕ) where
    -- ---- behind the address nothing changes

    abbrev StaysIn : Walk → Type 0
    StaysIn unsound = Unit {0}
    StaysIn (blocks bs) = (start spare : ℕ) → start_in start spare address bs ≡ start

    stays_walk : (left at : ℕ) → address < at + 8 → StaysIn (walk_from left m at)
    unfolding walk_from start_in block_at
    stays_walk zero at above = go (eqb at end_slot) refl
      where
        go : (x : Bool) → eqb at end_slot ≡ x → StaysIn (walk_from zero m at)
        go true e = rw (e, walk_from) (λ start sp. refl)
        go false e = rw (e, walk_from) tt
    stays_walk (suc left) at above = go (eqb at end_slot) refl (sound (block_at m at)) refl (stays_walk left (next_of m at) (omega arith))
      where
        on : (w : Walk) → StaysIn w → StaysIn (with_block (block_at m at) w)
        on unsound later = tt
        on (blocks bs) later = λ start sp.
            let same : start_of start sp address (block_at m at) ≡ start = rw (ne_eqb (at + 8) address (λ e. omega arith), start_of) refl in
            ap (λ x. start_in x (spare_of (block_at m at)) address bs) same ∙ later start (spare_of (block_at m at))

        go : (x : Bool) → eqb at end_slot ≡ x → (y : Bool) → sound (block_at m at) ≡ y → StaysIn (walk_from left m (next_of m at))
            → StaysIn (walk_from (suc left) m at)
        go true e y s later = rw (e, walk_from) (λ start sp. refl)
        go false e true s later = rw (e, s, walk_from) (on (walk_from left m (next_of m at)) later)
        go false e false s later = rw (e, s, walk_from) tt

    -- ---- the search

    -- the joined block's start, and that it ends at or below the end slot
    pub record Joins (start : ℕ) : Type 0 where
      pub low : heap_start ≤ start
      pub above : start + 8 ≤ address
      pub next : address + number_at 4 m (address - 8) ≤ end_slot
      pub ends : address + number_at 4 m (address - 8) + spare_at m (address + number_at 4 m (address - 8)) ≤ end_slot

    abbrev joined : (start : ℕ) → Freed
    joined start = record { header = start; size = whole_of m start address; memory = put_header m start (whole_of m start address) 0 }

    data Lives (previous bs : List Block) : Type 0 where
      missing : start_in 0 (spare previous) address bs ≡ 0 → free_in m previous bs address ≡ Free.bad → Lives previous bs
      live : (start : ℕ) → start_in 0 (spare previous) address bs ≡ start → free_in m previous bs address ≡ Free.freed
          (joined start) → Joins start → Lives previous bs

    abbrev LivesIn : (previous : List Block) → Walk → Type 0
    LivesIn previous unsound = Unit {0}
    LivesIn previous (blocks bs) = Lives previous bs

    module _ (previous : List Block) (at : ℕ) (low : spare previous + heap_start ≤ at) (s : sound (block_at m at) ≡ true) where
      -- a block whose body is elsewhere changes nothing but what is before
      passed : (bs : List Block) → eqb (at + 8) address ≡ false → Lives (block_at m at ∷ []) bs → Lives previous (block_at m at ∷ bs)
      unfolding start_in free_in block_at
      passed bs e (missing f g) =
          missing (ap (λ x. start_in x (spare_of (block_at m at)) address bs) (rw (e, start_of) refl) ∙ f) (rw (e, free_in) g)
      passed bs e (live start f g k) =
          live start (ap (λ x. start_in x (spare_of (block_at m at)) address bs) (rw (e, start_of) refl) ∙ f) (rw (e, free_in) g) k

      lives_cons : (bs : List Block) → (address ≡ at + 8 → StaysIn (blocks bs)) → SpareIn (next_of m at) (blocks bs) → Lives
          (block_at m at ∷ []) bs → Lives previous (block_at m at ∷ bs)
      unfolding start_in free_in block_at
      lives_cons bs stays spared later = go (eqb (at + 8) address) refl (is_free (block_at m at)) refl
        where
          known : Sound at (number_at 4 m at)
          known = sound_says (block_at m at) s

          go : (x : Bool) → eqb (at + 8) address ≡ x → (y : Bool) → is_free (block_at m at) ≡ y → Lives previous (block_at m at ∷ bs)
          go true e true f =
              let same : start_of 0 (spare previous) address (block_at m at) ≡ 0 = rw (e, f, start_of) refl in
              missing
              (ap (λ x. start_in x (spare_of (block_at m at)) address bs) same ∙ stays (sym (eqb-true (at + 8) address e)) 0
              (spare_of (block_at m at)))
              (rw (e, f, free_in) refl)
          go true e false f =
              let is : at + 8 ≡ address = eqb-true (at + 8) address e in
              let start : ℕ = at - spare previous in
              let found : start_of 0 (spare previous) address (block_at m at) ≡ start = rw (e, f, start_of) refl in
              let back : address - 8 ≡ at = omega arith in
              let size : number_at 4 m (address - 8) ≡ number_at 4 m at = ap (number_at 4 m) back in
              let next : address + number_at 4 m (address - 8) ≡ next_of m at = omega arith in
              let behind : spare_at m (address + number_at 4 m (address - 8)) ≡ spare_at m (next_of m at) = ap (spare_at m) next in
              let whole : spare previous + number_at 4 m at + spare bs ≡ whole_of m start address = omega (arith, spared.0, behind, size) in
              live start (ap (λ x. start_in x (spare_of (block_at m at)) address bs) found ∙ stays (sym is) start (spare_of (block_at m at)))
              (rw (e, f, free_in) (ap (λ x. Free.freed (record { header = start; size = x; memory = put_header m start x 0 })) whole))
              (record {
                low = omega arith;
                above = omega arith;
                next = omega (arith, known.ends);
                ends = omega
                    (arith, spared.1, behind, next);
              })
          go false e y f = passed bs e later

      with_block_lem : (w : Walk) → (address ≡ at + 8 → StaysIn w) → SpareIn (next_of m at) w → LivesIn (block_at m at ∷ []) w
          → LivesIn previous (with_block (block_at m at) w)
      with_block_lem unsound stays spared later = tt
      with_block_lem (blocks bs) stays spared later = lives_cons bs stays spared later

    lives_walk : (left at : ℕ) (previous : List Block) → spare previous + heap_start ≤ at → at ≤ end_slot → LivesIn previous
        (walk_from left m at)
    unfolding walk_from start_in free_in
    lives_walk zero at previous low high = go (eqb at end_slot) refl
      where
        go : (x : Bool) → eqb at end_slot ≡ x → LivesIn previous (walk_from zero m at)
        go true e = rw (e, walk_from) (missing refl refl)
        go false e = rw (e, walk_from) tt
    lives_walk (suc left) at previous low high =
        go (eqb at end_slot) refl (sound (block_at m at)) refl
        (λ known. lives_walk left (next_of m at) (block_at m at ∷ []) (spare_low known) known.ends)
      where
        spare_low : Sound at (block_at m at).size → spare (block_at m at ∷ []) + heap_start ≤ next_of m at
        spare_low known = omega (arith, spare_below at (block_at m at).size (block_at m at).mark (spare_of (block_at m at)) refl)

        go : (x : Bool) → eqb at end_slot ≡ x → (y : Bool) → sound (block_at m at) ≡ y
            → (Sound at (block_at m at).size → LivesIn (block_at m at ∷ []) (walk_from left m (next_of m at))) → LivesIn previous
            (walk_from (suc left) m at)
        go true e y s later = rw (e, walk_from) (missing refl refl)
        go false e true s later =
            let known : Sound at (block_at m at).size = sound_at s in
            rw (e, s, walk_from)
            (with_block_lem previous at low s (walk_from left m (next_of m at)) (λ is. stays_walk left (next_of m at) (omega arith))
            (spare_walk left (next_of m at) known.ends) (later known))
        go false e false s later = rw (e, s, walk_from) tt

-- ---- what FREE answers

module _ (m : List ℕ) (address start : ℕ) (f : Ok start ≡ live_in 0 0 address (walk m)) where
  -- what the loop found stands in the walk
  found : (bs : List Block) × ((walk m ≡ blocks bs) × ((start ≡ start_in 0 0 address bs) × Lives m address [] bs))
  found = go (walk m) refl f (lives_walk m address 1792 heap_start [] (omega arith) (omega arith))
    where
      go : (w : Walk) → walk m ≡ w → Ok start ≡ live_in 0 0 address w → LivesIn m address [] w
          → (bs : List Block) × ((walk m ≡ blocks bs) × ((start ≡ start_in 0 0 address bs) × Lives m address [] bs))
      go unsound q f k = cc
      go (blocks bs) q f k = (bs, (q, (cc, k)))

  pub found_joins : (t : List ℕ) → length m ≡ memory_size → length t ≡ table_size → (start ≡ 0 → ⊥) → Joining m t start address
  found_joins t hm ht some = go found.1.1.0 found.1.1.1
    where
      go : {bs : List Block} → start ≡ start_in 0 0 address bs → Lives m address [] bs → Joining m t start address
      go e (missing z n) = absurd (some (e ∙ z))
      go e (live s z n k) =
          subst (λ x. Joining m t x address) (sym (e ∙ z))
          (record { memory = hm; table = ht; above = k.above; next = k.next; ends = k.ends })

-- the answer, and what memory and table hold afterwards
abbrev after : (answer : Result ⊤ HeapError) → (memory table : List ℕ) → After (Result ⊤ HeapError)
after answer m t = record { answer = answer; memory = m; table = t }

module _ (m t : List ℕ) (address : ℕ) where
  pub wrong_length : (length m ≡ memory_size → ⊥) ⊎ ((length m ≡ memory_size) × (length t ≡ table_size → ⊥))
      → released m t address ≡ after (Err HeapError.WrongLength) m t
  unfolding released
  wrong_length (inl h) = rw (ne_eqb (length m) memory_size h, exact, released) refl
  wrong_length (inr h) = rw (eq-eqb (length m) memory_size h.0, ne_eqb (length t) table_size h.1, exact, released) refl

  module _ (hm : length m ≡ memory_size) (ht : length t ≡ table_size) where
    by : (w : Walk) → walk m ≡ w → (a : Free) → free_walked m address w ≡ a → released m t address ≡ after_free m t a
    unfolding free
    by w q a e =
        released_exact m t hm ht address ∙ ap (λ x. after_free m t (free_walked m address x)) q ∙ ap (after_free m t) e

    pub stopped : (e : HeapError) → Err e ≡ live_in 0 0 address (walk m) → released m t address ≡ after (Err e) m t
    stopped e = go (walk m) refl
      where
        go : (w : Walk) → walk m ≡ w → Err e ≡ live_in 0 0 address w → released m t address ≡ after (Err e) m t
        go unsound q f = let is : HeapError.Unsound ≡ e = cc in by unsound q Free.stopped refl ∙ ap (λ x. after (Err x) m t) is
        go (blocks bs) q f = cc

    module _ (start : ℕ) (f : Ok start ≡ live_in 0 0 address (walk m)) where
      pub found_none : start ≡ 0 → released m t address ≡ after (Err HeapError.BadAddress) m t
      found_none none = let w = found m address start f in go w.1.0 w.1.1.0 w.1.1.1
        where
          go : {bs : List Block} → walk m ≡ blocks bs → start ≡ start_in 0 0 address bs → Lives m address [] bs
              → released m t address ≡ after (Err HeapError.BadAddress) m t
          go {bs} q e (missing z n) = by (blocks bs) q Free.bad n
          go q e (live s z n k) = let low : heap_start ≤ s = k.low in absurd (omega (arith, none, e, z, low))

      pub found_freed : (start ≡ 0 → ⊥)
          → released m t address
          ≡ after (Ok tt) (put_header m start (whole_of m start address) 0) (paint t (start + 8) (whole_of m start address) 0)
      found_freed some = let w = found m address start f in go w.1.0 w.1.1.0 w.1.1.1
        where
          go : {bs : List Block} → walk m ≡ blocks bs → start ≡ start_in 0 0 address bs → Lives m address [] bs
              → released m t address
              ≡ after (Ok tt) (put_header m start (whole_of m start address) 0) (paint t (start + 8) (whole_of m start address) 0)
          go q e (missing z n) = absurd (some (e ∙ z))
          go {bs} q e (live s z n k) = by (blocks bs) q _ n ∙ ap (λ x. after_free m t (Free.freed (joined m address x))) (sym (e ∙ z))

-- each return by its law
pub ruleset free_answers = (wrong_length, stopped, found_none, found_freed)

-- where the joined block ends
pub joined_end : (m : List ℕ) (address size spare : ℕ) → size ≡ number_at 4 m (address - 8) → spare ≡ spare_at m (address + size)
    → address + size + spare ≡ address + number_at 4 m (address - 8) + spare_at m (address + number_at 4 m (address - 8))
joined_end m address size spare e₁ e₂ = ap₂ (λ x y. address + x + y) e₁ (e₂ ∙ ap (λ x. spare_at m (address + x)) e₁)
