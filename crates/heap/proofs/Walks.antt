-- The walk, turn by turn: what a loop over the headers finds is what is found in the list of blocks.
--
-- The picture: at a header below the end slot the walk either stops there, because the header is
-- unsound, or is this block before the walk from the next header on. So a search that a loop carries
-- along stays the same, search so far and walk that is left together, until the walk that is left is
-- empty. A block takes at least 16 bytes, which is why the walk never runs out of turns.
use Prim.Native.Nat.{ℕ, zero, suc, ◌+◌, ◌*◌, ◌%◌, ◌≤◌, ◌<◌}
use mathlib.Core.Path.{◌≡◌, refl, sym, ap, ap₂, ◌∙◌}
use mathlib.Core.Bool.{Bool, true, false, false≢true}
use mathlib.Core.List.{List, []}
use native.Mathlib.Omega.{arith}
use lib.Dec.{leb, eqb}
use borrow.Author.Tests.{eq-eqb, ne_eqb, eqb-true, leb-true}
use Rattle.std.specs.Prelude.{Result, Ok}
use Rattle.heap.specs.declared.HeapError.{HeapError}
use Rattle.memory.specs.Memory.{number_at}
use Rattle.heap.specs.Heap.{Block, end_slot, heap_start, block_at, sound, Walk, unsound, blocks, with_block, walk_from, walk}
use Rattle.heap.specs.Search.{first_of, found_in, fit_in, spare_of, start_of, start_in, live_in}

-- the next header
abbrev pub next_of : List ℕ → (at : ℕ) → ℕ
next_of m at = at + 8 + (block_at m at).size

module _ (m : List ℕ) (left at : ℕ) where
  pub walk_end : at ≡ end_slot → walk_from left m at ≡ blocks []
  unfolding walk_from
  walk_end e = go left
    where
      go : (n : ℕ) → walk_from n m at ≡ blocks []
      go zero = rw (eq-eqb at end_slot e, walk_from) refl
      go (suc n) = rw (eq-eqb at end_slot e, walk_from) refl

  pub walk_stops : at < end_slot → sound (block_at m at) ≡ false → walk_from (suc left) m at ≡ unsound
  unfolding walk_from
  walk_stops h s = rw (ne_eqb at end_slot (λ e. omega arith), s, walk_from) refl

  pub walk_goes : at < end_slot → sound (block_at m at) ≡ true → walk_from (suc left) m at ≡ with_block (block_at m at)
      (walk_from left m (next_of m at))
  unfolding walk_from
  walk_goes h s = rw (ne_eqb at end_slot (λ e. omega arith), s, walk_from) refl

-- what a sound header says
pub record Sound (header size : ℕ) : Type 0 where
  pub whole : size % 8 ≡ 0
  pub long : 8 ≤ size
  pub ends : header + 8 + size ≤ end_slot

pub sound_says : (b : Block) → sound b ≡ true → Sound b.header b.size
unfolding sound
sound_says b = go (eqb (b.size % 8) 0) refl (leb 8 b.size) refl
  where
    go : (x : Bool) → eqb (b.size % 8) 0 ≡ x → (y : Bool) → leb 8 b.size ≡ y
        → elim x [ true ↦ elim y [ true ↦ leb (b.header + 8 + b.size) end_slot | false ↦ false ] | false ↦ false ] ≡ true
        → Sound b.header b.size
    go true e true e₂ h = record { whole = eqb-true _ _ e; long = leb-true _ _ e₂; ends = leb-true _ _ h }
    go true e false e₂ h = absurd (false≢true h)
    go false e y e₂ h = absurd (false≢true h)

-- ---- a search on its way

abbrev pub block_of : (header size mark : ℕ) → Block
block_of header size mark = record { header = header; size = size; mark = mark }

-- a loop stands at a header: what it has found so far, taken on over the walk that is left, is its goal
pub record Way (m : List ℕ) (at : ℕ) (search : Walk → Result ℕ HeapError) (goal : Result ℕ HeapError) : Type 0 where
  pub left : ℕ
  pub enough : end_slot + 8 ≤ at + 16 * left
  pub low : heap_start ≤ at
  pub high : at ≤ end_slot
  pub same : search (walk_from left m at) ≡ goal

pub way_starts : (m : List ℕ) (search : Walk → Result ℕ HeapError) → Way m heap_start search (search (walk m))
way_starts m search = record { left = 1792; enough = omega arith; low = omega arith; high = omega arith; same = refl }

module _ {m : List ℕ} {at : ℕ} {search : Walk → Result ℕ HeapError} {goal : Result ℕ HeapError} (way : Way m at search goal) where
  pub way_done : end_slot ≤ at → search (blocks []) ≡ goal
  way_done h =
      let high : at ≤ end_slot = way.high in
      sym (ap search (walk_end m way.left at (omega arith))) ∙ way.same

  -- below the end slot there is a turn left
  turn : at < end_slot → (n : ℕ) × (way.left ≡ suc n)
  turn h = go way.left way.enough
    where
      go : (n : ℕ) → end_slot + 8 ≤ at + 16 * n → (k : ℕ) × (n ≡ suc k)
      go zero e = absurd (omega arith)
      go (suc k) e = (k, refl)

  module _ (size : ℕ) (below : at < end_slot) (sized : size ≡ number_at 4 m at) where
    pub way_stops : sound (block_of at size 0) ≡ false → search unsound ≡ goal
    unfolding block_at sound
    way_stops s =
        let t = turn below in
        let s' : sound (block_at m at) ≡ false = ap (λ x. sound (block_of at x 0)) (sym sized) ∙ s in
        sym (ap search (ap (λ n. walk_from n m at) t.1 ∙ walk_stops m t.0 at below s')) ∙ way.same

    pub says : sound (block_of at size 0) ≡ true → Sound at size
    says s = sound_says (block_of at size 0) s

    pub way_goes : (mark : ℕ) → mark ≡ number_at 4 m (at + 4) → sound (block_of at size 0) ≡ true
        → (search' : Walk → Result ℕ HeapError) → ((w : Walk) → search (with_block (block_of at size mark) w) ≡ search' w)
        → Way m (at + 8 + size) search' goal
    unfolding block_at sound
    way_goes mark marked s search' step =
        let t = turn below in
        let known : Sound at size = says s in
        let s' : sound (block_at m at) ≡ true = ap (λ x. sound (block_of at x 0)) (sym sized) ∙ s in
        let walked : walk_from way.left m at ≡ with_block (block_of at size mark) (walk_from t.0 m (at + 8 + size)) =
        ap (λ n. walk_from n m at) t.1 ∙ walk_goes m t.0 at below s'
        ∙ ap₂ (λ x y. with_block (block_of at x y) (walk_from t.0 m (at + 8 + x))) (sym sized) (sym marked) in
        record {
          left = t.0;
          enough = omega (arith, way.enough, t.1);
          low = omega (arith, way.low);
          high = known.ends;
          same = sym (step (walk_from t.0 m (at + 8 + size))) ∙ sym (ap search walked) ∙ way.same;
        }

-- ---- the two searches, one block on

pub fit_step : (found want : ℕ) (b : Block) (found' : ℕ) → found' ≡ first_of found want b → (w : Walk) → fit_in found want
    (with_block b w) ≡ fit_in found' want w
unfolding found_in
fit_step found want b found' e unsound = refl
fit_step found want b found' e (blocks bs) = ap (λ x. Ok (found_in x want bs)) (sym e)

pub live_step : (start spare address : ℕ) (b : Block) (start' spare' : ℕ) → start' ≡ start_of start spare address b → spare' ≡ spare_of b
    → (w : Walk) → live_in start spare address (with_block b w) ≡ live_in start' spare' address w
unfolding start_in
live_step start spare address b start' spare' e₁ e₂ unsound = refl
live_step start spare address b start' spare' e₁ e₂ (blocks bs) = ap₂ (λ x y. Ok (start_in x y address bs)) (sym e₁) (sym e₂)

-- what a block adds is not more than what it takes
pub spare_below : (header size mark spare : ℕ) → spare ≡ spare_of (block_of header size mark) → spare ≤ 8 + size
spare_below header size mark spare e = go (eqb mark 0) refl
  where
    go : (b : Bool) → eqb mark 0 ≡ b → spare ≤ 8 + size
    go true q =
        let s : spare_of (block_of header size mark) ≡ 8 + size = rw (q, spare_of) refl in
        omega arith
    go false q =
        let s : spare_of (block_of header size mark) ≡ 0 = rw (q, spare_of) refl in
        omega arith
