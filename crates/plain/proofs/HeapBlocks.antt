-- The heap as a list of blocks: a segment ties the headers in memory, the slots of the table and the
-- list. What is tied stays tied
--   where memory keeps every byte whose slot is color 1 and the table stays (`segment_keeps`), which
--     makes a guarded store harmless;
--   where the blocks from one address up to another are replaced by others (`segment_swaps`), which is
--     ALLOC, cut or not, and FREE, with and without its joins.
-- The walk of memory gives the list (`segment_walk`).
use Prim.Native.Nat.{ℕ, zero, suc, ◌+◌, ◌-◌, ◌*◌, ◌%◌, ◌<◌, ◌≤◌}
use native.Mathlib.Nat.{not-suc-le-zero}
use native.Mathlib.Omega.{arith}
use mathlib.Core.Path.{◌≡◌, sym, ◌∙◌, ap, subst}
use mathlib.Core.List.{List, [], ◌∷◌, ◌++◌}
use mathlib.Core.Bool.{true, false}
use lib.ListN.{length, get_or}
use lib.Dec.{eqb, leb}
use borrow.Author.Tests.{eq-eqb, le-leb}
use Rattle.memory.specs.Memory.{number_at, color_at}
use Rattle.heap.specs.Heap.{end_slot, Block, is_free, block_at, sound, blocks, with_block, walk_from}
use Rattle.memory.proofs.Memory.{number_at_same}
use Rattle.heap.proofs.Walks.{walk_end, walk_goes}

-- the color of a block's body: its site's, and 0 where the block is free
abbrev pub tint : (color : ℕ → ℕ) → Block → ℕ
tint color b = elim (is_free b) [ true ↦ 0 | false ↦ color (b.mark - 1) ]

-- a block that stands at an address, in memory and in the table
pub record Stands (color : ℕ → ℕ) (m table : List ℕ) (from : ℕ) (b : Block) : Type 0 where
  pub header : b.header ≡ from
  pub least : 8 ≤ b.size
  pub whole : b.size % 8 ≡ 0
  pub size : number_at 4 m from ≡ b.size
  pub mark : number_at 4 m (from + 4) ≡ b.mark
  pub head : (a : ℕ) → from ≤ a → a < from + 8 → color_at table a ≡ 1
  pub body : (a : ℕ) → from + 8 ≤ a → a < from + 8 + b.size → color_at table a ≡ tint color b

-- blocks that stand one behind the other from an address up to another
abbrev pub Segment : (color : ℕ → ℕ) (m table : List ℕ) (from to : ℕ) → List Block → Type 0
Segment color m table from to [] = from ≡ to
Segment color m table from to (b ∷ bs) = Stands color m table from b × Segment color m table (from + 8 + b.size) to bs

module _ (color : ℕ → ℕ) (m table : List ℕ) where
  -- a block takes at least 16 bytes
  pub segment_long : (bs : List Block) (from to : ℕ) → Segment color m table from to bs → from + 16 * length bs ≤ to
  segment_long [] from to s = omega arith
  segment_long (b ∷ bs) from to s = omega (arith, s.0.least, segment_long bs (from + 8 + b.size) to s.1)

  pub segment_whole : (bs : List Block) (from to : ℕ) → from % 8 ≡ 0 → Segment color m table from to bs → to % 8 ≡ 0
  segment_whole [] from to w s = subst (λ x. x % 8 ≡ 0) s w
  segment_whole (b ∷ bs) from to w s =
      segment_whole bs (from + 8 + b.size) to (omega (arith, s.0.whole)) s.1

  pub segment_append : (xs ys : List Block) (from mid to : ℕ) → Segment color m table from mid xs → Segment color m table mid to ys
      → Segment color m table from to (xs ++ ys)
  segment_append [] ys from mid to s t = subst (λ x. Segment color m table x to ys) (sym s) t
  segment_append (x ∷ xs) ys from mid to s t = (s.0, segment_append xs ys (from + 8 + x.size) mid to s.1 t)

  -- ---- the walk of memory

  block_at_is : (from : ℕ) (b : Block) → Stands color m table from b → block_at m from ≡ b
  unfolding block_at
  block_at_is from b s = λ i. record { header = sym s.header i; size = s.size i; mark = s.mark i }

  sound_is : (from to : ℕ) (b : Block) → Stands color m table from b → from + 8 + b.size ≤ end_slot → sound b ≡ true
  unfolding sound
  sound_is from to b s fits =
      let one : eqb (b.size % 8) 0 ≡ true = eq-eqb (b.size % 8) 0 s.whole in
      let two : leb 8 b.size ≡ true = le-leb 8 b.size s.least in
      let three : leb (b.header + 8 + b.size) end_slot ≡ true = le-leb (b.header + 8 + b.size) end_slot (omega (arith, s.header)) in
      rw (one, two, three, sound)

  pub segment_walk : (left : ℕ) (bs : List Block) (from : ℕ) → Segment color m table from end_slot bs → length bs ≤ left
      → walk_from left m from ≡ blocks bs
  segment_walk left [] from s enough = walk_end m left from s
  segment_walk zero (b ∷ bs) from s enough = absurd (not-suc-le-zero enough)
  segment_walk (suc left) (b ∷ bs) from s enough =
      let is : block_at m from ≡ b = block_at_is from b s.0 in
      let long : from + 8 + b.size + 16 * length bs ≤ end_slot = segment_long bs (from + 8 + b.size) end_slot s.1 in
      let good : sound (block_at m from) ≡ true = ap sound is ∙ sound_is from end_slot b s.0 (omega arith) in
      walk_goes m left from (omega arith) good
      ∙ ap (λ x. with_block x (walk_from left m (from + 8 + x.size))) is
      ∙ ap (with_block b) (segment_walk left bs (from + 8 + b.size) s.1 (omega arith))

-- ---- what keeps a segment

module _ (color : ℕ → ℕ) (m table m' table' : List ℕ) where
  pub stands_keeps : (from : ℕ) (b : Block) → Stands color m table from b
      → ((a : ℕ) → from ≤ a → a < from + 8 + b.size → color_at table' a ≡ color_at table a)
      → ((a : ℕ) → from ≤ a → a < from + 8 + b.size → color_at table a ≡ 1 → get_or m' a 0 ≡ get_or m a 0)
      → Stands color m' table' from b
  stands_keeps from b s slots bytes =
      record {
        header = s.header;
        least = s.least;
        whole = s.whole;
        size =
            number_at_same 4 m' m from (λ k x y. bytes k (omega arith) (omega arith) (s.head k (omega arith) (omega arith)))
            ∙ s.size;
        mark =
            number_at_same 4 m' m (from + 4) (λ k x y. bytes k (omega arith) (omega arith) (s.head k (omega arith) (omega arith)))
            ∙ s.mark;
        head = λ a x y. slots a x (omega arith) ∙ s.head a x y;
        body = λ a x y. slots a (omega arith) y ∙ s.body a x y;
      }

  -- memory may change where the table has not color 1
  pub segment_keeps : (bs : List Block) (from to : ℕ) → Segment color m table from to bs
      → ((a : ℕ) → from ≤ a → a < to → color_at table' a ≡ color_at table a)
      → ((a : ℕ) → from ≤ a → a < to → color_at table a ≡ 1 → get_or m' a 0 ≡ get_or m a 0)
      → Segment color m' table' from to bs
  segment_keeps [] from to s slots bytes = s
  segment_keeps (b ∷ bs) from to s slots bytes =
      let long : from + 8 + b.size + 16 * length bs ≤ to = segment_long color m table bs (from + 8 + b.size) to s.1 in (
        stands_keeps from b s.0 (λ a x y. slots a x (omega arith)) (λ a x y. bytes a x (omega arith)),
        segment_keeps bs (from + 8 + b.size) to s.1 (λ a x y. slots a (omega arith) y) (λ a x y. bytes a (omega arith) y),
      )

-- the blocks from one address up to another are these now, and outside nothing changed
pub record Swap (color : ℕ → ℕ) (m table m' table' : List ℕ) (from to : ℕ) (middle : List Block) : Type 0 where
  pub bytes : length m' ≡ length m
  pub slots : length table' ≡ length table
  pub kept : (a : ℕ) → (from ≤ a → a < to → ⊥) → get_or m' a 0 ≡ get_or m a 0
  pub painted : (a : ℕ) → (from ≤ a → a < to → ⊥) → color_at table' a ≡ color_at table a
  pub now : Segment color m' table' from to middle

module _ (color : ℕ → ℕ) (m table m' table' : List ℕ) where
  pub segment_swaps : (front middle back : List Block) (low from to high : ℕ)
      → Segment color m table low from front → Swap color m table m' table' from to middle → Segment color m table to high back
      → Segment color m' table' low high (front ++ (middle ++ back))
  segment_swaps front middle back low from to high f w b =
      segment_append color m' table' front (middle ++ back) low from high
      (segment_keeps color m table m' table' front low from f (λ a x y. w.painted a (λ z u. omega arith)) (λ a x y o. w.kept a (λ z u. omega arith)))
      (segment_append color m' table' middle back from to high w.now
      (segment_keeps color m table m' table' back to high b (λ a x y. w.painted a (λ z u. omega arith)) (λ a x y o. w.kept a (λ z u. omega arith))))
