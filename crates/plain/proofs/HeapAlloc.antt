-- ALLOC on a heap that is tied to its list: it never finds the heap unsound, and what it hands out is a
-- block in the place of a free one, with a free rest behind it where that was cut.
use Prim.Native.Nat.{ℕ, ◌+◌, ◌-◌, ◌*◌, ◌%◌, ◌<◌, ◌≤◌}
use native.Mathlib.Omega.{arith}
use mathlib.Core.Path.{◌≡◌, refl, sym, ◌∙◌, ap, subst}
use mathlib.Core.List.{List, [], ◌∷◌, ◌++◌, append_assoc}
use mathlib.Core.Bool.{Bool, true, false}
use lib.ListN.{length, get_or}
use lib.Dec.{eqb, leb}
use borrow.Author.Tests.{eqb-false, ne_eqb, leb-true}
use Rattle.opcodes.specs.View.{extent}
use Rattle.memory.specs.Memory.{memory_size, table_size, color_at, paint}
use Rattle.heap.specs.Heap.{heap_start, end_slot, Block, body_of, is_free, put_header, hand_out, blocks, walk, Made, Alloc, take_block, first_fit, alloc_in, alloc, paint_made}
use Rattle.memory.proofs.Memory.{number_at_same, length-paint, paint_outside, paint_inside}
use Rattle.plain.proofs.HeapHeaders.{length-put_header, put_header_outside, header_size, header_mark, length-hand_out, hand_out_outside, hand_out_size, hand_out_mark}
use Rattle.plain.proofs.HeapBlocks.{tint, Stands, Segment, Swap, segment_long, segment_whole, segment_append, segment_walk, segment_swaps}

-- memory, table and the list of blocks of the whole heap
pub record Tied (color : ℕ → ℕ) (m table : List ℕ) (bs : List Block) : Type 0 where
  pub bytes : length m ≡ memory_size
  pub slots : length table ≡ table_size
  pub segment : Segment color m table heap_start end_slot bs
  pub last : (a : ℕ) → end_slot ≤ a → a < memory_size → color_at table a ≡ 1

pub tied_walk : (color : ℕ → ℕ) (m table : List ℕ) (bs : List Block) → Tied color m table bs → walk m ≡ blocks bs
tied_walk color m table bs t =
    segment_walk color m table 1792 bs heap_start t.segment
    (omega (arith, segment_long color m table bs heap_start end_slot t.segment))

-- every block of a list is free
abbrev pub AllFree : List Block → Type 0
AllFree [] = Unit {0}
AllFree (b ∷ bs) = (is_free b ≡ true) × AllFree bs

-- a block that is free has color 0
tint_free : (color : ℕ → ℕ) (b : Block) → is_free b ≡ true → tint color b ≡ 0
tint_free color b e = rw (e, tint)

tint_used : (color : ℕ → ℕ) (header size site : ℕ) → tint color (record { header = header; size = size; mark = site + 1 }) ≡ color site
tint_used color header size site =
    let used : eqb (site + 1) 0 ≡ false = ne_eqb (site + 1) 0 (λ e. omega arith) in
    let back : site + 1 - 1 ≡ site = omega arith in
    rw (used, tint) (ap color back)

-- ---- what is handed out of one free block

module _ (color : ℕ → ℕ) (m table : List ℕ) (b : Block) (want site : ℕ) where
  -- what was made of the block
  pub record Taken (k : Made) : Type 0 where
    pub rest : List Block
    pub spare : AllFree rest
    pub body : k.body ≡ b.header + 8
    pub swap : Swap color m table k.memory (paint_made table (color site) k) b.header (b.header + 8 + b.size)
        (record { header = b.header; size = k.size; mark = site + 1 } ∷ rest)

  module _ (bytes : length m ≡ memory_size) (slots : length table ≡ table_size) (stands : Stands color m table b.header b)
      (free : is_free b ≡ true) (aligned : b.header % 8 ≡ 0) (in_heap : b.header + 8 + b.size ≤ end_slot)
      (few : site < 400) where
    whole_block : Taken (record { body = body_of b; size = b.size; rest = []; memory = hand_out m b.header b.size (site + 1) })
    whole_block =
        record {
          rest = [];
          spare = tt;
          body = refl;
          swap =
              record {
                bytes = length-hand_out m b.header b.size (site + 1) (omega arith);
                slots = length-paint table (body_of b) b.size (color site) (omega arith) stands.whole (omega arith);
                kept = λ a out. hand_out_outside m b.header b.size (site + 1) (omega arith) a out;
                painted = λ a out. paint_outside table (body_of b) b.size (color site) (omega arith) stands.whole (omega arith) a (λ x y. out (omega arith) (omega arith));
                now = (
                  record {
                    header = refl;
                    least = stands.least;
                    whole = stands.whole;
                    size = hand_out_size m b.header b.size (site + 1) (omega arith) (omega arith);
                    mark = hand_out_mark m b.header b.size (site + 1) (omega arith) (omega arith);
                    head = λ a x y. paint_outside table (body_of b) b.size (color site) (omega arith) stands.whole (omega arith) a (λ z w. omega arith) ∙ stands.head a x y;
                    body = λ a x y. paint_inside table (body_of b) b.size (color site) (omega arith) stands.whole (omega arith) a x y ∙ sym (tint_used color b.header b.size site);
                  },
                  refl,
                );
              };
        }

    module _ (cut : want + 16 ≤ b.size) (least : 8 ≤ want) (rounded : want % 8 ≡ 0) where
      abbrev over : ℕ
      over = b.size - want - 8

      abbrev m₁ : List ℕ
      m₁ = put_header m (body_of b + want) over 0

      abbrev t₁ : List ℕ
      t₁ = paint table (body_of b + want) 8 1

      m₂ : List ℕ
      m₂ = hand_out m₁ b.header want (site + 1)

      t₂ : List ℕ
      t₂ = paint t₁ (body_of b) want (color site)

      bytes₁ : length m₁ ≡ length m
      bytes₁ = length-put_header m (body_of b + want) over 0

      slots₁ : length t₁ ≡ length table
      slots₁ = length-paint table (body_of b + want) 8 1 (omega (arith, stands.whole)) (omega arith) (omega arith)

      -- the header of the rest is painted first, then the body
      outside₁ : (a : ℕ) → (body_of b + want ≤ a → a < body_of b + want + 8 → ⊥) → color_at t₁ a ≡ color_at table a
      outside₁ = paint_outside table (body_of b + want) 8 1 (omega (arith, stands.whole)) (omega arith) (omega arith)

      outside₂ : (a : ℕ) → (body_of b ≤ a → a < body_of b + want → ⊥) → color_at t₂ a ≡ color_at t₁ a
      unfolding t₂
      outside₂ = paint_outside t₁ (body_of b) want (color site) (omega arith) rounded (omega (arith, slots₁))

      inside₂ : (a : ℕ) → body_of b ≤ a → a < body_of b + want → color_at t₂ a ≡ color site
      unfolding t₂
      inside₂ = paint_inside t₁ (body_of b) want (color site) (omega arith) rounded (omega (arith, slots₁))

      kept₂ : (a : ℕ) → (b.header ≤ a → a < b.header + 8 + want → ⊥) → get_or m₂ a 0 ≡ get_or m₁ a 0
      unfolding m₂
      kept₂ = hand_out_outside m₁ b.header want (site + 1) (omega (arith, bytes₁))

      cut_made : Stands color m₂ t₂ b.header (record { header = b.header; size = want; mark = site + 1 })
      unfolding m₂
      cut_made =
          record {
            header = refl;
            least = least;
            whole = rounded;
            size = hand_out_size m₁ b.header want (site + 1) (omega (arith, bytes₁)) (omega arith);
            mark = hand_out_mark m₁ b.header want (site + 1) (omega (arith, bytes₁)) (omega arith);
            head = λ a x y. outside₂ a (λ z w. omega arith) ∙ outside₁ a (λ z w. omega arith) ∙ stands.head a x y;
            body = λ a x y. inside₂ a x y ∙ sym (tint_used color b.header want site);
          }

      cut_rest : Stands color m₂ t₂ (b.header + 8 + want) (record { header = b.header + 8 + want; size = over; mark = 0 })
      cut_rest =
          record {
            header = refl;
            least = omega arith;
            whole = omega (arith, stands.whole);
            size =
                number_at_same 4 m₂ m₁ (body_of b + want) (λ k x y. kept₂ k (λ z w. omega arith))
                ∙ header_size m (body_of b + want) over 0 (omega arith) (omega arith);
            mark =
                number_at_same 4 m₂ m₁ (body_of b + want + 4) (λ k x y. kept₂ k (λ z w. omega arith))
                ∙ header_mark m (body_of b + want) over 0 (omega arith) (omega arith);
            head = λ a x y. outside₂ a (λ z w. omega arith) ∙ paint_inside table (body_of b + want) 8 1 (omega (arith, stands.whole)) (omega arith) (omega arith) a x y;
            body = λ a x y. outside₂ a (λ z w. omega arith) ∙ outside₁ a (λ z w. omega arith) ∙ stands.body a (omega arith) (omega arith) ∙ tint_free color b free;
          }

      cut_block : Taken (record { body = body_of b; size = want; rest = (body_of b + want) ∷ []; memory = hand_out m₁ b.header want (site + 1) })
      unfolding m₂ t₂
      cut_block =
          record {
            rest = record { header = b.header + 8 + want; size = over; mark = 0 } ∷ [];
            spare = (refl, tt);
            body = refl;
            swap =
                record {
                  bytes = length-hand_out m₁ b.header want (site + 1) (omega (arith, bytes₁)) ∙ bytes₁;
                  slots = length-paint t₁ (body_of b) want (color site) (omega arith) rounded (omega (arith, slots₁)) ∙ slots₁;
                  kept = λ a out. kept₂ a (λ x y. out (omega arith) (omega arith)) ∙ put_header_outside m (body_of b + want) over 0 a (λ x y. out (omega arith) (omega arith));
                  painted = λ a out. outside₂ a (λ x y. out (omega arith) (omega arith)) ∙ outside₁ a (λ x y. out (omega arith) (omega arith));
                  now = (cut_made, (cut_rest, omega arith));
                };
          }

    -- the block is cut, or handed out whole
    pub block_taken : 8 ≤ want → want % 8 ≡ 0 → Taken (take_block m b want (site + 1))
    unfolding take_block
    block_taken least rounded = go (leb (want + 16) b.size) refl
      where
        go : (t : Bool) → leb (want + 16) b.size ≡ t → Taken (take_block m b want (site + 1))
        go true e = rw (e, take_block) (cut_block (leb-true (want + 16) b.size e) least rounded)
        go false e = rw (e, take_block) whole_block

-- ---- the search for a free body

module _ (color : ℕ → ℕ) (m table : List ℕ) (all : List Block) (site : ℕ) where
  -- a block stands for a free one that was taken
  pub record Handed (k : Made) : Type 0 where
    pub front : List Block
    pub taken : Block
    pub rest : List Block
    pub back : List Block
    pub at : ℕ
    pub was : all ≡ front ++ (taken ∷ back)
    pub free : is_free taken ≡ true
    pub spare : AllFree rest
    pub body : k.body ≡ at + 8
    pub before : Segment color m table heap_start at front
    pub behind : Segment color m table (at + 8 + taken.size) end_slot back
    pub now : Tied color k.memory (paint_made table (color site) k)
        (front ++ ((record { header = at; size = k.size; mark = site + 1 } ∷ rest) ++ back))
    pub below : (a : ℕ) → a < heap_start → color_at (paint_made table (color site) k) a ≡ color_at table a

  -- what an answer of ALLOC says
  abbrev pub AllocFacts : Alloc → Type 0
  AllocFacts Alloc.stopped = ⊥
  AllocFacts Alloc.nothing = Unit {0}
  AllocFacts (Alloc.made k) = Handed k

  module _ (tied : Tied color m table all) (few : site < 400) (want : ℕ) (least : 8 ≤ want) (rounded : want % 8 ≡ 0) where
    hit : (front : List Block) (b : Block) (back : List Block) (at : ℕ) → all ≡ front ++ (b ∷ back)
        → Segment color m table heap_start at front → Segment color m table at end_slot (b ∷ back) → is_free b ≡ true
        → Handed (take_block m b want (site + 1))
    hit front b back at was before here free =
        let to : at ≡ b.header = sym here.0.header in
        let before' : Segment color m table heap_start b.header front = subst (λ x. Segment color m table heap_start x front) to before in
        let here' : Segment color m table b.header end_slot (b ∷ back) = subst (λ x. Segment color m table x end_slot (b ∷ back)) to here in
        let low : heap_start + 16 * length front ≤ b.header = segment_long color m table front heap_start b.header before' in
        let high : b.header + 8 + b.size + 16 * length back ≤ end_slot = segment_long color m table back (b.header + 8 + b.size) end_slot here'.1 in
        let got : Taken color m table b want site (take_block m b want (site + 1)) =
        block_taken color m table b want site tied.bytes tied.slots here'.0 free
        (segment_whole color m table front heap_start b.header refl before') (omega arith) few least rounded in
        record {
          front = front;
          taken = b;
          rest = got.rest;
          back = back;
          at = b.header;
          was = was;
          free = free;
          spare = got.spare;
          body = got.body;
          before = before';
          behind = here'.1;
          now =
              record {
                bytes = got.swap.bytes ∙ tied.bytes;
                slots = got.swap.slots ∙ tied.slots;
                segment =
                    segment_swaps color m table _ _ front (record { header = b.header; size = (take_block m b want (site + 1)).size; mark = site + 1 } ∷ got.rest)
                    back heap_start b.header (b.header + 8 + b.size) end_slot before' got.swap here'.1;
                last = λ a x y. got.swap.painted a (λ z w. omega arith) ∙ tied.last a x y;
              };
          below = λ a x. got.swap.painted a (λ z w. omega arith);
        }

    fit : (front bs : List Block) (at : ℕ) → all ≡ front ++ bs → Segment color m table heap_start at front → Segment color m table at end_slot bs
        → AllocFacts (first_fit m bs want (site + 1))
    unfolding first_fit
    fit front [] at was before here = tt
    fit front (b ∷ bs) at was before here =
        go (fit (front ++ (b ∷ [])) bs (at + 8 + b.size) (was ∙ sym (append_assoc front (b ∷ []) bs)) (segment_append color m table front (b ∷ []) heap_start at (at + 8 + b.size) before (here.0, refl)) here.1)
        (is_free b) refl (leb want b.size) refl
      where
        go : AllocFacts (first_fit m bs want (site + 1)) → (f : Bool) → is_free b ≡ f → (l : Bool) → leb want b.size ≡ l → AllocFacts (first_fit m (b ∷ bs) want (site + 1))
        go later true e true e' = rw (e, e', first_fit) (hit front b bs at was before here e)
        go later true e false e' = rw (e, e', first_fit) later
        go later false e l e' = rw (e, first_fit) later

pub alloc_facts : (color : ℕ → ℕ) (m table : List ℕ) (bs : List Block) (size site : ℕ) → Tied color m table bs → site < 400
    → AllocFacts color m table bs site (alloc m size site)
unfolding alloc
alloc_facts color m table bs size site tied few = go (eqb size 0) refl (leb size 4096) refl
  where
    searched : 1 ≤ size → AllocFacts color m table bs site (alloc_in m size site (walk m))
    searched some = rw (tied_walk color m table bs tied) (fit color m table bs site tied few (extent size) (omega arith) (omega arith) [] bs heap_start refl refl tied.segment)

    go : (z : Bool) → eqb size 0 ≡ z → (l : Bool) → leb size 4096 ≡ l → AllocFacts color m table bs site (alloc m size site)
    go true e l e' = rw (e, alloc) tt
    go false e true e' = rw (e, e', alloc) (searched (omega (arith, eqb-false size 0 e)))
    go false e false e' = rw (e, e', alloc) tt
