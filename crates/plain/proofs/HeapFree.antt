-- FREE on a heap that is tied to its list: it never finds the heap unsound, and what it gives back is
-- one free block in the place of a live one and its free neighbours.
use Prim.Native.Nat.{ℕ, ◌+◌, ◌-◌, ◌*◌, ◌%◌, ◌<◌, ◌≤◌}
use native.Mathlib.Omega.{arith}
use mathlib.Core.Path.{◌≡◌, refl, sym, ◌∙◌, ap₂, subst}
use mathlib.Core.List.{List, [], ◌∷◌, ◌++◌, append_assoc, append-nil}
use mathlib.Core.Bool.{Bool, true, false}
use lib.ListN.{length}
use lib.Dec.{eqb}
use borrow.Author.Tests.{eqb-true}
use Rattle.memory.specs.Memory.{memory_size, table_size, color_at, paint}
use Rattle.heap.specs.Heap.{heap_start, end_slot, Block, body_of, is_free, put_header, Freed, Free, spare, release, free_in, free, paint_freed}
use Rattle.memory.proofs.Memory.{length-paint, paint_outside, paint_inside}
use Rattle.plain.proofs.HeapHeaders.{length-put_header, put_header_outside, header_size, header_mark}
use Rattle.plain.proofs.HeapBlocks.{Segment, Swap, segment_long, segment_whole, segment_append, segment_swaps}
use Rattle.plain.proofs.HeapAlloc.{Tied, tied_walk, AllFree}

module _ (color : ℕ → ℕ) (m table : List ℕ) where
  -- ---- one free block in the place of whatever stood between two addresses
  joined : (low size : ℕ) → length m ≡ memory_size → length table ≡ table_size → low % 8 ≡ 0 → 8 ≤ size → size % 8 ≡ 0
      → low + 8 + size ≤ end_slot → ((a : ℕ) → low ≤ a → a < low + 8 → color_at table a ≡ 1)
      → Swap color m table (put_header m low size 0) (paint table (low + 8) size 0) low (low + 8 + size)
      (record { header = low; size = size; mark = 0 } ∷ [])
  joined low size bytes slots aligned least whole fits head =
      record {
        bytes = length-put_header m low size 0;
        slots = length-paint table (low + 8) size 0 (omega arith) whole (omega arith);
        kept = λ a out. put_header_outside m low size 0 a (λ x y. out (omega arith) (omega arith));
        painted = λ a out. paint_outside table (low + 8) size 0 (omega arith) whole (omega arith) a (λ x y. out (omega arith) (omega arith));
        now = (
          record {
            header = refl;
            least = least;
            whole = whole;
            size = header_size m low size 0 (omega arith) (omega arith);
            mark = header_mark m low size 0 (omega arith) (omega arith);
            head = λ a x y. paint_outside table (low + 8) size 0 (omega arith) whole (omega arith) a (λ z w. omega arith) ∙ head a x y;
            body = λ a x y. paint_inside table (low + 8) size 0 (omega arith) whole (omega arith) a x y;
          },
          refl,
        );
      }

  -- ---- the neighbours: what joins, and what stays

  -- before: the block directly before, if it is free, begins `low`
  record Left (before previous : List Block) (at : ℕ) : Type 0 where
    front : List Block
    gone : List Block
    low : ℕ
    parts : before ++ previous ≡ front ++ gone
    free : AllFree gone
    segment : Segment color m table heap_start low front
    begins : low + spare previous ≡ at
    whole : spare previous % 8 ≡ 0
    head : (a : ℕ) → low ≤ a → a < low + 8 → color_at table a ≡ 1

  left : (before previous : List Block) (mid at : ℕ) → length previous ≤ 1
      → Segment color m table heap_start mid before → Segment color m table mid at previous
      → ((a : ℕ) → at ≤ a → a < at + 8 → color_at table a ≡ 1) → Left before previous at
  left before [] mid at one f p head =
      record {
        front = before;
        gone = [];
        low = mid;
        parts = refl;
        free = tt;
        segment = f;
        begins = omega arith;
        whole = refl;
        head = λ a x y. head a (omega (arith, p)) (omega (arith, p));
      }
  left before (b ∷ []) mid at one f p head = go (is_free b) refl
    where
      go : (t : Bool) → is_free b ≡ t → Left before (b ∷ []) at
      go true e =
          let is : spare (b ∷ []) ≡ 8 + b.size = rw (e, spare) in
          record {
            front = before;
            gone = b ∷ [];
            low = mid;
            parts = refl;
            free = (e, tt);
            segment = f;
            begins = omega (arith, is, p.1);
            whole = omega (arith, is, p.0.whole);
            head = p.0.head;
          }
      go false e =
          let is : spare (b ∷ []) ≡ 0 = rw (e, spare) in
          record {
            front = before ++ (b ∷ []);
            gone = [];
            low = at;
            parts = sym (append-nil (before ++ (b ∷ [])));
            free = tt;
            segment = segment_append color m table before (b ∷ []) heap_start mid at f p;
            begins = omega (arith, is);
            whole = omega (arith, is);
            head = head;
          }
  left before (b ∷ c ∷ bs) mid at one f p head = absurd (omega arith)

  -- behind: the block directly behind, if it is free, ends at `high`
  record Right (bs : List Block) (at : ℕ) : Type 0 where
    gone : List Block
    back : List Block
    parts : bs ≡ gone ++ back
    free : AllFree gone
    segment : Segment color m table (at + spare bs) end_slot back
    whole : spare bs % 8 ≡ 0

  right : (bs : List Block) (at : ℕ) → Segment color m table at end_slot bs → Right bs at
  right [] at s = record { gone = []; back = []; parts = refl; free = tt; segment = omega (arith, s); whole = refl }
  right (b ∷ bs) at s = go (is_free b) refl
    where
      go : (t : Bool) → is_free b ≡ t → Right (b ∷ bs) at
      go true e =
          let is : spare (b ∷ bs) ≡ 8 + b.size = rw (e, spare) in
          let to : at + 8 + b.size ≡ at + spare (b ∷ bs) = omega arith in
          record {
            gone = b ∷ [];
            back = bs;
            parts = refl;
            free = (e, tt);
            segment = subst (λ x. Segment color m table x end_slot bs) to s.1;
            whole = omega (arith, is, s.0.whole);
          }
      go false e =
          let is : spare (b ∷ bs) ≡ 0 = rw (e, spare) in
          let to : at ≡ at + spare (b ∷ bs) = omega arith in
          record {
            gone = [];
            back = b ∷ bs;
            parts = refl;
            free = tt;
            segment = subst (λ x. Segment color m table x end_slot (b ∷ bs)) to s;
            whole = omega (arith, is);
          }

-- ---- the search for the block

module _ (color : ℕ → ℕ) (m table : List ℕ) (all : List Block) (address : ℕ) where
  -- a live block and its free neighbours are one free block now
  pub record Released (f : Freed) : Type 0 where
    pub front : List Block
    pub left : List Block
    pub block : Block
    pub right : List Block
    pub back : List Block
    pub low : ℕ
    pub was : all ≡ (front ++ left) ++ (block ∷ (right ++ back))
    pub left_free : AllFree left
    pub right_free : AllFree right
    pub live : is_free block ≡ false
    pub body : body_of block ≡ address
    pub before : Segment color m table heap_start low front
    pub lower : low < address
    pub now : Tied color f.memory (paint_freed table f) (front ++ ((record { header = f.header; size = f.size; mark = 0 } ∷ []) ++ back))
    pub below : (a : ℕ) → a < heap_start → color_at (paint_freed table f) a ≡ color_at table a

  -- what an answer of FREE says
  abbrev pub FreeFacts : Free → Type 0
  FreeFacts Free.stopped = ⊥
  FreeFacts Free.bad = Unit {0}
  FreeFacts (Free.freed f) = Released f

  module _ (tied : Tied color m table all) where
    found : (before previous : List Block) (b : Block) (bs : List Block) (mid at : ℕ) → length previous ≤ 1
        → all ≡ (before ++ previous) ++ (b ∷ bs)
        → Segment color m table heap_start mid before → Segment color m table mid at previous → Segment color m table at end_slot (b ∷ bs)
        → is_free b ≡ false → body_of b ≡ address → Released (release m previous b bs)
    found before previous b bs mid at one was f p s live body =
        let l : Left color m table before previous at = left color m table before previous mid at one f p s.0.head in
        let r : Right color m table bs (at + 8 + b.size) = right color m table bs (at + 8 + b.size) s.1 in
        let low : ℕ = b.header - spare previous in
        let size : ℕ = spare previous + b.size + spare bs in
        let is : l.low ≡ low = omega (arith, l.begins, s.0.header) in
        let over : at + 8 + b.size + spare bs ≡ low + 8 + size = omega (arith, l.begins, s.0.header) in
        let front : Segment color m table heap_start low l.front = subst (λ x. Segment color m table heap_start x l.front) is l.segment in
        let back : Segment color m table (low + 8 + size) end_slot r.back = subst (λ x. Segment color m table x end_slot r.back) over r.segment in
        let under : heap_start + 16 * length l.front ≤ low = segment_long color m table l.front heap_start low front in
        let above : low + 8 + size + 16 * length r.back ≤ end_slot = segment_long color m table r.back (low + 8 + size) end_slot back in
        let swap : Swap color m table (put_header m low size 0) (paint table (low + 8) size 0) low (low + 8 + size) (record { header = low; size = size; mark = 0 } ∷ []) =
        joined color m table low size tied.bytes tied.slots (segment_whole color m table l.front heap_start low refl front)
        (omega (arith, s.0.least)) (omega (arith, s.0.whole, l.whole, r.whole)) (omega arith)
        (λ a x y. l.head a (omega (arith, is)) (omega (arith, is))) in
        record {
          front = l.front;
          left = l.gone;
          block = b;
          right = r.gone;
          back = r.back;
          low = low;
          was = was ∙ ap₂ (λ x y. x ++ (b ∷ y)) l.parts r.parts;
          left_free = l.free;
          right_free = r.free;
          live = live;
          body = body;
          before = front;
          lower = omega arith;
          now =
              record {
                bytes = swap.bytes ∙ tied.bytes;
                slots = swap.slots ∙ tied.slots;
                segment = segment_swaps color m table _ _ l.front (record { header = low; size = size; mark = 0 } ∷ []) r.back heap_start low (low + 8 + size) end_slot front swap back;
                last = λ a x y. swap.painted a (λ z w. omega arith) ∙ tied.last a x y;
              };
          below = λ a x. swap.painted a (λ z w. omega arith);
        }

    searched : (before previous bs : List Block) (mid at : ℕ) → length previous ≤ 1 → all ≡ (before ++ previous) ++ bs
        → Segment color m table heap_start mid before → Segment color m table mid at previous → Segment color m table at end_slot bs
        → FreeFacts (free_in m previous bs address)
    unfolding free_in
    searched before previous [] mid at one was f p s = tt
    searched before previous (b ∷ bs) mid at one was f p s =
        go (searched (before ++ previous) (b ∷ []) bs at (at + 8 + b.size) (omega arith)
        (was ∙ sym (append_assoc (before ++ previous) (b ∷ []) bs))
        (segment_append color m table before previous heap_start mid at f p) (s.0, refl) s.1)
        (eqb (body_of b) address) refl (is_free b) refl
      where
        go : FreeFacts (free_in m (b ∷ []) bs address) → (t : Bool) → eqb (body_of b) address ≡ t → (u : Bool) → is_free b ≡ u
            → FreeFacts (free_in m previous (b ∷ bs) address)
        go later true e true e' = rw (e, e', free_in) tt
        go later true e false e' = rw (e, e', free_in) (found before previous b bs mid at one was f p s e' (eqb-true (body_of b) address e))
        go later false e u e' = rw (e, free_in) later

pub free_facts : (color : ℕ → ℕ) (m table : List ℕ) (bs : List Block) (address : ℕ) → Tied color m table bs
    → FreeFacts color m table bs address (free m address)
unfolding free
free_facts color m table bs address tied =
    rw (tied_walk color m table bs tied, free)
    (searched color m table bs address tied [] [] bs heap_start heap_start (omega arith) refl refl refl tied.segment)
