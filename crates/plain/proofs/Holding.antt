-- What ties the plain rule's live bodies to version 2's table and memory.
--
--   live bodies  =  the bodies of the used blocks  --- walk of memory --->  headers in memory
--                                |                                                |
--                        site's color / 0                                     color 1
--                                v                                                v
--                                            the table
--
-- The heap's list of blocks stands in memory and in the table (`tied`); the plain rule's list, and the
-- one that the run records, are its used blocks (`bodies`, `recorded`); below the heap the table tells
-- whose each byte is (`owners`). The start has the tie; a store that leaves every header alone keeps it,
-- and so do ALLOC and FREE, which put blocks in the place of blocks. From the tie it follows that a byte
-- lies in a live object of a class exactly when the table has the class's color there.
use Prim.Native.Nat.{ℕ, ◌+◌, ◌<◌, ◌≤◌}
use native.Mathlib.Omega.{arith}
use mathlib.Core.Path.{◌≡◌, refl, sym, ◌∙◌, ap, ap₂, subst}
use mathlib.Core.List.{List, [], ◌∷◌, ◌++◌, append-nil}
use mathlib.Core.Bool.{Bool, true, false, false≢true}
use lib.ListN.{length, get_or}
use lib.Dec.{ltb}
use borrow.Author.Tests.{ltb-true, ltb-false, ne_eqb}
use Rattle.files.specs.Program.{Program}
use Rattle.safety.specs.Unsafe.{unsafe_sets}
use Rattle.coloring.specs.Class.{unsafe_object}
use Rattle.plain.specs.Guards.{Exact}
use Rattle.memory.specs.Memory.{memory_size, color_at, put, every_byte}
use Rattle.heap.specs.Heap.{heap_start, end_slot, Block, Made, Freed, paint_made, paint_freed}
use Rattle.memory.proofs.Memory.{length-put, put_outside, every_byte_same}
use Rattle.plain.proofs.HeapBlocks.{segment_keeps}
use Rattle.plain.proofs.HeapAlloc.{Tied, Handed}
use Rattle.plain.proofs.HeapFree.{Released}
use Rattle.memory.specs.Memory.{has_color}
use Rattle.plain.specs.Live.{Live, owns, adding, removing, live_making, live_freeing}
use Rattle.plain.specs.Plain.{globals, in_class}
use Rattle.plain.proofs.Owners.{Each, each_append, each_map, owns_outside, Tells, tells_append, tells_class}
use Rattle.plain.proofs.Bodies.{body_of_block, live_of, live_free, live_used, live_append, live_behind, live_before, live_stands, live_owned, live_clear, adding_between, removing_between}
use Rattle.plain.proofs.Painting.{Whole}

pub record Holds (p : Program) (color : ℕ → ℕ) (live : List Live) (own : List ℕ × List Live) (m : List ℕ) : Type 0 where
  pub blocks : List Block
  pub tied : Tied color m own.0 blocks
  pub bodies : live ≡ live_of blocks
  pub recorded : own.1 ≡ live
  pub owners : (a : ℕ) → a < heap_start → Tells color (globals p) (color_at own.0 a) a

module _ (p : Program) (color : ℕ → ℕ) (whole : Each Whole (globals p)) (live : List Live) (own : List ℕ × List Live) (m : List ℕ) (h : Holds p color live own m) where
  abbrev table : List ℕ
  table = own.0

  -- ---- whose a byte is

  -- no global owns a byte from the heap's start on
  globals_low : (a : ℕ) → heap_start ≤ a → Each (λ o. owns o a ≡ false) (globals p)
  globals_low a low = each_map Whole (λ o. owns o a ≡ false) (λ o w. owns_outside o a (λ x y. omega (arith, w.below))) (globals p) whole

  -- no live body owns a byte outside the heap
  live_inside : (a : ℕ) → (heap_start ≤ a → a < end_slot → ⊥) → Each (λ o. owns o a ≡ false) live
  live_inside a out =
      subst (Each (λ o. owns o a ≡ false)) (sym h.bodies)
      (each_map (λ o. (heap_start + 8 ≤ o.start) × (o.start + o.size ≤ end_slot)) (λ o. owns o a ≡ false)
      (λ o s. owns_outside o a (λ x y. out (omega arith) (omega arith))) (live_of h.blocks)
      (live_stands color m table h.blocks heap_start end_slot h.tied.segment))

  none_owned : (found a : ℕ) (os : List Live) → Each (λ o. owns o a ≡ false) os → Each (λ o. owns o a ≡ true → found ≡ color o.object) os
  none_owned found a os none =
      each_map (λ o. owns o a ≡ false) (λ o. owns o a ≡ true → found ≡ color o.object) (λ o n e. absurd (false≢true (sym n ∙ e))) os none

  pub tells_all : (a : ℕ) → a < memory_size → Tells color (globals p ++ live) (color_at table a) a
  tells_all a inside = low (ltb a heap_start) refl
    where
      heap : Each (λ o. owns o a ≡ true → color_at table a ≡ color o.object) live
      heap =
          subst (Each (λ o. owns o a ≡ true → color_at table a ≡ color o.object)) (sym h.bodies)
          (live_owned color m table h.blocks heap_start end_slot a h.tied.segment)

      high : heap_start ≤ a → (b : Bool) → ltb a end_slot ≡ b → Tells color (globals p ++ live) (color_at table a) a
      high from true e =
          tells_append color (globals p) live (color_at table a) a (none_owned (color_at table a) a (globals p) (globals_low a from)) heap
          (λ x y. live_clear color m table h.blocks heap_start end_slot a h.tied.segment from (ltb-true a end_slot e) (subst (Each (λ o. owns o a ≡ false)) h.bodies y))
      high from false e =
          tells_append color (globals p) live (color_at table a) a (none_owned (color_at table a) a (globals p) (globals_low a from)) heap
          (λ x y. omega (arith, h.tied.last a (ltb-false a end_slot e) inside))

      low : (b : Bool) → ltb a heap_start ≡ b → Tells color (globals p ++ live) (color_at table a) a
      low true e =
          let t : Tells color (globals p) (color_at table a) a = h.owners a (ltb-true a heap_start e) in
          tells_append color (globals p) live (color_at table a) a t.owned heap (λ x y. t.clear x)
      low false e = high (ltb-false a heap_start e) (ltb a end_slot) refl

  -- ---- the plain rule and the table say the same

  module _ (exact : Exact (unsafe_sets p) color) (set : List ℕ) (unsafe : unsafe_object (unsafe_sets p) (get_or set 0 0) ≡ true) where
    byte_same : (a : ℕ) → in_class p live set a ≡ has_color table (color (get_or set 0 0)) a
    byte_same a = go (ltb a memory_size) refl
      where
        x : ℕ
        x = get_or set 0 0

        go : (b : Bool) → ltb a memory_size ≡ b → in_class p live set a ≡ has_color table (color x) a
        go true e =
            rw (e, has_color) (tells_class (unsafe_sets p) color exact x unsafe (color_at table a) a (globals p ++ live) (tells_all a (ltb-true a memory_size e)))
        go false e =
            let out : memory_size ≤ a = ltb-false a memory_size e in
            let none : Each (λ o. owns o a ≡ false) (globals p ++ live) =
            each_append (λ o. owns o a ≡ false) (globals p) live (globals_low a (omega arith)) (live_inside a (λ y z. omega arith)) in
            rw (e, has_color)
            (tells_class (unsafe_sets p) color exact x unsafe 0 a (globals p ++ live)
            (record { owned = none_owned 0 a (globals p ++ live) none; clear = λ n. omega arith })
            ∙ ne_eqb 0 (color x) (λ q. omega (arith, exact.low x unsafe)))

    pub rule_same : (n a : ℕ) → every_byte n (in_class p live set) a ≡ every_byte n (has_color table (color (get_or set 0 0))) a
    rule_same n a = every_byte_same n (in_class p live set) (has_color table (color (get_or set 0 0))) a (λ k y z. byte_same k)

  -- ---- what keeps the tie

  -- bytes that are written where the heap has no header
  pub holds_put : (a : ℕ) (vs : List ℕ) → ((k : ℕ) → a ≤ k → k < a + length vs → heap_start ≤ k → color_at table k ≡ 1 → ⊥) → Holds p color live own (put m a vs)
  holds_put a vs clean =
      record {
        blocks = h.blocks;
        tied =
            record {
              bytes = length-put m a vs ∙ h.tied.bytes;
              slots = h.tied.slots;
              segment =
                  segment_keeps color m table (put m a vs) table h.blocks heap_start end_slot h.tied.segment (λ k x y. refl)
                  (λ k x y one. put_outside m a vs k (λ z w. clean k z w x one));
              last = h.tied.last;
            };
        bodies = h.bodies;
        recorded = h.recorded;
        owners = h.owners;
      }

  tells_kept : (table' : List ℕ) → ((a : ℕ) → a < heap_start → color_at table' a ≡ color_at table a)
      → (a : ℕ) → a < heap_start → Tells color (globals p) (color_at table' a) a
  tells_kept table' same a low = subst (λ c. Tells color (globals p) c a) (sym (same a low)) (h.owners a low)

  -- ALLOC
  pub holds_made : (site : ℕ) (k : Made) → Handed color m table h.blocks site k
      → Holds p color (live_making live site k) (paint_made table (color site) k, live_making own.1 site k) k.memory
  holds_made site k made =
      record {
        blocks = made.front ++ ((made' ∷ made.rest) ++ made.back);
        tied = made.now;
        bodies = ap (λ l. live_making l site k) (h.bodies ∙ before) ∙ grown ∙ sym after;
        recorded = ap (λ l. live_making l site k) h.recorded;
        owners = tells_kept (paint_made table (color site) k) made.below;
      }
    where
      made' : Block
      made' = record { header = made.at; size = k.size; mark = site + 1 }

      body : Live
      body = record { object = site; start = k.body; size = k.size }

      before : live_of h.blocks ≡ live_of made.front ++ live_of made.back
      before =
          ap live_of made.was ∙ live_append made.front (made.taken ∷ made.back)
          ∙ ap (λ l. live_of made.front ++ l) (live_free made.taken made.back made.free)

      is : body_of_block made' ≡ body
      is = ap₂ (λ (x y : ℕ). record { object = x; start = y; size = k.size }) (omega arith) (sym made.body)

      after : live_of (made.front ++ ((made' ∷ made.rest) ++ made.back)) ≡ live_of made.front ++ (body ∷ live_of made.back)
      after =
          live_append made.front ((made' ∷ made.rest) ++ made.back)
          ∙ ap (λ l. live_of made.front ++ l)
          (live_used made' (made.rest ++ made.back) (ne_eqb (site + 1) 0 (λ q. omega arith))
          ∙ ap₂ (λ x l. x ∷ l) is (live_before made.rest made.back made.spare))

      grown : adding body (live_of made.front ++ live_of made.back) ≡ live_of made.front ++ (body ∷ live_of made.back)
      grown =
          adding_between body (live_of made.front) (live_of made.back)
          (each_map (λ o. (heap_start + 8 ≤ o.start) × (o.start + o.size ≤ made.at)) (λ o. o.start < body.start)
          (λ o s. omega (arith, made.body)) (live_of made.front) (live_stands color m table made.front heap_start made.at made.before))
          (each_map (λ o. (made.at + 8 + made.taken.size + 8 ≤ o.start) × (o.start + o.size ≤ end_slot)) (λ o. body.start ≤ o.start)
          (λ o s. omega (arith, made.body)) (live_of made.back) (live_stands color m table made.back (made.at + 8 + made.taken.size) end_slot made.behind))

  -- FREE
  pub holds_freed : (address : ℕ) (f : Freed) → Released color m table h.blocks address f
      → Holds p color (live_freeing live address f) (paint_freed table f, live_freeing own.1 address f) f.memory
  holds_freed address f r =
      record {
        blocks = r.front ++ ((joined ∷ []) ++ r.back);
        tied = r.now;
        bodies = ap (λ l. live_freeing l address f) (h.bodies ∙ before) ∙ shrunk ∙ sym after;
        recorded = ap (λ l. live_freeing l address f) h.recorded;
        owners = tells_kept (paint_freed table f) r.below;
      }
    where
      joined : Block
      joined = record { header = f.header; size = f.size; mark = 0 }

      before : live_of h.blocks ≡ (live_of r.front ++ []) ++ (body_of_block r.block ∷ live_of r.back)
      before =
          ap live_of r.was ∙ live_append (r.front ++ r.left) (r.block ∷ (r.right ++ r.back))
          ∙ ap₂ (λ x y. x ++ y) (live_behind r.front r.left r.left_free)
          (live_used r.block (r.right ++ r.back) r.live ∙ ap (λ l. body_of_block r.block ∷ l) (live_before r.right r.back r.right_free))

      shrunk : removing address ((live_of r.front ++ []) ++ (body_of_block r.block ∷ live_of r.back)) ≡ (live_of r.front ++ []) ++ live_of r.back
      shrunk =
          removing_between address (live_of r.front ++ []) (body_of_block r.block) (live_of r.back)
          (each_append (λ x. x.start < address) (live_of r.front) []
          (each_map (λ o. (heap_start + 8 ≤ o.start) × (o.start + o.size ≤ r.low)) (λ o. o.start < address)
          (λ o s. omega (arith, r.lower)) (live_of r.front) (live_stands color m table r.front heap_start r.low r.before)) tt)
          r.body

      after : live_of (r.front ++ ((joined ∷ []) ++ r.back)) ≡ (live_of r.front ++ []) ++ live_of r.back
      after =
          live_append r.front ((joined ∷ []) ++ r.back)
          ∙ ap₂ (λ x y. x ++ y) (sym (append-nil (live_of r.front))) (live_free joined r.back refl)
