-- 01, "Memory and table": headers, the walk, ALLOC and FREE on memory. What they do to the table, or to
-- the live objects of the plain rule, is said by what is made and freed here.
use Rattle.std.specs.Prelude.{ℕ, zero, suc, ◌+◌, ◌-◌, ◌%◌, List, [], ◌∷◌, Bool, true, false, leb, eqb}
use Rattle.opcodes.specs.View.{extent}
use Rattle.memory.specs.Memory.{bytes_of, number_at, put, fill, paint}

-- "The heap begins there": at 28,672; "The end slot at 57,336"
abbrev pub heap_start : ℕ
heap_start = 28672

abbrev pub end_slot : ℕ
end_slot = 57336

-- "A block is an 8-byte header and a body: four bytes for the body's size, four for a mark (0 free,
-- else site number plus 1), low byte first"
pub record Block : Type 0 where
  pub header : ℕ
  pub size : ℕ
  pub mark : ℕ

abbrev pub body_of : Block → ℕ
body_of b = b.header + 8

abbrev pub is_free : Block → Bool
is_free b = eqb b.mark 0

unfoldable pub block_at : List ℕ → (header : ℕ) → Block
block_at m header = record { header = header; size = number_at 4 m header; mark = number_at 4 m (header + 4) }

unfoldable pub put_header : List ℕ → (header size mark : ℕ) → List ℕ
put_header m header size mark = put (put m header (bytes_of 4 size)) (header + 4) (bytes_of 4 mark)

-- "A header is sound if its size is a multiple of 8, at least 8, and the next header is at or below
-- 57,336"
unfoldable pub sound : Block → Bool
sound b =
    elim (eqb (b.size % 8) 0) [
      | true ↦ elim (leb 8 b.size) [ true ↦ leb (b.header + 8 + b.size) end_slot | false ↦ false ]
      | false ↦ false
    ]

-- "all headers up to the end slot are walked; an unsound one stops the run"
pub data Walk : Type 0 where
  unsound : Walk
  blocks : List Block → Walk

abbrev pub with_block : Block → Walk → Walk
with_block b unsound = unsound
with_block b (blocks bs) = blocks (b ∷ bs)

-- a block takes at least 16 bytes, so `left` = 1,792 is enough for the whole heap
unfoldable pub walk_from : (left : ℕ) → List ℕ → (header : ℕ) → Walk
walk_from zero m header = elim (eqb header end_slot) [ true ↦ blocks [] | false ↦ unsound ]
walk_from (suc left) m header =
    elim (eqb header end_slot) [
      | true ↦ blocks []
      | false ↦
          elim (sound (block_at m header)) [
            | false ↦ unsound
            | true ↦ with_block (block_at m header) (walk_from left m (header + 8 + (block_at m header).size))
          ]
    ]

abbrev pub walk : List ℕ → Walk
walk m = walk_from 1792 m heap_start

-- ---- ALLOC

-- what was handed out: the body's address and its size, and the header of the rest where it was cut
pub record Made : Type 0 where
  pub body : ℕ
  pub size : ℕ
  pub rest : List ℕ
  pub memory : List ℕ

pub data Alloc : Type 0 where
  stopped : Alloc
  nothing : Alloc
  made : Made → Alloc

-- "the body (the extent) is set to zero"
abbrev pub hand_out : List ℕ → (header size mark : ℕ) → List ℕ
hand_out m header size mark = fill (put_header m header size mark) (header + 8) size 0

-- "If at least 16 bytes would remain it is cut, and the rest gets a free header ..; otherwise the
-- whole body is handed out"
unfoldable pub take_block : List ℕ → Block → (want mark : ℕ) → Made
take_block m b want mark =
    elim (leb (want + 16) b.size) [
      | true ↦
          record {
            body = body_of b;
            size = want;
            rest = (body_of b + want) ∷ [];
            memory = hand_out (put_header m (body_of b + want) (b.size - want - 8) 0) b.header want mark;
          }
      | false ↦ record { body = body_of b; size = b.size; rest = []; memory = hand_out m b.header b.size mark }
    ]

-- "The lowest free body that holds the size rounded up is taken, else the answer is 0"
unfoldable pub first_fit : List ℕ → List Block → (want mark : ℕ) → Alloc
first_fit m [] want mark = nothing
first_fit m (b ∷ bs) want mark =
    elim (is_free b) [
      | true ↦ elim (leb want b.size) [ true ↦ made (take_block m b want mark) | false ↦ first_fit m bs want mark ]
      | false ↦ first_fit m bs want mark
    ]

abbrev pub alloc_in : List ℕ → (size site : ℕ) → Walk → Alloc
alloc_in m size site unsound = stopped
alloc_in m size site (blocks bs) = first_fit m bs (extent size) (site + 1)

-- "ALLOC: size 0 or above 4,096 gives 0. Otherwise all headers .. are walked"
unfoldable pub alloc : List ℕ → (size site : ℕ) → Alloc
alloc m size site =
    elim (eqb size 0) [
      | true ↦ nothing
      | false ↦ elim (leb size 4096) [ true ↦ alloc_in m size site (walk m) | false ↦ nothing ]
    ]

-- "the rest gets a free header of color 1"
abbrev pub paint_rest : (table : List ℕ) → (rest : List ℕ) → List ℕ
paint_rest table [] = table
paint_rest table (header ∷ none) = paint table header 8 1

-- the table afterwards: "The body .. takes the site's color"
abbrev pub paint_made : (table : List ℕ) → (color : ℕ) → Made → List ℕ
paint_made table color k = paint (paint_rest table k.rest) k.body k.size color

-- ---- FREE

-- the joined block: "all slots of the joined body get color 0; in memory only the joined block's
-- header changes"
pub record Freed : Type 0 where
  pub header : ℕ
  pub size : ℕ
  pub memory : List ℕ

pub data Free : Type 0 where
  stopped : Free
  bad : Free
  freed : Freed → Free

-- "The block joins a free neighbour on either side": what the first of the blocks adds if it is free
abbrev pub spare : List Block → ℕ
spare [] = 0
spare (b ∷ bs) = elim (is_free b) [ true ↦ 8 + b.size | false ↦ 0 ]

-- `previous` has the block directly before, if there is one, and `bs` begins with the one behind
abbrev pub release : List ℕ → (previous : List Block) → Block → List Block → Freed
release m previous b bs =
    let header : ℕ = b.header - spare previous in
    let size : ℕ = spare previous + b.size + spare bs in
    record { header = header; size = size; memory = put_header m header size 0 }

-- "then the address must be the body of a live block"
unfoldable pub free_in : List ℕ → (previous bs : List Block) → (address : ℕ) → Free
free_in m previous [] address = bad
free_in m previous (b ∷ bs) address =
    elim (eqb (body_of b) address) [
      | true ↦ elim (is_free b) [ true ↦ bad | false ↦ freed (release m previous b bs) ]
      | false ↦ free_in m (b ∷ []) bs address
    ]

abbrev pub free_walked : List ℕ → (address : ℕ) → Walk → Free
free_walked m address unsound = stopped
free_walked m address (blocks bs) = free_in m [] bs address

-- "Otherwise the walk comes first"; FREE of 0 is the machine's affair
unfoldable pub free : List ℕ → (address : ℕ) → Free
free m address = free_walked m address (walk m)

-- the table afterwards: "all slots of the joined body get color 0"
abbrev pub paint_freed : (table : List ℕ) → Freed → List ℕ
paint_freed table f = paint table (f.header + 8) f.size 0

-- ---- the start

-- "At the start there is one free body of 28,656 at 28,680"
unfoldable pub empty_heap : List ℕ → List ℕ
empty_heap m = put_header m heap_start 28656 0
