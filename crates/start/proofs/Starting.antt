-- The table at the start, painted object by object, is the definition's first table.
--
-- The starts stand in an array, those of the objects first (`starts_in_front`), so that each object is painted
-- from its start on. With the layout's end at or below 28,672 every global's slots lie in the table
-- (`slots_fit`), so that painting what the table has is painting. `all_same` goes through the objects.
use Prim.Native.Nat.{ℕ, ◌+◌, ◌<◌, ◌≤◌}
use mathlib.Core.Path.{◌≡◌, refl, sym, ◌∙◌, ap}
use mathlib.Core.Bool.{Bool, true, false}
use mathlib.Core.Logic.{◌⊎◌, inl, inr}
use mathlib.Core.List.{List, [], ◌∷◌, ◌++◌, map}
use native.Mathlib.Omega.{arith}
use Rattle.std.specs.List.{range_with_len}
use lib.ListN.{length, get_or, replicate, length-append, length-map, length-replicate, get_or-map}
use lib.Seq.{append_snoc, get_or-append_seam}
use lib.Dec.{eqb}
use borrow.Author.Tests.{eqb-true, leb-true, ne_eqb}
use Rattle.opcodes.specs.declared.Object.{Object}
use Rattle.opcodes.specs.View.{extent}
use Rattle.files.specs.Held.{blank, filled, objects_held}
use Rattle.files.specs.Program.{Program}
use Rattle.files.proofs.Filled.{take-filled}
use Rattle.layout.specs.Layout.{Piece, piece_of, pieces_of, start_of, end_of, fits}
use Rattle.layout.specs.Arrays.{counted, layout_of}
use Rattle.layout.proofs.Places.{ends_below}
use Rattle.layout.proofs.Pieces.{start_held, pieces_held}
use Rattle.memory.specs.Memory.{memory_size, table_size, slot, paint}
use Rattle.heap.specs.Heap.{heap_start, end_slot}
use Rattle.memory.specs.Lent.{painted}
use Rattle.heap.specs.Lent.{After, started}
use Rattle.memory.proofs.Exact.{painted_exact}
use Rattle.heap.proofs.Exact.{started_exact}
use Rattle.memory.proofs.Memory.{length-fill}
use Rattle.start.specs.First.{blank_memory, first_memory, paint_globals, blank_table, first_table}
use Rattle.start.specs.Held.{paint_one, paint_held, laid_table, laid_start}
use Rattle.start.specs.declared.Laid.{Laid}

-- ---- what a loop still paints: the first of those that are left and the others, or nothing

pub paint_first : (table : List ℕ) {start : ℕ} {o : Object} {starts rest : List ℕ} {os left : List Object}
    → starts ≡ start ∷ rest → os ≡ o ∷ left → paint_held starts os table ≡ paint_held rest left (paint_one table start o)
unfolding paint_held
paint_first table e f = (λ i. paint_held (e i) (f i) table)

pub paint_none : (starts : List ℕ) (os : List Object) (table : List ℕ) → (starts ≡ []) ⊎ (os ≡ []) → paint_held starts os table ≡ table
unfolding paint_held
paint_none [] os table none = refl
paint_none (start ∷ starts) [] table none = refl
paint_none (start ∷ starts) (o ∷ os) table (inl e) = cc
paint_none (start ∷ starts) (o ∷ os) table (inr e) = cc

pub length-paint : (table : List ℕ) (a n color : ℕ) → slot a + slot n ≤ length table → length (paint table a n color) ≡ length table
length-paint table a n color h = length-fill table (slot a) (slot n) color h

-- ---- all objects

-- the start of an object, read off the array
pub start_is : (os : List Object) (g : ℕ) → g < length os → get_or (layout_of (pieces_of os)).starts g 0 ≡ start_of (pieces_of os) g
start_is os g h = start_held (pieces_of os) g (omega (arith, length-map os piece_of))

module _ (os : List Object) (fit : end_of (pieces_of os) ≤ 28672) where
  -- a global's slots lie in the table
  slots_fit : (g : ℕ) (o : Object) → g < length os → get_or os g blank ≡ o → o.kind ≡ 0 → slot (start_of (pieces_of os) g) + slot (extent o.size) ≤ 3584
  slots_fit g o h e global =
      let is : get_or (pieces_of os) g (piece_of blank) ≡ piece_of o = get_or-map piece_of os g blank ∙ ap piece_of e in
      let end = ends_below (pieces_of os) g (omega (arith, length-map os piece_of)) (ap (λ x. x.kind) is ∙ global) in
      let size = ap (λ x. extent x.size) is in
      omega (arith, end, size)

  -- object g's slots, painted where a test says so
  abbrev paint_by : Bool → (g : ℕ) → Object → (table : List ℕ) → List ℕ
  paint_by b g o table = elim b [ true ↦ paint table (start_of (pieces_of os) g) (extent o.size) o.color | false ↦ table ]

  -- the code's painting of one object is the definition's, and the table keeps its length
  one_same : (g : ℕ) (o : Object) → g < length os → get_or os g blank ≡ o → (table : List ℕ) → length table ≡ table_size
      → (paint_one table (start_of (pieces_of os) g) o ≡ paint_by (eqb o.kind 0) g o table) × (length (paint_by (eqb o.kind 0) g o table) ≡ table_size)
  one_same g o h e table long = go (eqb o.kind 0) refl
    where
      go : (b : Bool) → eqb o.kind 0 ≡ b
          → (elim b [ true ↦ painted table (start_of (pieces_of os) g) (extent o.size) o.color | false ↦ table ] ≡ paint_by b g o table)
          × (length (paint_by b g o table) ≡ table_size)
      go true global =
          let room : slot (start_of (pieces_of os) g) + slot (extent o.size) ≤ length table = omega (arith, slots_fit g o h e (eqb-true _ _ global)) in (
            painted_exact table (start_of (pieces_of os) g) (extent o.size) o.color room,
            length-paint table (start_of (pieces_of os) g) (extent o.size) o.color room ∙ long,
          )
      go false none = (refl, long)

  -- the starts of `left` objects from g on, in front of others
  abbrev starts_from : (g left : ℕ) → List ℕ → List ℕ
  starts_from g left others = map (start_of (pieces_of os)) (range_with_len g left) ++ others

  all_same : (done rest : List Object) (g : ℕ) → done ++ rest ≡ os → g ≡ length done → (others table : List ℕ) → length table ≡ table_size
      → (paint_held (starts_from g (length rest) others) rest table ≡ paint_globals (pieces_of os) g rest table)
      × (length (paint_globals (pieces_of os) g rest table) ≡ table_size)
  unfolding paint_held paint_globals
  all_same done [] g e counted others table long = (paint_none others [] table (inr refl), long)
  all_same done (o ∷ rest) g e counted others table long =
      let here : get_or os g blank ≡ o = ap (λ l. get_or l g blank) (sym e) ∙ ap (λ n. get_or (done ++ o ∷ rest) n blank) counted ∙ get_or-append_seam done o rest blank in
      let inside : g < length os = omega (arith, ap length e, length-append done (o ∷ rest)) in
      let more : g + 1 ≡ length (done ++ o ∷ []) = omega (arith, length-append done (o ∷ [])) in
      let one = one_same g o inside here table long in
      let later =
      all_same (done ++ o ∷ []) rest (g + 1) (append_snoc done o rest ∙ e) more others (paint_by (eqb o.kind 0) g o table) one.1 in
      (ap (paint_held (starts_from (g + 1) (length rest) others) rest) one.0 ∙ later.0, later.1)

  -- the starts of the objects stand in front
  starts_in_front : (others : List ℕ) × ((layout_of (pieces_of os)).starts ≡ starts_from 0 (length os) others)
  unfolding filled
  starts_in_front =
      let many : length (pieces_of os) ≡ length os = length-map os piece_of in
      (_, ap (λ n. filled 400 0 (map (start_of (pieces_of os)) (range_with_len 0 n))) many)

  painted_same : (table : List ℕ) → length table ≡ table_size
      → (paint_held (layout_of (pieces_of os)).starts os table ≡ paint_globals (pieces_of os) 0 os table)
      × (length (paint_globals (pieces_of os) 0 os table) ≡ table_size)
  painted_same table long =
      let same = all_same [] os 0 refl refl starts_in_front.0 table long in
      (ap (λ starts. paint_held starts os table) starts_in_front.1 ∙ same.0, same.1)

-- ---- the start of a program

module _ (p : Program) (memory table : List ℕ) (most : length p.objects ≤ 400)
    (exact : length memory ≡ memory_size) (long : length table ≡ table_size) where
  laid_first : end_of (pieces_of p.objects) ≤ 28672 → laid_table (layout_of (pieces_of p.objects)).starts (objects_held p.objects) table ≡ first_table p
  unfolding laid_table first_table blank_table
  laid_first fit =
      let blanks : List ℕ = replicate (length table) 0 in
      let same = painted_same p.objects fit blanks (length-replicate (length table) 0 ∙ long) in
      let globals : List ℕ = paint_globals (pieces_of p.objects) 0 p.objects blanks in
      let header : length (paint globals heap_start 8 1) ≡ table_size = length-paint globals heap_start 8 1 (omega (arith, same.1)) ∙ same.1 in
      ap (λ os. painted (painted (paint_held (layout_of (pieces_of p.objects)).starts os blanks) heap_start 8 1) end_slot 8 1)
      (take-filled 400 blank p.objects (counted (length p.objects)) (omega arith))
      ∙ ap (λ t. painted (painted t heap_start 8 1) end_slot 8 1) same.0
      ∙ ap (λ t. painted t end_slot 8 1) (painted_exact globals heap_start 8 1 (omega (arith, same.1)))
      ∙ painted_exact (paint globals heap_start 8 1) end_slot 8 1 (omega (arith, header))
      ∙ ap (λ n. paint (paint (paint_globals (pieces_of p.objects) 0 p.objects (replicate n 0)) heap_start 8 1) end_slot 8 1) long

  first_memory_lem : started memory ≡ first_memory
  unfolding blank_memory
  first_memory_lem = started_exact memory exact

  -- what a program's start answers and leaves, in the words of the definitions
  abbrev pub first_for : Bool → After Laid
  first_for b =
      record {
        answer = record { fits = b; starts = (layout_of (pieces_of p.objects)).starts };
        memory = elim b [ true ↦ first_memory | false ↦ memory ];
        table = elim b [ true ↦ first_table p | false ↦ table ];
      }

  pub starts_first : laid_start (objects_held p.objects) memory table ≡ first_for (fits (pieces_of p.objects))
  unfolding laid_start
  starts_first = ap (λ os. laid os (fits os)) (pieces_held p.objects most) ∙ go (fits (pieces_of p.objects)) refl
    where
      laid : List Piece → Bool → After Laid
      laid os b =
          record {
            answer = record { fits = b; starts = (layout_of os).starts };
            memory = elim b [ true ↦ started memory | false ↦ memory ];
            table = elim b [ true ↦ laid_table (layout_of os).starts (objects_held p.objects) table | false ↦ table ];
          }

      go : (b : Bool) → fits (pieces_of p.objects) ≡ b → laid (pieces_of p.objects) b ≡ first_for b
      go true e =
          λ i. record {
            answer = record { fits = true; starts = (layout_of (pieces_of p.objects)).starts };
            memory = first_memory_lem i;
            table = laid_first (leb-true _ _ e) i;
          }
      go false e = refl

-- a heap site has no slots
pub paints_not : (table : List ℕ) (start : ℕ) (o : Object) → (o.kind ≡ 0 → ⊥) → table ≡ paint_one table start o
paints_not table start o site = rw (ne_eqb o.kind 0 site, paint_one) refl
