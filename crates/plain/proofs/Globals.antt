-- The globals of an accepted routine: version 2 lays them out as the plain rule does, each in whole
-- slots of its own below the heap, and the first table tells of each byte below the heap whose it is.
use Prim.Native.Nat.{ℕ, zero, suc, ◌+◌, ◌%◌, ◌<◌, ◌≤◌}
use native.Mathlib.Nat.{not-suc-le-zero, le_of_suc-le-suc}
use native.Mathlib.Omega.{arith}
use mathlib.Core.Path.{◌≡◌, refl, sym, ◌∙◌, ap, subst}
use mathlib.Core.List.{List, [], ◌∷◌, ◌++◌, append_assoc}
use mathlib.Core.Bool.{Bool, true, false, not}
use lib.ListN.{length, get_or, length-append}
use lib.Seq.{get_or_at}
use lib.Dec.{eqb}
use borrow.Author.Tests.{eq-eqb, eqb-true, leb-true}
use Rattle.opcodes.specs.declared.Object.{Object}
use Rattle.files.specs.Program.{Program}
use Rattle.opcodes.specs.View.{extent}
use Rattle.safety.specs.Unsafe.{unsafe_sets, size_of}
use Rattle.coloring.specs.Class.{unsafe_object}
use Rattle.coloring.specs.Colored.{tinted}
use Rattle.layout.specs.Layout.{Piece, start_of, end_of, fits}
use Rattle.layout.proofs.Places.{piece_at, extent_at, start_whole, ends_below, globals_apart}
use Rattle.start.specs.First.{paint_globals}
use Rattle.heap.specs.Heap.{heap_start}
use Rattle.plain.specs.Live.{Live, owns}
use Rattle.plain.specs.Plain.{globals_from, globals}
use Rattle.plain.proofs.Owners.{Each, each_map, owns_is, owns_outside}
use Rattle.plain.proofs.Painting.{Whole, Apart, painted}
use Rattle.routines.specs.Accepted.{plain_pieces_from, plain_pieces}

-- ---- the pieces of a routine are its objects

abbrev Match : List Piece → (g : ℕ) → List Object → Type 0
Match pieces g [] = Unit {0}
Match pieces g (o ∷ os) = (g < length pieces) × ((piece_at pieces g).kind ≡ o.kind) × ((piece_at pieces g).size ≡ o.size) × Match pieces (g + 1) os

match : (sets : List (List ℕ)) (pieces : List Piece) (objects : List Object) (g : ℕ) (front : List Piece)
    → pieces ≡ front ++ plain_pieces_from sets g objects → length front ≡ g → Match pieces g objects
unfolding plain_pieces_from
match sets pieces [] g front e l = tt
match sets pieces (o ∷ os) g front e l =
    let piece : Piece = record { kind = o.kind; size = o.size; safe = not (unsafe_object sets g) } in
    let rest : List Piece = plain_pieces_from sets (g + 1) os in
    let at : piece_at pieces g ≡ piece = ap (λ x. piece_at x g) e ∙ get_or_at front piece rest _ g l in (
      omega (arith, ap length e ∙ length-append front (piece ∷ rest)),
      ap (λ x. x.kind) at,
      ap (λ x. x.size) at,
      match sets pieces os (g + 1) (front ++ (piece ∷ [])) (e ∙ sym (append_assoc front (piece ∷ []) rest)) (length-append front (piece ∷ []) ∙ omega arith),
    )

-- ---- each global stands by itself

record Global (pieces : List Piece) (from : ℕ) (o : Live) : Type 0 where
  above : from ≤ o.object
  inside : o.object < length pieces
  kind : (piece_at pieces o.object).kind ≡ 0
  start : o.start ≡ start_of pieces o.object
  size : o.size ≡ extent_at pieces o.object

-- what is proved of an object that is a global, and of those behind it
by_kind : (P : Live → Type 0) (pieces : List Piece) (g : ℕ) (o : Object) (os : List Object)
    → (eqb o.kind 0 ≡ true → P (record { object = g; start = start_of pieces g; size = extent o.size }))
    → Each P (globals_from pieces (g + 1) os) → Each P (globals_from pieces g (o ∷ os))
unfolding globals_from
by_kind P pieces g o os here later = go (eqb o.kind 0) refl
  where
    go : (b : Bool) → eqb o.kind 0 ≡ b → Each P (globals_from pieces g (o ∷ os))
    go true e = rw (e, globals_from) (here e, later)
    go false e = rw (e, globals_from) later

each_global : (pieces : List Piece) (objects : List Object) (g : ℕ) → Match pieces g objects → Each (Global pieces g) (globals_from pieces g objects)
unfolding globals_from
each_global pieces [] g m = tt
each_global pieces (o ∷ os) g m =
    by_kind (Global pieces g) pieces g o os
    (λ e. record { above = omega arith; inside = m.0; kind = m.1 ∙ eqb-true o.kind 0 e; start = refl; size = ap extent (sym m.2) })
    (each_map (Global pieces (g + 1)) (Global pieces g)
    (λ x h. record { above = omega (arith, h.above); inside = h.inside; kind = h.kind; start = h.start; size = h.size })
    (globals_from pieces (g + 1) os) (each_global pieces os (g + 1) m.3))

-- what holds of each global holds of one
each_behind : (P : Live → Type 0) (pieces : List Piece) (g : ℕ) (o : Object) (os : List Object)
    → Each P (globals_from pieces g (o ∷ os)) → Each P (globals_from pieces (g + 1) os)
unfolding globals_from
each_behind P pieces g o os each = go (eqb o.kind 0) refl
  where
    go : (b : Bool) → eqb o.kind 0 ≡ b → Each P (globals_from pieces (g + 1) os)
    go true e = (rw (e, globals_from) at each).1
    go false e = rw (e, globals_from) at each

each_at : (P : Live → Type 0) (pieces : List Piece) (objects : List Object) (g k : ℕ) → Each P (globals_from pieces g objects) → k < length objects
    → (get_or objects k (record { kind = 0; size = 0; color = 0 })).kind ≡ 0
    → P (record { object = g + k; start = start_of pieces (g + k); size = extent (get_or objects k (record { kind = 0; size = 0; color = 0 })).size })
unfolding globals_from
each_at P pieces [] g k each inside global = absurd (not-suc-le-zero inside)
each_at P pieces (o ∷ os) g zero each inside global =
    let e : eqb o.kind 0 ≡ true = eq-eqb o.kind 0 global in
    let here : P (record { object = g; start = start_of pieces g; size = extent o.size }) = (rw (e, globals_from) at each).0 in
    let is : g ≡ g + 0 = omega arith in
    subst (λ n. P (record { object = n; start = start_of pieces n; size = extent o.size })) is here
each_at P pieces (o ∷ os) g (suc k) each inside global =
    let is : g + 1 + k ≡ g + suc k = omega arith in
    subst (λ n. P (record { object = n; start = start_of pieces n; size = extent (get_or os k (record { kind = 0; size = 0; color = 0 })).size })) is
    (each_at P pieces os (g + 1) k (each_behind P pieces g o os each) (le_of_suc-le-suc inside) global)

pub global_of : (P : Live → Type 0) (p : Program) (g : ℕ) → Each P (globals p) → g < length p.objects
    → (get_or p.objects g (record { kind = 0; size = 0; color = 0 })).kind ≡ 0
    → P (record { object = g; start = start_of (plain_pieces p) g; size = extent (size_of p.objects g) })
unfolding globals
global_of P p g each inside global =
    let is : 0 + g ≡ g = omega arith in
    subst (λ n. P (record { object = n; start = start_of (plain_pieces p) n; size = extent (size_of p.objects g) })) is
    (each_at P (plain_pieces p) p.objects 0 g each inside global)

module _ (pieces : List Piece) (fitting : fits pieces ≡ true) where
  whole : (from : ℕ) (o : Live) → Global pieces from o → Whole o
  whole from o h =
      record {
        start = ap (λ x. x % 8) h.start ∙ start_whole pieces o.object;
        size = omega (arith, h.size);
        below = omega (arith, h.start, h.size, ends_below pieces o.object h.inside h.kind, leb-true (end_of pieces) heap_start fitting);
      }

  -- two globals, one of them further on
  two_apart : (g : ℕ) (o x : Live) → o.object ≡ g → Global pieces g o → Global pieces (g + 1) x → (a : ℕ) → owns o a ≡ true → owns x a ≡ false
  two_apart g o x is h k a own =
      owns_outside x a
      (λ low high.
      globals_apart pieces o.object x.object (omega (arith, k.above)) k.inside h.kind k.kind a
      (omega (arith, h.start, (owns_is o a own).0)) (omega (arith, h.start, h.size, (owns_is o a own).1))
      (omega (arith, k.start)) (omega (arith, k.start, k.size)))

  apart : (objects : List Object) (g : ℕ) → Match pieces g objects → Apart (globals_from pieces g objects)
  unfolding globals_from
  apart [] g m = tt
  apart (o ∷ os) g m = go (apart os (g + 1) m.3) (eqb o.kind 0) refl
    where
      go : Apart (globals_from pieces (g + 1) os) → (b : Bool) → eqb o.kind 0 ≡ b → Apart (globals_from pieces g (o ∷ os))
      go later true e =
          let this : Live = record { object = g; start = start_of pieces g; size = extent o.size } in
          rw (e, globals_from) (
            each_map (Global pieces (g + 1)) (λ x. (a : ℕ) → owns this a ≡ true → owns x a ≡ false)
                (λ x k. two_apart g this x refl
                (record { above = omega arith; inside = m.0; kind = m.1 ∙ eqb-true o.kind 0 e; start = refl; size = ap extent (sym m.2) }) k)
                (globals_from pieces (g + 1) os) (each_global pieces os (g + 1) m.3),
            later,
          )
      go later false e = rw (e, globals_from) later

module _ (p : Program) (fitting : fits (plain_pieces p) ≡ true) where
  matches : Match (plain_pieces p) 0 p.objects
  matches = match (unsafe_sets p) (plain_pieces p) p.objects 0 [] refl refl

  pub globals_whole : Each Whole (globals p)
  unfolding globals
  globals_whole =
      each_map (Global (plain_pieces p) 0) Whole (whole (plain_pieces p) fitting 0) (globals_from (plain_pieces p) 0 p.objects)
      (each_global (plain_pieces p) p.objects 0 matches)

  match_at : (pieces : List Piece) (objects : List Object) (g k : ℕ) → Match pieces g objects → k < length objects
      → (g + k < length pieces) × ((piece_at pieces (g + k)).kind ≡ (get_or objects k (record { kind = 0; size = 0; color = 0 })).kind)
      × ((piece_at pieces (g + k)).size ≡ (get_or objects k (record { kind = 0; size = 0; color = 0 })).size)
  match_at pieces [] g k m h = absurd (not-suc-le-zero h)
  match_at pieces (o ∷ os) g zero m h =
      let e : g ≡ g + 0 = omega arith in
      subst (λ n. (n < length pieces) × ((piece_at pieces n).kind ≡ o.kind) × ((piece_at pieces n).size ≡ o.size)) e (m.0, m.1, m.2)
  match_at pieces (o ∷ os) g (suc k) m h =
      let e : g + 1 + k ≡ g + suc k = omega arith in
      subst (λ n. (n < length pieces) × ((piece_at pieces n).kind ≡ (get_or os k (record { kind = 0; size = 0; color = 0 })).kind) × ((piece_at pieces n).size ≡ (get_or os k (record { kind = 0; size = 0; color = 0 })).size)) e
      (match_at pieces os (g + 1) k m.3 (le_of_suc-le-suc h))

  -- a global of the routine ends below the heap
  pub global_end : (g : ℕ) → g < length p.objects → (get_or p.objects g (record { kind = 0; size = 0; color = 0 })).kind ≡ 0
      → start_of (plain_pieces p) g + extent (size_of p.objects g) ≤ heap_start
  global_end g inside global =
      let e : 0 + g ≡ g = omega arith in
      let m : (g < length (plain_pieces p)) × ((piece_at (plain_pieces p) g).kind ≡ (get_or p.objects g (record { kind = 0; size = 0; color = 0 })).kind)
      × ((piece_at (plain_pieces p) g).size ≡ (get_or p.objects g (record { kind = 0; size = 0; color = 0 })).size) =
      subst (λ n. (n < length (plain_pieces p)) × ((piece_at (plain_pieces p) n).kind ≡ (get_or p.objects g (record { kind = 0; size = 0; color = 0 })).kind)
      × ((piece_at (plain_pieces p) n).size ≡ (get_or p.objects g (record { kind = 0; size = 0; color = 0 })).size)) e (match_at (plain_pieces p) p.objects 0 g matches inside) in
      omega (arith, ap extent m.2, ends_below (plain_pieces p) g m.0 (m.1 ∙ global), leb-true (end_of (plain_pieces p)) heap_start fitting)

  pub globals_share_none : Apart (globals p)
  unfolding globals
  globals_share_none = apart (plain_pieces p) fitting p.objects 0 matches

-- ---- painting the globals of version 2 is painting the globals

pub paint_globals_lem : (color : ℕ → ℕ) (pieces : List Piece) (objects : List Object) (g : ℕ) (table : List ℕ)
    → paint_globals pieces g (tinted color g objects) table ≡ painted color (globals_from pieces g objects) table
unfolding paint_globals tinted painted globals_from
paint_globals_lem color pieces [] g table = refl
paint_globals_lem color pieces (o ∷ os) g table = go (paint_globals_lem color pieces os (g + 1)) (eqb o.kind 0) refl
  where
    go : ((table : List ℕ) → paint_globals pieces (g + 1) (tinted color (g + 1) os) table ≡ painted color (globals_from pieces (g + 1) os) table)
        → (b : Bool) → eqb o.kind 0 ≡ b → paint_globals pieces g (tinted color g (o ∷ os)) table ≡ painted color (globals_from pieces g (o ∷ os)) table
    go later true e = rw (e, paint_globals, globals_from) (later _)
    go later false e = rw (e, paint_globals, globals_from) (later table)
