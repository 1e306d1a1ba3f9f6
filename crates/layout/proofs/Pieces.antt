-- What the pieces of a layout add up to, and where they start, one object at a time.
use Prim.Native.Nat.{ℕ, ◌+◌, ◌≤◌, ◌<◌}
use mathlib.Core.Path.{◌≡◌, refl, sym, ap, ap₂, ◌∙◌}
use mathlib.Core.Bool.{true, false}
use mathlib.Core.List.{List, [], map}
use native.Mathlib.Omega.{arith}
use native.Mathlib.Nat.{add-zero}
use native.Mathlib.Numerals.{add-one}
use Rattle.std.proofs.lemmas.Bool.Decides.{nat_tests}
use Rattle.std.proofs.lemmas.List.FromFn.{length-map-range_with_len, get_or-map-range_with_len, map-range_with_len_more}
use Rattle.std.proofs.lemmas.List.{take_all}
use Rattle.std.specs.List.{range_with_len}
use lib.ListN.{length, get_or, set, take, length-map, get_or-map, get_or-eq_default}
use Rattle.files.specs.Held.{blank, filled, objects_held}
use Rattle.files.proofs.Filled.{filled_more, get_d_filled, take-filled}
use Rattle.opcodes.specs.declared.Object.{Object}
use Rattle.layout.specs.declared.Layout.{Layout}
use Rattle.layout.specs.Layout.{Piece, total, safe_space, unsafe_space, unsafe_from, start_of, pieces_of, piece_of}
use Rattle.layout.specs.Arrays.{layout_of, pieces_in, counted}
use Rattle.layout.proofs.Places.{total_next}

-- ---- for a loop over objects

-- an object takes bytes among those of its color, and none among the others
safe_alone : (o : Piece) → o.safe ≡ true → unsafe_space 0 o ≡ 0
safe_alone o e = grind (arith, nat_tests)

unsafe_alone : (o : Piece) → o.safe ≡ false → safe_space 0 o ≡ 0
unsafe_alone o e = grind (arith, nat_tests)

module _ (os : List Object) where
  -- the bytes of the first g of them
  abbrev pub before : (space : Piece → ℕ) → (g : ℕ) → ℕ
  before space g = total space (take g (pieces_of os))

  abbrev pub here : (g : ℕ) → Piece
  here g = piece_of (get_or os g blank)

  -- one object more
  pub before_next : (space : Piece → ℕ) (g : ℕ) → g < length os → before space (g + 1) ≡ before space g + space (here g)
  before_next space g h =
      let inside : g < length (pieces_of os) = omega (arith, length-map os piece_of) in
      ap (before space) (add-one g) ∙ total_next space (pieces_of os) g (piece_of blank) inside
      ∙ ap (λ o. before space g + space o) (get_or-map piece_of os g blank)

  pub before_all : (space : Piece → ℕ) (g : ℕ) → length os ≤ g → before space g ≡ total space (pieces_of os)
  before_all space g h = ap (total space) (take_all g (pieces_of os) (omega (arith, length-map os piece_of)))

  -- ---- the loop that places the objects

  -- the next place for a safe and for an unsafe object, and the starts so far, before object g
  pub record Placed (starts : List ℕ) (safe_at unsafe_at g : ℕ) : Type 0 where
    pub safe_next : safe_at ≡ 8 + before (safe_space 0) g
    pub unsafe_next : unsafe_at ≡ unsafe_from 0 8 (pieces_of os) + before (unsafe_space 0) g
    pub filling : starts ≡ filled 400 0 (map (start_of (pieces_of os)) (range_with_len 0 g))

  pub placed_none : (starts : List ℕ) (from : ℕ) → starts ≡ filled 400 0 [] → from ≡ unsafe_from 0 8 (pieces_of os) → Placed starts 8 from 0
  unfolding total
  placed_none starts from e₁ e₂ = record { safe_next = refl; unsafe_next = omega arith; filling = e₁ }

  -- object g stands at the next place of its color
  start_at : (g : ℕ) → start_of (pieces_of os) g
      ≡ elim (here g).safe [ true ↦ 8 + before (safe_space 0) g | false ↦ unsafe_from 0 8 (pieces_of os) + before (unsafe_space 0) g ]
  unfolding start_of
  start_at g =
      ap (λ p. elim p.safe [ true ↦ 8 + before (safe_space 0) g | false ↦ unsafe_from 0 8 (pieces_of os) + before (unsafe_space 0) g ])
      (get_or-map piece_of os g blank)

  module _ {starts : List ℕ} {safe_at unsafe_at g : ℕ} (placed : Placed starts safe_at unsafe_at g) (h : g < length os) (most : length os ≤ 400) where
    placed_more : (start safe unsafe : ℕ) → start ≡ start_of (pieces_of os) g → safe ≡ safe_space 0 (here g) → unsafe ≡ unsafe_space 0 (here g)
        → Placed (set starts g start) (safe_at + safe) (unsafe_at + unsafe) (g + 1)
    placed_more start safe unsafe e₀ e₁ e₂ =
        let done : List ℕ = map (start_of (pieces_of os)) (range_with_len 0 g) in
        let long : length done ≡ g = length-map-range_with_len (start_of (pieces_of os)) 0 g in
        record {
          safe_next = omega (arith, placed.safe_next, before_next (safe_space 0) g h);
          unsafe_next = omega (arith, placed.unsafe_next, before_next (unsafe_space 0) g h);
          filling =
              ap₂ (λ x v. set x g v) placed.filling e₀
              ∙ filled_more 400 0 done (start_of (pieces_of os) g) g (sym long) (omega arith)
              ∙ ap (filled 400 0) (sym (map-range_with_len_more (start_of (pieces_of os)) 0 g g (omega arith)));
        }

    pub placed_safe : (here g).safe ≡ true → (space : ℕ) → space ≡ safe_space 0 (here g) + unsafe_space 0 (here g)
        → Placed (set starts g safe_at) (safe_at + space) unsafe_at (g + 1)
    placed_safe e space is =
        let none = safe_alone (here g) e in
        let start : safe_at ≡ start_of (pieces_of os) g = placed.safe_next ∙ sym (rw e at (start_at g)) in
        rw add-zero at (placed_more safe_at space 0 start (omega arith) (sym none))

    pub placed_unsafe : (here g).safe ≡ false → (space : ℕ) → space ≡ safe_space 0 (here g) + unsafe_space 0 (here g)
        → Placed (set starts g unsafe_at) safe_at (unsafe_at + space) (g + 1)
    placed_unsafe e space is =
        let none = unsafe_alone (here g) e in
        let start : unsafe_at ≡ start_of (pieces_of os) g = placed.unsafe_next ∙ sym (rw e at (start_at g)) in
        rw add-zero at (placed_more unsafe_at 0 space start (sym none) (omega arith))

  pub placed_all : {starts : List ℕ} {safe_at unsafe_at g : ℕ} → Placed starts safe_at unsafe_at g → g ≡ length os
      → ◌≡◌ {A = Layout} (record { starts = starts; end = unsafe_at }) (layout_of (pieces_of os))
  placed_all {starts} {safe_at} {unsafe_at} {g} placed all =
      let long : g ≡ length (pieces_of os) = all ∙ sym (length-map os piece_of) in
      ap₂ (λ x y. record { starts = x; end = y })
      (placed.filling ∙ ap (λ n. filled 400 0 (map (start_of (pieces_of os)) (range_with_len 0 n))) long)
      (placed.unsafe_next ∙ ap (λ n. unsafe_from 0 8 (pieces_of os) + n) (before_all (unsafe_space 0) g (omega arith)))

-- ---- for callers

-- the start of an object, read off the layout
pub start_held : (os : List Piece) (g : ℕ) → g < length os → get_or (layout_of os).starts g 0 ≡ start_of os g
start_held os g h =
    get_d_filled 400 0 (map (start_of os) (range_with_len 0 (length os))) g
    ∙ get_or-map-range_with_len (start_of os) 0 (length os) g g 0 h (omega arith)

-- and 0 where there is none
pub no_start_held : (os : List Piece) (g : ℕ) → length os ≤ g → get_or (layout_of os).starts g 0 ≡ 0
no_start_held os g h =
    let starts : List ℕ = map (start_of os) (range_with_len 0 (length os)) in
    let none : length starts ≤ g = omega (arith, length-map-range_with_len (start_of os) 0 (length os)) in
    get_d_filled 400 0 starts g ∙ get_or-eq_default starts 0 none

-- the pieces of a file's objects, as a reader holds them
pub pieces_held : (os : List Object) → length os ≤ 400 → pieces_in (objects_held os) ≡ pieces_of os
unfolding pieces_in
pieces_held os most = ap pieces_of (take-filled 400 blank os (counted (length os)) (omega arith))
