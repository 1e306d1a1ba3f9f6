-- One object: what is read is what is spelled there.
use Prim.Native.Nat.{ℕ, ◌+◌, ◌≤◌}
use mathlib.Core.Path.{◌≡◌, refl, ap, ◌∙◌, subst}
use mathlib.Core.List.{List, ◌++◌}
use mathlib.Core.Bool.{Bool, true, false}
use native.Mathlib.Omega.{arith}
use lib.ListN.{length}
use lib.Dec.{eqb}
use borrow.Author.Tests.{eqb-true, eqb-false, eq-eqb}
use Rattle.std.specs.Prelude.{Ok, Err}
use Rattle.numbers.specs.declared.refusal.Cause.{Cause}
use Rattle.numbers.specs.declared.Cursor.{Cursor}
use Rattle.numbers.specs.Number.{Read}
use Rattle.numbers.specs.Number.{spell}
use Rattle.opcodes.proofs.Bounds.{within_bounds, within_true, color_small}
use Rattle.opcodes.specs.declared.Object.{Object}
use Rattle.opcodes.specs.Ranges.{within, is_color}
use Rattle.files.specs.Program.{has_colors}
use Rattle.files.specs.Reading.{judged}
use Rattle.files.specs.Writing.{spell_if, spell_object, good_object, both}
use Rattle.files.proofs.Answered.{same_thing, same_cursor}
use Rattle.files.proofs.Tests.{both_true, both_left, both_right}
use Rattle.files.proofs.SpelledNumbers.{Stands, stands_append, stands_split, Judged, judged_of_read, read_of_judged, good_if, Optional, optional_of_read, read_of_optional}
use Rattle.files.specs.Parsing.{Answer, then, cursor, read_object, size_at, color_at}

-- a color that stands there or does not is at most 255
pub color_most : (b : Bool) (n : ℕ) → good_if b is_color n ≡ true → n ≤ 255
color_most false n e = omega (arith, eqb-true n 0 e)
color_most true n e = color_small n e

-- ---- an object

-- what is left to read behind the color, the size and the kind
abbrev after_color : (kind size : ℕ) → Read → Answer Object
after_color kind size r = then r λ color next. Ok (record { kind = kind; size = size; color = color }, next)

abbrev after_size : (version : ℕ) → List ℕ → (kind : ℕ) → Read → Answer Object
after_size version file kind r = then r λ size past_size. after_color kind size (color_at version file past_size.at)

abbrev after_kind : (version : ℕ) → List ℕ → Read → Answer Object
after_kind version file r = then r λ kind past_kind. after_size version file kind (size_at file kind past_kind.at)

-- the size's part of a good object
abbrev good_size : (kind size : ℕ) → Bool
good_size kind size = elim (eqb kind 0) [ true ↦ within 1 4096 size | false ↦ both (eqb kind 1) (eqb size 0) ]

-- what a good kind and size say
record Sized (kind size : ℕ) : Type 0 where
  kinds : within 0 1 kind ≡ true
  sizes : good_if (eqb kind 0) (within 1 4096) size ≡ true
  kind_most : kind ≤ 1
  size_most : size ≤ 4096

sized_of : (kind size : ℕ) → good_size kind size ≡ true → Sized kind size
sized_of kind size g = go (eqb kind 0) refl g
  where
    go : (b : Bool) → eqb kind 0 ≡ b → elim b as (λ _. Bool) [ true ↦ within 1 4096 size | false ↦ both (eqb kind 1) (eqb size 0) ] ≡ true → Sized kind size
    go true p g =
        let none : kind ≡ 0 = eqb-true kind 0 p in
        record { kinds = within_true 0 1 kind (omega arith) (omega arith); sizes = simp (p, good_if) g; kind_most = omega arith; size_most = (within_bounds 1 4096 size g).1 }
    go false p g =
        let one : kind ≡ 1 = eqb-true kind 1 (both_left (eqb kind 1) (eqb size 0) g) in
        let empty : size ≡ 0 = eqb-true size 0 (both_right (eqb kind 1) (eqb size 0) g) in
        record { kinds = within_true 0 1 kind (omega arith) (omega arith); sizes = simp (p, good_if) (both_right (eqb kind 1) (eqb size 0) g); kind_most = omega arith; size_most = omega arith }

pub object_of_read : (version : ℕ) (file : List ℕ) (at : ℕ) {o : Object} {c : Cursor} → read_object version file at ≡ Ok (o, c)
    → Stands file at (spell_object version o) c.at × (good_object version o ≡ true)
object_of_read version file at {o} {c} e = kinds (judged Cause.Field (within 0 1) file at) refl e
  where
    sized : (kind size : ℕ) → within 0 1 kind ≡ true → elim (eqb kind 0) as (λ _. Bool) [ true ↦ within 1 4096 size | false ↦ eqb size 0 ] ≡ true → good_size kind size ≡ true
    sized kind size k s = go (eqb kind 0) refl s
      where
        go : (b : Bool) → eqb kind 0 ≡ b → elim b as (λ _. Bool) [ true ↦ within 1 4096 size | false ↦ eqb size 0 ] ≡ true
            → elim b as (λ _. Bool) [ true ↦ within 1 4096 size | false ↦ both (eqb kind 1) (eqb size 0) ] ≡ true
        go true p s = s
        go false p s = both_true (eqb kind 1) (eqb size 0) (eq-eqb kind 1 (omega (arith, eqb-false kind 0 p, (within_bounds 0 1 kind k).1))) s

    colors : (kind size mid last : ℕ) → Judged file at (within 0 1) kind mid → Optional file mid (eqb kind 0) (within 1 4096) size last
        → (r : Read) → color_at version file last ≡ r → after_color kind size r ≡ Ok (o, c)
        → Stands file at (spell_object version o) c.at × (good_object version o ≡ true)
    colors kind size mid last k s (Ok (color, d)) r e =
        let made : record { kind = kind; size = size; color = color } ≡ o = same_thing e in
        let ends : d ≡ c = same_cursor e in
        let t = optional_of_read (has_colors version) Cause.Field is_color file last r in
        subst (λ (x : Object). Stands file at (spell_object version x) c.at × (good_object version x ≡ true)) made
        (rw (← ends) (
          stands_append (spell kind) (spell_if (eqb kind 0) size ++ spell_if (has_colors version) color) k.stood
              (stands_append (spell_if (eqb kind 0) size) (spell_if (has_colors version) color) s.stood t.stood),
          both_true (good_size kind size) _ (sized kind size k.passes s.passes) t.passes,
        ))
    colors kind size mid last k s (Err q) r e = let z : ◌≡◌ {A = ℕ} 0 1 = cc in absurd (omega arith)

    sizes : (kind mid : ℕ) → Judged file at (within 0 1) kind mid → (r : Read) → size_at file kind mid ≡ r → after_size version file kind r ≡ Ok (o, c)
        → Stands file at (spell_object version o) c.at × (good_object version o ≡ true)
    sizes kind mid k (Ok (size, d)) r e =
        colors kind size mid d.at k (optional_of_read (eqb kind 0) Cause.Field (within 1 4096) file mid r) (color_at version file d.at) refl e
    sizes kind mid k (Err q) r e = let z : ◌≡◌ {A = ℕ} 0 1 = cc in absurd (omega arith)

    kinds : (r : Read) → judged Cause.Field (within 0 1) file at ≡ r → after_kind version file r ≡ Ok (o, c)
        → Stands file at (spell_object version o) c.at × (good_object version o ≡ true)
    kinds (Ok (kind, d)) r e = sizes kind d.at (judged_of_read Cause.Field (within 0 1) file at r) (size_at file kind d.at) refl e
    kinds (Err q) r e = let z : ◌≡◌ {A = ℕ} 0 1 = cc in absurd (omega arith)

-- a good object whose spelling stands there is read
pub read_of_object : (version : ℕ) (file : List ℕ) (at next : ℕ) (o : Object) → Stands file at (spell_object version o) next → good_object version o ≡ true
    → read_object version file at ≡ Ok (o, cursor next)
read_of_object version file at next o s g =
    let kind = o.kind in
    let mid : ℕ = at + length (spell kind) in
    let last : ℕ = mid + length (spell_if (eqb kind 0) o.size) in
    let (first, rest) = stands_split (spell kind) _ s in
    let (second, third) = stands_split (spell_if (eqb kind 0) o.size) _ rest in
    let sized = sized_of kind o.size (both_left (good_size kind o.size) _ g) in
    let colored = both_right (good_size kind o.size) _ g in
    ap (after_kind version file) (read_of_judged Cause.Field (within 0 1) file at (record { stood = first; passes = sized.kinds; small = omega (arith, sized.kind_most) }))
    ∙ ap (after_size version file kind) (read_of_optional (eqb kind 0) Cause.Field (within 1 4096) file mid (record { stood = second; passes = sized.sizes; small = omega (arith, sized.size_most) }))
    ∙ ap (after_color kind o.size) (read_of_optional (has_colors version) Cause.Field is_color file last (record { stood = third; passes = colored; small = omega (arith, color_most (has_colors version) o.color colored) }))
