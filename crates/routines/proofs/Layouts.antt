-- A layout asks of a color only whether it is 0. Colors that are 0 exactly on the safe objects give every
-- object the place that it has without colors.
use Prim.Native.Nat.{ℕ, ◌+◌, ◌≤◌}
use native.Mathlib.Omega.{arith}
use mathlib.Core.Path.{◌≡◌, refl, sym, ◌∙◌, ap, ap₂}
use mathlib.Core.List.{List, [], ◌∷◌}
use mathlib.Core.Bool.{Bool, true, false, not}
use lib.Dec.{eqb}
use borrow.Author.Tests.{eq-eqb, ne_eqb}
use Rattle.opcodes.specs.declared.Object.{Object}
use Rattle.files.specs.Program.{Program}
use Rattle.safety.specs.Unsafe.{unsafe_sets}
use Rattle.coloring.specs.Class.{unsafe_object}
use Rattle.coloring.specs.Colored.{tinted, color_in}
use Rattle.coloring.proofs.Colors.{color_safe, color_low}
use Rattle.layout.specs.Layout.{Piece, pieces_of, fits}
use Rattle.routines.specs.Accepted.{plain_pieces_from, globals_fit}

module _ (sets : List (List ℕ)) (color : ℕ → ℕ) (safe : (x : ℕ) → unsafe_object sets x ≡ false → color x ≡ 0)
    (low : (x : ℕ) → unsafe_object sets x ≡ true → 2 ≤ color x) where
  safe_same : (g : ℕ) → eqb (color g) 0 ≡ not (unsafe_object sets g)
  safe_same g = go (unsafe_object sets g) refl
    where
      go : (b : Bool) → unsafe_object sets g ≡ b → eqb (color g) 0 ≡ not (unsafe_object sets g)
      go true e = ne_eqb (color g) 0 (λ q. omega (arith, low g e)) ∙ sym (ap not e)
      go false e = eq-eqb (color g) 0 (safe g e) ∙ sym (ap not e)

  pub pieces_same : (objects : List Object) (g : ℕ) → pieces_of (tinted color g objects) ≡ plain_pieces_from sets g objects
  unfolding tinted plain_pieces_from
  pieces_same [] g = refl
  pieces_same (o ∷ os) g =
      ap₂ (λ (s : Bool) (l : List Piece). record { kind = o.kind; size = o.size; safe = s } ∷ l) (safe_same g)
      (pieces_same os (g + 1))

-- 01's own colors
pub own_fit : (p : Program) → fits (pieces_of (tinted (color_in p) 0 p.objects)) ≡ globals_fit p
own_fit p = ap fits (pieces_same (unsafe_sets p) (color_in p) (color_safe (unsafe_sets p)) (color_low (unsafe_sets p)) p.objects 0)
