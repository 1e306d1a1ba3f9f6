-- What coloring a routine answers: the routine with the color of each object, or refusal 8.
use Rattle.std.specs.Prelude.{ℕ, ◌+◌, List, [], ◌∷◌, Bool, true, false, length, leb}
use Rattle.numbers.specs.declared.refusal.Cause.{Cause}
use Rattle.numbers.specs.Refusals.{refusal}
use Rattle.opcodes.specs.declared.Object.{Object}
use Rattle.files.specs.Program.{Program}
use Rattle.files.specs.Reading.{Reading, whole, on_whole}
use Rattle.safety.specs.Unsafe.{unsafe_sets}
use Rattle.coloring.specs.Color.{classes_below, color_of}

-- the objects from number `from` on, each with its color
unfoldable pub tinted : (color : ℕ → ℕ) (from : ℕ) → List Object → List Object
tinted color from [] = []
tinted color from (o ∷ os) = record { kind = o.kind; size = o.size; color = color from } ∷ tinted color (from + 1) os

abbrev pub with_colors : (color : ℕ → ℕ) → Program → Program
with_colors color p = record { objects = tinted color 0 p.objects; sets = p.sets; code = p.code }

-- 01's coloring of a routine
abbrev pub color_in : Program → ℕ → ℕ
color_in p = color_of (unsafe_sets p)

abbrev pub class_count : Program → ℕ
class_count p = classes_below (unsafe_sets p) (length p.objects)

-- "8 | more than 254 classes | 0"
abbrev pub few_classes : Program → Bool
few_classes p = leb (class_count p) 254

abbrev pub classed : Program → Reading
classed p = elim (few_classes p) [ true ↦ whole p | false ↦ Reading.refused (refusal Cause.ManyClasses 0) ]

unfoldable pub colored : Reading → Reading
colored r = on_whole (λ p. whole (with_colors (color_in p) p)) (on_whole classed r)
