-- Which routines are accepted, without colors: at most 254 classes, and globals that fit.
use Rattle.std.specs.Prelude.{ℕ, ◌+◌, ◌≡◌, List, [], ◌∷◌, Bool, true, false, not}
use Rattle.numbers.specs.declared.refusal.Cause.{Cause}
use Rattle.numbers.specs.Refusals.{refusal}
use Rattle.opcodes.specs.declared.Object.{Object}
use Rattle.files.specs.Program.{Program}
use Rattle.files.specs.Reading.{Reading, whole, on_whole}
use Rattle.files.specs.Writing.{good_program}
use Rattle.safety.specs.Unsafe.{unsafe_sets}
use Rattle.coloring.specs.Class.{unsafe_object}
use Rattle.coloring.specs.Colored.{few_classes, classed}
use Rattle.layout.specs.Layout.{Piece, fits}

-- the layout of a routine: an object is safe if no unsafe instruction's set holds it
unfoldable pub plain_pieces_from : (sets : List (List ℕ)) (g : ℕ) → List Object → List Piece
plain_pieces_from sets g [] = []
plain_pieces_from sets g (o ∷ os) =
    record { kind = o.kind; size = o.size; safe = not (unsafe_object sets g) } ∷ plain_pieces_from sets (g + 1) os

abbrev pub plain_pieces : Program → List Piece
plain_pieces p = plain_pieces_from (unsafe_sets p) 0 p.objects

-- "9 | globals end above 28,672 | 0"
abbrev pub globals_fit : Program → Bool
globals_fit p = fits (plain_pieces p)

abbrev pub laid_out : Program → Reading
laid_out p = elim (globals_fit p) [ true ↦ whole p | false ↦ Reading.refused (refusal Cause.LargeGlobals 0) ]

-- "then the file from left to right, then 8 and 9"
abbrev pub accepted : Reading → Reading
accepted r = on_whole laid_out (on_whole classed r)

-- a routine that is accepted: what a file of version 1 says, with few enough classes and globals that fit
pub record Accepted (p : Program) : Type 0 where
  pub good : good_program 1 p ≡ true
  pub classes : few_classes p ≡ true
  pub fitting : globals_fit p ≡ true
