-- Colors that a file can say: 0 on the safe objects and 2 to 255 on the others. 01's own are such.
use Prim.Native.Nat.{ℕ, ◌≤◌}
use mathlib.Core.Path.{◌≡◌}
use mathlib.Core.List.{List}
use mathlib.Core.Bool.{true, false}
use lib.ListN.{length}
use borrow.Author.Tests.{leb-true}
use Rattle.files.specs.Program.{Program}
use Rattle.files.specs.Writing.{good_program}
use Rattle.safety.specs.Unsafe.{unsafe_sets}
use Rattle.coloring.specs.Class.{unsafe_object}
use Rattle.coloring.specs.Colored.{color_in, class_count, few_classes}
use Rattle.coloring.proofs.Colors.{color_safe, color_low, color_high}
use Rattle.coloring.proofs.Bounds.{unsafe_below}
use Rattle.files.proofs.RoundTrip.{good_of}

pub record FileColors (sets : List (List ℕ)) (color : ℕ → ℕ) : Type 0 where
  pub safe : (x : ℕ) → unsafe_object sets x ≡ false → color x ≡ 0
  pub low : (x : ℕ) → unsafe_object sets x ≡ true → 2 ≤ color x
  pub high : (x : ℕ) → color x ≤ 255

pub file_colors : (p : Program) → good_program 1 p ≡ true → few_classes p ≡ true → FileColors (unsafe_sets p) (color_in p)
file_colors p good few =
    let sets = unsafe_sets p in
    record {
      safe = color_safe sets;
      low = color_low sets;
      high = color_high sets (length p.objects) (leb-true (class_count p) 254 few) (unsafe_below p (good_of 1 p good));
    }
