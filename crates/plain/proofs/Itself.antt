-- 01's own colors are exact, so version 2 of an accepted routine guards it.
use Prim.Native.Nat.{ℕ, ◌<◌}
use native.Mathlib.Omega.{arith}
use mathlib.Core.Path.{refl, sym, ap}
use mathlib.Core.List.{map}
use lib.ListN.{length}
use Rattle.files.specs.Program.{Program}
use Rattle.opcodes.specs.declared.Instr.{Instr}
use Rattle.opcodes.specs.View.{view, check_instr}
use Rattle.safety.specs.Unsafe.{Unsafe, unsafe_sets}
use Rattle.coloring.specs.Color.{color_of_set}
use Rattle.coloring.specs.Colored.{color_in}
use Rattle.safety.proofs.Stores.{unsafe_store, Stores, stores}
use Rattle.coloring.proofs.Colors.{color_apart, color_together}
use Rattle.routines.specs.Accepted.{Accepted}
use Rattle.instrumenter.specs.Instrumented.{span_of, new_place, instrumented}
use Rattle.instrumenter.proofs.FileColors.{FileColors, file_colors}
use Rattle.instrumenter.proofs.Guarded.{place_past, Alone, alone, Checked, checked}
use Rattle.plain.specs.Guards.{Exact, instr_at, Stands, Guards}
use Rattle.plain.specs.Demands.{GuardsItself}

exact_colors : (p : Program) → Accepted p → Exact (unsafe_sets p) (color_in p)
exact_colors p accepted =
    let colors : FileColors (unsafe_sets p) (color_in p) = file_colors p accepted.good accepted.classes in
    record {
      safe = colors.safe;
      low = colors.low;
      high = colors.high;
      apart = color_apart (unsafe_sets p);
      together = color_together (unsafe_sets p);
    }

module _ (p : Program) (color : ℕ → ℕ) where
  -- the check of an unsafe instruction
  abbrev check_for : Unsafe → Instr
  check_for u = check_instr u.aim (color_of_set color u.set)

  stands : (k : ℕ) → k < length p.code → Stands p (instrumented color p) color (new_place color p) (new_place color p) k
  unfolding instrumented
  stands k inside = go (stores p (view (instr_at p k)))
    where
      go : Stores p (view (instr_at p k)) → Stands p (instrumented color p) color (new_place color p) (new_place color p) k
      go (Stores.nothing none) =
          let a : Alone color p k inside = alone color p k inside (ap (map check_for) none) in
          Stands.alone none a.inside₂ a.here a.follows
      go (Stores.unsafe aim b s is unsafe one) =
          let a : Checked color p k inside (check_for (unsafe_store p aim s)) = checked color p k inside _ (ap (map check_for) one) in
          Stands.behind (unsafe_store p aim s) one a.inside₂ a.here a.behind (omega (arith, a.follows))

  -- version 2 under any exact colors
  pub guards_exactly : Exact (unsafe_sets p) color → Guards p (instrumented color p)
  unfolding instrumented new_place span_of
  guards_exactly exact =
      record {
        color = color;
        exact = exact;
        objects = refl;
        place = new_place color p;
        target = new_place color p;
        first = refl;
        stands = stands;
        last = λ k past. sym (place_past color p k past);
        jumps = λ t. omega arith;
      }

pub guards_itself : GuardsItself
guards_itself p accepted = guards_exactly p (color_in p) (exact_colors p accepted)
