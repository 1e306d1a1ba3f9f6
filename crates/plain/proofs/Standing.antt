-- What stands at an instruction's place in version 2, by whether it is unsafe.
use Prim.Native.Nat.{ℕ, ◌+◌, ◌<◌}
use native.Mathlib.Omega.{arith}
use mathlib.Core.Path.{◌≡◌, sym, ◌∙◌, ap}
use mathlib.Core.List.{List, [], ◌∷◌}
use lib.ListN.{length}
use Rattle.opcodes.specs.declared.Instr.{Instr}
use Rattle.opcodes.specs.View.{view, check_instr}
use Rattle.instructions.specs.Moved.{moved}
use Rattle.files.specs.Program.{Program}
use Rattle.safety.specs.Unsafe.{Unsafe, unsafe_in}
use Rattle.coloring.specs.Color.{color_of_set}
use Rattle.plain.specs.Guards.{instr_at, Stands, Guards}

pub nothing_not_one : {u : Unsafe} → ◌≡◌ {A = List Unsafe} [] (u ∷ []) → ⊥
nothing_not_one e = let z : ◌≡◌ {A = ℕ} 0 1 = cc in omega arith

module _ (p q : Program) (guards : Guards p q) (k : ℕ) (in_code : k < length p.code) where
  abbrev place : ℕ → ℕ
  place = guards.place

  abbrev copy : Instr
  copy = moved guards.target (instr_at p k)

  -- an instruction with no check stands at its place
  pub record Alone : Type 0 where
    pub inside₂ : place k < length q.code
    pub here : instr_at q (place k) ≡ copy
    pub follows : place (k + 1) ≡ place k + 1

  -- an unsafe store stands directly behind its check
  pub record Checked (u : Unsafe) : Type 0 where
    pub inside₂ : place k + 1 < length q.code
    pub here : instr_at q (place k) ≡ check_instr u.aim (color_of_set guards.color u.set)
    pub behind : instr_at q (place k + 1) ≡ copy
    pub follows : place (k + 1) ≡ place k + 1 + 1

  abbrev Standing : Type 0
  Standing = Stands p q guards.color guards.place guards.target k

  -- an instruction that is not unsafe stands alone, and no unsafe one does
  pub alone : unsafe_in p (view (instr_at p k)) ≡ [] → Alone
  alone none = go (guards.stands k in_code)
    where
      go : Standing → Alone
      go (Stands.alone n inside is next) = record { inside₂ = inside; here = is; follows = next }
      go (Stands.behind u e inside check is next) = absurd (nothing_not_one (sym none ∙ e))

  pub checked : (u : Unsafe) → unsafe_in p (view (instr_at p k)) ≡ u ∷ [] → Checked u
  checked u e = go (guards.stands k in_code)
    where
      go : Standing → Checked u
      go (Stands.alone none inside is next) = absurd (nothing_not_one (sym none ∙ e))
      go (Stands.behind u' e' inside check is next) =
          let same : u' ≡ u = cc in
          record {
            inside₂ = inside;
            here = check ∙ ap (λ (u : Unsafe). check_instr u.aim (color_of_set guards.color u.set)) same;
            behind = is;
            follows = omega (arith, next);
          }

  pub place_inside : place k < length q.code
  place_inside = go (guards.stands k in_code)
    where
      go : Standing → place k < length q.code
      go (Stands.alone none inside is next) = inside
      go (Stands.behind u e inside check is next) = omega (arith, inside)
