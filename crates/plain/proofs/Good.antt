-- What an accepted routine's instructions may name: facts of every instruction, by one law over the
-- whole code.
use Prim.Native.Nat.{ℕ, ◌<◌, ◌≤◌}
use mathlib.Core.Path.{◌≡◌, subst}
use mathlib.Core.List.{[]}
use mathlib.Core.Bool.{true}
use lib.ListN.{length, get_or}
use Rattle.opcodes.specs.declared.Instr.TheVariants.{End}
use Rattle.files.specs.Program.{Program}
use Rattle.files.specs.Writing.{good_instr, scope_of, good_program}
use Rattle.files.proofs.Tests.{every_at}
use Rattle.files.proofs.GoodInstructions.{NamesAct, NamesAim, Names, names}
use Rattle.files.proofs.RoundTrip.{good_of, set_some}
use Rattle.machine.proofs.Effects.{Proper, proper}
use Rattle.opcodes.specs.View.{View, act, jump, jump_if, store, check, view}

-- ---- one instruction

-- a site, a global or a set that is there, and no check
abbrev pub Fine : Program → View → Type 0
Fine p (act x) = Proper (λ g. g < length p.objects) x
Fine p (jump t) = Unit {0}
Fine p (jump_if a t) = Unit {0}
Fine p (store aim b s) = NamesAim p aim s
Fine p (check aim c) = ⊥

fine : (p : Program) (v : View) → Names p v → Fine p v
fine p (act x) n = proper (λ g. g < length p.objects) x (λ d g a e. (subst (NamesAct p) e n).0)
fine p (jump t) n = tt
fine p (jump_if a t) n = tt
fine p (store aim b s) n = n
fine p (check aim c) n = n

-- ---- the whole routine

pub record Good (p : Program) : Type 0 where
  pub few : length p.objects ≤ 400
  pub some : (s : ℕ) → s < length p.sets → 1 ≤ length (get_or p.sets s [])
  pub fines : (k : ℕ) → k < length p.code → Fine p (view (get_or p.code k End))

pub good : (p : Program) → good_program 1 p ≡ true → Good p
good p e =
    let g = good_of 1 p e in
    record {
      few = g.objects_most;
      some = set_some p g;
      fines = λ k h. fine p (view (get_or p.code k End)) (names p (get_or p.code k End) (every_at (good_instr (scope_of 1 p)) p.code End k g.code h));
    }
