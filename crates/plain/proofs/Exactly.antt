-- A check passes exactly where the plain rule lets its store through: wherever the routine's run stands
-- at an unsafe store, the table's run stands at the store's check, and the two rules answer alike.
use Prim.Native.Nat.{ℕ, ◌<◌}
use mathlib.Core.Path.{◌≡◌, refl, sym, ◌∙◌, ap, subst}
use mathlib.Core.List.{List}
use mathlib.Core.Bool.{false}
use lib.ListN.{length}
use Rattle.files.specs.Program.{Program}
use Rattle.opcodes.specs.View.{Aim, store, view}
use Rattle.safety.specs.Unsafe.{safe_aim, set_of, Unsafe}
use Rattle.coloring.specs.Color.{color_of_set}
use Rattle.safety.proofs.Stores.{unsafe_store, unsafe_one, Stores, stores}
use Rattle.layout.specs.Layout.{start_of}
use Rattle.memory.specs.Memory.{has_color, every_byte}
use Rattle.routines.specs.Accepted.{plain_pieces, Accepted}
use Rattle.machine.specs.State.{Given, State, address_of, width_of, span_of}
use Rattle.machine.specs.Step.{lets}
use Rattle.machine.specs.Colors.{table_rule}
use Rattle.machine.proofs.Effects.{image}
use Rattle.plain.specs.Live.{Live}
use Rattle.plain.specs.Plain.{keeps_to, plain_allows, plain_rule}
use Rattle.plain.specs.Guards.{instr_at, Guards}
use Rattle.plain.specs.Demands.{Decides, CheckPassesExactly}
use Rattle.plain.proofs.Recorded.{reaches_shown}
use Rattle.plain.proofs.Good.{Good, good}
use Rattle.plain.proofs.Aims.{class_unsafe}
use Rattle.plain.proofs.Globals.{globals_whole}
use Rattle.plain.proofs.Holding.{rule_same}
use Rattle.plain.proofs.Rules.{start_same}
use Rattle.plain.proofs.Standing.{nothing_not_one}
use Rattle.plain.proofs.Same.{Kept, keeps_up}
use Rattle.plain.proofs.Untouched.{new_check}

module _ (p q : Program) (accepted : Accepted p) (guards : Guards p q) (given : Given) (s : State (List Live)) (in_code : s.at < length p.code) where
  module _ (aim : Aim) (b t : ℕ) (is : view (instr_at p s.at) ≡ store aim b t) (unsafe : safe_aim p aim ≡ false) where
    decided : Kept p q guards given s → Decides p q given guards.color s (unsafe_store p aim t)
    unfolding table_rule plain_rule
    decided (own, way, h) =
        let fine : Good p = good p accepted.good in
        let its : ℕ = color_of_set guards.color (set_of p aim t) in
        let address : ℕ = address_of (start_of (plain_pieces p)) s.temps aim in
        let asks : plain_allows p s.own (store aim b t) (span_of (start_of (plain_pieces p)) s.temps aim) ≡ every_byte (width_of aim) (has_color own.0 its) address =
        ap (λ (us : List Unsafe). keeps_to p s.own us (span_of (start_of (plain_pieces p)) s.temps aim)) (unsafe_one p aim b t unsafe)
        ∙ rule_same p guards.color (globals_whole p accepted.fitting) s.own own s.memory h guards.exact (set_of p aim t) (class_unsafe p fine s.at in_code aim b t is unsafe)
        (width_of aim) address in
        record {
          state = image s (guards.place s.at) own.0;
          reached = reaches_shown (table_rule q) given way;
          temps = refl;
          memory = refl;
          standing = new_check p q guards given fine accepted.fitting s own h in_code aim b t is unsafe;
          decides =
              ap (λ f. every_byte (width_of aim) (has_color own.0 its) (address_of f s.temps aim)) (start_same p q guards)
              ∙ sym asks
              ∙ sym (ap (lets (plain_rule p) given s) is);
        }

pub check_passes_exactly : CheckPassesExactly
unfolding plain_rule
check_passes_exactly p q given accepted guards s way in_code u one = go (stores p (view (instr_at p s.at)))
  where
    go : Stores p (view (instr_at p s.at)) → Decides p q given guards.color s u
    go (Stores.nothing none) = absurd (nothing_not_one (sym none ∙ one))
    go (Stores.unsafe aim b t is unsafe only) =
        let same : unsafe_store p aim t ≡ u = cc in
        subst (Decides p q given guards.color s) same
        (decided p q accepted guards given s in_code aim b t is unsafe (keeps_up p q guards given (good p accepted.good) accepted.fitting way))
