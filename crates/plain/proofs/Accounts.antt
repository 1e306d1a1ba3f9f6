-- The heap's account: at every state that the table's run comes through, also between a check and its
-- store, the recorded live bodies, the free bodies and eight for each header make 28,664.
--
-- Every such state is tied to one of the routine's, or stands behind a check that has passed, with the
-- memory and the own state of the tied one. The tie has a list of blocks that the walk of memory gives
-- and whose used blocks are the recorded bodies; the blocks fill the heap.
use Prim.Native.Nat.{ℕ, ◌+◌, ◌*◌}
use native.Mathlib.Omega.{arith}
use mathlib.Core.Path.{◌≡◌, ◌∙◌, ap₂, subst}
use mathlib.Core.List.{List, []}
use mathlib.Core.Bool.{true}
use lib.ListN.{length}
use Rattle.files.specs.Program.{Program}
use Rattle.layout.specs.Layout.{fits}
use Rattle.heap.specs.Heap.{heap_start, end_slot}
use Rattle.plain.proofs.HeapAlloc.{tied_walk}
use Rattle.machine.specs.State.{Given, State, start_state}
use Rattle.start.specs.First.{first_table}
use Rattle.machine.specs.Colors.{table_rule}
use Rattle.plain.specs.Live.{Live, account_of, account, live_bytes, free_bytes}
use Rattle.plain.specs.Guards.{Guards}
use Rattle.plain.specs.Demands.{Reaches, recording, HeapAccounts}
use Rattle.plain.proofs.Good.{Good, good}
use Rattle.plain.proofs.Bodies.{live_of, live_account}
use Rattle.plain.proofs.Holding.{Holds}
use Rattle.plain.proofs.Through.{Through, through}
use Rattle.routines.specs.Accepted.{plain_pieces}

-- the tie makes the account
pub holds_account : (p : Program) (color : ℕ → ℕ) (live : List Live) (own : List ℕ × List Live) (m : List ℕ)
    → Holds p color live own m → account own.1 m ≡ 28664
holds_account p color live own m h =
    let full : heap_start + (live_bytes (live_of h.blocks) + free_bytes h.blocks + 8 * length h.blocks) ≡ end_slot =
    live_account color m own.0 h.blocks heap_start end_slot h.tied.segment in
    ap₂ account_of (h.recorded ∙ h.bodies) (tied_walk color m own.0 h.blocks h.tied) ∙ omega arith

module _ (p q : Program) (guards : Guards p q) (given : Given) (good : Good p) (fitting : fits (plain_pieces p) ≡ true) where
  accounts : (r : State (List ℕ × List Live)) → Reaches (recording (table_rule q)) given (start_state (first_table q, [])) r
      → account r.own.1 r.memory ≡ 28664
  unfolding table_rule
  accounts r way = go (through p q guards given good fitting way)
    where
      go : Through p q guards given good fitting r → account r.own.1 r.memory ≡ 28664
      go (Through.tied s own is h) = subst (λ x. account x.own.1 x.memory ≡ 28664) is (holds_account p guards.color s.own own s.memory h)
      go (Through.behind s own aim b v bytes is h g) = subst (λ x. account x.own.1 x.memory ≡ 28664) is (holds_account p guards.color s.own own s.memory h)

-- "In instrumented code, after every step, the live bodies that the history of calls gives, the free
-- bodies and eight for each header make 28,664"
pub heap_accounts : HeapAccounts
heap_accounts p q given accepted guards = accounts p q guards given (good p accepted.good) accepted.fitting
