-- The plain rule: "a store completes exactly when it is safe, or every byte of it lies in a live object
-- of its class". It knows objects and places, and has no colors and no table.
use Rattle.std.specs.Prelude.{ℕ, ◌+◌, List, [], ◌∷◌, ◌++◌, Bool, true, false, get_or, eqb}
use Rattle.opcodes.specs.declared.Object.{Object}
use Rattle.files.specs.Program.{Program}
use Rattle.opcodes.specs.View.{View, extent}
use Rattle.safety.specs.Unsafe.{Unsafe, unsafe_in, unsafe_sets}
use Rattle.coloring.specs.Class.{same_class}
use Rattle.layout.specs.Layout.{Piece, start_of}
use Rattle.routines.specs.Accepted.{plain_pieces}
use Rattle.memory.specs.Memory.{every_byte}
use Rattle.machine.specs.State.{Span, Rule, Given}
use Rattle.machine.specs.Runs.{Outcome, runs}
use Rattle.plain.specs.Live.{Live, owns, some_live, live_making, live_freeing}

-- ---- the live objects

-- the globals as live objects: "In demand 3 an object is its extent"
unfoldable pub globals_from : List Piece → (g : ℕ) → List Object → List Live
globals_from pieces g [] = []
globals_from pieces g (o ∷ os) =
    elim (eqb o.kind 0) [
      | true ↦ record { object = g; start = start_of pieces g; size = extent o.size } ∷ globals_from pieces (g + 1) os
      | false ↦ globals_from pieces (g + 1) os
    ]

unfoldable pub globals : Program → List Live
globals p = globals_from (plain_pieces p) 0 p.objects

-- ---- the rule

-- "an instruction's class is that of its set": whether an object is of the class of a set
abbrev pub of_class : Program → (set : List ℕ) → (object : ℕ) → Bool
of_class p set object = same_class (unsafe_sets p) (get_or set 0 0) object

-- whether a byte lies in a live object of a set's class
abbrev pub in_class : Program → (heap : List Live) → (set : List ℕ) → (address : ℕ) → Bool
in_class p heap set address =
    some_live (λ o. elim (owns o address) [ true ↦ of_class p set o.object | false ↦ false ]) (globals p ++ heap)

-- an unsafe store keeps to its class with every byte; nothing is asked of any other instruction
abbrev pub keeps_to : Program → (heap : List Live) → List Unsafe → Span → Bool
keeps_to p heap [] span = true
keeps_to p heap (u ∷ us) span = every_byte span.count (in_class p heap u.set) span.address

abbrev pub plain_allows : Program → (heap : List Live) → View → Span → Bool
plain_allows p heap v = keeps_to p heap (unsafe_in p v)

unfoldable pub plain_rule : Program → Rule (List Live)
plain_rule p =
    record {
      code = p.code;
      start = start_of (plain_pieces p);
      allows = plain_allows p;
      making = live_making;
      freeing = live_freeing;
    }

-- the run of a routine under the plain rule
abbrev pub plain_run : Program → Given → Outcome (List Live)
plain_run p given = runs (plain_rule p) given []
