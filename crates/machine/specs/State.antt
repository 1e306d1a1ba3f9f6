-- The state of a run, and what a rule brings: the machine is the same under the table of colors and
-- under the plain rule, which differ in what they allow and in what they keep of made and freed
-- objects.
use Rattle.std.specs.Prelude.{ℕ, ◌+◌, Bool, List, [], replicate, slice_index}
use Rattle.opcodes.specs.declared.Instr.{Instr}
use Rattle.opcodes.specs.View.{bytes, Aim, in_global, at_temp, View}
use Rattle.heap.specs.Heap.{Made, Freed}
use Rattle.start.specs.First.{first_memory}

-- the bytes that a store or a check aims at: so many from an address on
pub record Span : Type 0 where
  pub address : ℕ
  pub count : ℕ

-- a rule with a state S of its own
pub record Rule (S : Type 0) : Type 0 where
  -- the instructions, and the start of each global
  pub code : List Instr
  pub start : (g : ℕ) → ℕ
  -- whether a store or a check may go on with the bytes that it aims at
  pub allows : S → View → Span → Bool
  -- what ALLOC for a site and FREE of an address do to the rule's own state
  pub making : S → (site : ℕ) → Made → S
  pub freeing : S → (address : ℕ) → Freed → S

-- what a run is given
pub record Given : Type 0 where
  pub input : List ℕ
  pub room : ℕ
  pub limit : ℕ

pub record State (S : Type 0) : Type 0 where
  pub temps : List ℕ
  pub memory : List ℕ
  pub outs : List ℕ
  pub taken : ℕ
  pub at : ℕ
  pub steps : ℕ
  pub own : S

-- "16 temporaries of 32 bits, all 0 at the start"
abbrev pub start_state : {S : Type 0} → S → State S
start_state own =
    record {
      temps = replicate 16 0;
      memory = first_memory;
      outs = [];
      taken = 0;
      at = 0;
      steps = 0;
      own = own;
    }

abbrev pub temp : List ℕ → (a : ℕ) → ℕ
temp temps a = slice_index temps a

-- "Addresses do not wrap": the address that an aim points at
abbrev pub address_of : (start : ℕ → ℕ) (temps : List ℕ) → Aim → ℕ
address_of start temps (in_global g k w) = start g + k
address_of start temps (at_temp a w) = temp temps a

-- how many bytes an aim covers
abbrev pub width_of : Aim → ℕ
width_of (in_global g k w) = bytes w
width_of (at_temp a w) = bytes w

abbrev pub span_of : (start : ℕ → ℕ) (temps : List ℕ) → Aim → Span
span_of start temps aim = record { address = address_of start temps aim; count = width_of aim }
