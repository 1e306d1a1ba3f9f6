-- How the code holds a state between two turns of a run, and what a turn leaves of it. These are the
-- words of contracts inside this crate; what running promises is said in Running.
use Rattle.std.specs.Prelude.{◌≡◌, ℕ, ◌+◌, ◌*◌, ◌<◌, ◌≤◌, Bool, true, false, Option, Some, None, Result, Ok, Err, ⊤, List, [], ◌++◌, length, take, drop, set, replicate, ◌==◌, nat_lt, slice_index, slice_index_or, slice_set}
use Rattle.opcodes.specs.declared.Operand.{Operand}
use Rattle.opcodes.specs.declared.Instr.{Instr}
use Rattle.opcodes.specs.declared.Object.{Object}
use Rattle.opcodes.specs.Table.{parts_of, operands_in, Each}
use Rattle.opcodes.specs.View.{view}
use Rattle.memory.specs.Memory.{memory_size, table_size}
use Rattle.heap.specs.Heap.{paint_made, paint_freed}
use Rattle.heap.specs.declared.HeapError.{HeapError}
use Rattle.heap.specs.Lent.{After, released}
use Rattle.stops.specs.declared.Reason.{Reason}
use Rattle.machine.specs.declared.progress.Progress.{Progress}
use Rattle.machine.specs.State.{Rule, State}
use Rattle.machine.specs.Step.{Next, stop, next, perform}
use Rattle.stops.specs.Stop.{record_of}
use Rattle.stops.specs.declared.Run.{Run}
use Rattle.machine.specs.Runs.{run_from}
use Rattle.machine.specs.Colors.{table_allows, color_of_object}
use Rattle.machine.specs.Running.{Lent, Answer, leaves}

-- the rule of the table, with the start of each object as it is held
abbrev pub held_rule : (code : List Instr) (starts : List ℕ) (objects : List Object) → Rule (List ℕ)
held_rule code starts objects =
    record {
      code = code;
      start = λ g. slice_index starts g;
      allows = table_allows;
      making = λ table site k. paint_made table (color_of_object objects site) k;
      freeing = λ table address f. paint_freed table f;
    }

-- what is lent during a run
pub record Held : Type 0 where
  pub temps : List ℕ
  pub memory : List ℕ
  pub table : List ℕ
  pub room : List ℕ

abbrev pub held : (temps memory table room : List ℕ) → Held
held temps memory table room = record { temps = temps; memory = memory; table = table; room = room }

-- the numbers out are the first of the room
abbrev pub state_of : Held → Progress → State (List ℕ)
state_of h p =
    record {
      temps = h.temps;
      memory = h.memory;
      outs = take p.out h.room;
      taken = p.taken;
      at = p.at;
      steps = p.steps;
      own = h.table;
    }

-- what a turn answers, and what is then held
pub record Turned : Type 0 where
  pub turn : Result Progress Reason
  pub after : Held

abbrev pub turned : Result Progress Reason → Held → Turned
turned turn h = record { turn = turn; after = h }

abbrev pub progress_of : State (List ℕ) → Progress
progress_of s = record { at = s.at; steps = s.steps; out = length s.outs; taken = s.taken }

abbrev pub landed : Held → Next (List ℕ) → Turned
landed h (stop reason) = turned (Err reason) h
landed h (next s) =
    turned (Ok (progress_of s))
    (held s.temps s.memory s.own (s.outs ++ drop (length s.outs) h.room))

-- one turn of an instruction, with the tests for the end and for the limit passed
abbrev pub turn_of : (starts : List ℕ) (objects : List Object) (input : List ℕ) → Held → Progress → Instr → Turned
turn_of starts objects input h p i =
    landed h
    (perform (held_rule [] starts objects) (record { input = input; room = length h.room; limit = 0 })
    (state_of h p) (view i))

-- there is one more to count: code has at most 2,000 instructions, and the limit is a number of 32 bits
pub record Counts (p : Progress) : Type 0 where
  pub at : p.at < 2000
  pub steps : p.steps + 1 < 4294967296

-- what a turn asks: exact lengths, and that there is one more to count
pub record Ready (h : Held) (p : Progress) : Type 0 where
  pub memory : length h.memory ≡ memory_size
  pub table : length h.table ≡ table_size
  pub room : p.out ≤ length h.room
  pub counts : Counts p

-- the start of every global is low enough that an offset can be added to it
abbrev pub Low : List ℕ → Type 0
Low starts = (g : ℕ) → slice_index starts g ≤ 28672

-- an operand that names a temporary names one of the 16; nothing is asked of another
abbrev pub NarrowOperand : Operand → (x : ℕ) → Type 0
NarrowOperand Operand.None x = Unit {0}
NarrowOperand Operand.Temporary x = x < 16
NarrowOperand Operand.Number x = Unit {0}
NarrowOperand Operand.Global x = Unit {0}
NarrowOperand Operand.Site x = Unit {0}
NarrowOperand Operand.Set x = Unit {0}
NarrowOperand Operand.Offset x = Unit {0}
NarrowOperand Operand.Target x = Unit {0}
NarrowOperand Operand.Color x = Unit {0}

-- each temporary that an instruction names is one of them
pub record Narrow (i : Instr) : Type 0 where
  pub each : Each NarrowOperand (operands_in (parts_of i))

-- the same of all code
abbrev pub AllNarrow : List Instr → Type 0
AllNarrow code = (at : ℕ) → at < length code → Narrow (slice_index_or code at Instr.End)

-- ---- the parts of a turn

-- a jump is completed
abbrev pub to_place : Progress → (target : ℕ) → Progress
to_place p target = record { at = target; steps = p.steps + 1; out = p.out; taken = p.taken }

-- an instruction is completed, and the next one follows
abbrev pub onward : Progress → Progress
onward p = to_place p (p.at + 1)

-- on to the next instruction, at a cost of a step or of none
abbrev pub ahead : Progress → (cost : ℕ) → Progress
ahead p cost = record { at = p.at + 1; steps = p.steps + cost; out = p.out; taken = p.taken }

-- a check has passed
abbrev pub passed : Progress → Progress
passed p = record { at = p.at + 1; steps = p.steps; out = p.out; taken = p.taken }

-- IN
abbrev pub input_turn : (input : List ℕ) → Progress → Result Progress Reason
input_turn input p =
    elim (nat_lt p.taken (length input)) [
      | true ↦ Ok (record { at = p.at + 1; steps = p.steps + 1; out = p.out; taken = p.taken + 1 })
      | false ↦ Err Reason.NoInput
    ]

abbrev pub input_temps : (input : List ℕ) → Progress → (temps : List ℕ) → (d : ℕ) → List ℕ
input_temps input p temps d =
    elim (nat_lt p.taken (length input)) [ true ↦ set temps d (slice_index input p.taken) | false ↦ temps ]

-- OUT
abbrev pub output_turn : (room : List ℕ) → Progress → Result Progress Reason
output_turn room p =
    elim (nat_lt p.out (length room)) [
      | true ↦ Ok (record { at = p.at + 1; steps = p.steps + 1; out = p.out + 1; taken = p.taken })
      | false ↦ Err Reason.NoRoom
    ]

-- LOAD
abbrev pub load_turn : Progress → Option ℕ → Result Progress Reason
load_turn p (Some v) = Ok (onward p)
load_turn p None = Err Reason.ReadOutside

abbrev pub load_temps : (temps : List ℕ) → (d : ℕ) → Option ℕ → List ℕ
load_temps temps d (Some v) = slice_set temps d v
load_temps temps d None = temps

-- PUT and WRITE: whether the store lies inside memory
abbrev pub store_turn : Progress → Bool → Result Progress Reason
store_turn p inside = elim inside [ true ↦ Ok (onward p) | false ↦ Err Reason.StoreOutside ]

-- a check: whether the table allows it
abbrev pub check_turn : Progress → Bool → Result Progress Reason
check_turn p allowed = elim allowed [ true ↦ Ok (passed p) | false ↦ Err Reason.Forbidden ]

-- why the heap's answer stops a run; memory and table have their exact lengths, so the first case does not come
abbrev pub reason_of : HeapError → Reason
reason_of HeapError.WrongLength = Reason.Unsound
reason_of HeapError.Unsound = Reason.Unsound
reason_of HeapError.BadAddress = Reason.BadFree

-- ALLOC
abbrev pub alloc_turn : Progress → Result (Option ℕ) HeapError → Result Progress Reason
alloc_turn p (Ok body) = Ok (onward p)
alloc_turn p (Err why) = Err (reason_of why)

abbrev pub alloc_temps : (temps : List ℕ) → (d : ℕ) → Result (Option ℕ) HeapError → List ℕ
alloc_temps temps d (Ok None) = slice_set temps d 0
alloc_temps temps d (Ok (Some body)) = slice_set temps d body
alloc_temps temps d (Err why) = temps

-- FREE
abbrev pub release_turn : Progress → Result ⊤ HeapError → Result Progress Reason
release_turn p (Ok x) = Ok (onward p)
release_turn p (Err why) = Err (reason_of why)

-- what FREE of an address answers, and memory and table afterwards: 0 does nothing
abbrev pub free_at : (memory table : List ℕ) → (address : ℕ) → After (Result ⊤ HeapError)
free_at m t address =
    elim (address == 0)
    [ true ↦ record { answer = Ok tt; memory = m; table = t } | false ↦ released m t address ]

-- ---- a whole run

-- the record of a stop
abbrev pub record_at : List Instr → Progress → Reason → Run
record_at code p reason = record_of code p.at p.steps p.out p.taken reason

-- a run from memory and table that are laid out
abbrev pub run_held : (code : List Instr) (starts : List ℕ) (objects : List Object) (input : List ℕ) (limit : ℕ) → Lent → Answer
run_held code starts objects input limit lent =
    leaves lent.room
    (run_from (held_rule code starts objects) (record { input = input; room = length lent.room; limit = limit })
    ((limit + 1) * (length code + 1))
    (state_of (held (replicate 16 0) lent.memory lent.table lent.room)
    (record { at = 0; steps = 0; out = 0; taken = 0 })))
