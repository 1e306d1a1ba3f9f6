-- What has to be proved, as types. Each of them has a theorem of exactly that type (docs/PROMISES.md).
use Rattle.std.specs.Prelude.{ℕ, ◌^◌, ◌≤◌, ◌<◌, ◌≡◌, List, [], ◌∷◌, ◌++◌, true, false, length, get_or}
use Rattle.numbers.specs.declared.refusal.Cause.{Cause}
use Rattle.numbers.specs.Refusals.{refusal_number, refusal}
use Rattle.numbers.specs.declared.refusal.Refusal.{Refusal}
use Rattle.opcodes.specs.View.{Aim, store, check, view}
use Rattle.files.specs.Program.{Program}
use Rattle.files.specs.Reading.{whole, read_file}
use Rattle.files.specs.Writing.{spell_file, Says}
use Rattle.refusals.specs.Why.{Why}
use Rattle.safety.specs.Unsafe.{Unsafe, unsafe_in}
use Rattle.coloring.specs.Class.{holds, Chain, same_class}
use Rattle.coloring.specs.Color.{Legal, Numbering, color_of_set, color_of}
use Rattle.coloring.specs.Colored.{color_in, class_count}
use Rattle.layout.specs.Layout.{pieces_of, end_of}
use Rattle.memory.specs.Memory.{memory_size, color_at}
use Rattle.routines.specs.Accepted.{plain_pieces, Accepted}
use Rattle.instrumenter.specs.Instrumented.{instrumented}
use Rattle.instrumenter.specs.Answer.{FileAnswer, file, instrument, room_holding}
use Rattle.stops.specs.declared.Reason.{Reason}
use Rattle.stops.specs.Stop.{number_of}
use Rattle.machine.specs.State.{Rule, Given, State, start_state}
use Rattle.machine.specs.Step.{stop, next, step, lets}
use Rattle.machine.specs.Runs.{Outcome, stopped, runs}
use Rattle.start.specs.First.{first_table}
use Rattle.machine.specs.Colors.{table_rule}
use Rattle.machine.specs.Running as running
use Rattle.machine.specs.Running.{Lent, refuse, exact_lengths, run_file}
use Rattle.plain.specs.Live.{Live, owns, some_live, live_making, live_freeing, account}
use Rattle.plain.specs.Plain.{globals, plain_rule, plain_run}
use Rattle.plain.specs.Guards.{instr_at, Guards}

-- the states that a run comes through
pub data Reaches {S : Type 0} (rule : Rule S) (given : Given) (start : State S) : State S → Type 0 where
  here : Reaches rule given start start
  more : {state after : State S} → Reaches rule given start state → step rule given state ≡ next after → Reaches rule given start after

-- ---- demand 1: "every run stops within its step limit"

-- a run comes to a state at which it stops, with that state's record, and no more steps than the limit
pub record Stops {S : Type 0} (rule : Rule S) (given : Given) (own : S) : Type 0 where
  pub state : State S
  pub reason : Reason
  pub reached : Reaches rule given (start_state own) state
  pub stopping : step rule given state ≡ stop reason
  pub outcome : runs rule given own ≡ stopped rule given state reason
  pub limited : state.steps ≤ given.limit

-- for every version 2 program, ours or not, and for every routine under the plain rule
abbrev pub EveryRunStops : Type 0
EveryRunStops = (p : Program) (given : Given) → Stops (table_rule p) given (first_table p) × Stops (plain_rule p) given []

-- in one way alone
abbrev pub StopsOnce : Type 1
StopsOnce = (S : Type 0) (rule : Rule S) (given : Given) (own : S) (a b : Stops rule given own) → (a.state ≡ b.state) × (a.reason ≡ b.reason)

-- ---- demand 1: "Each file, good or damaged, is accepted, or refused with a fixed number and place; .. a
-- refusal changes nothing in any lent buffer"; demand 2: "a routine is refused only for the listed reasons"

-- why a routine is not accepted: it does not read; more than 254 classes; globals that end above 28,672
pub data NotAccepted (bytes : List ℕ) : Refusal → Type 0 where
  unread : {q : Refusal} → Why 1 bytes q → NotAccepted bytes q
  crowded : (p : Program) → Says 1 bytes p → 254 < class_count p → NotAccepted bytes (refusal Cause.ManyClasses 0)
  overfull : (p : Program) → Says 1 bytes p → class_count p ≤ 254 → 28672 < end_of (plain_pieces p) → NotAccepted bytes (refusal Cause.LargeGlobals 0)

-- why it is not instrumented: that, or version 2 is longer than the room
pub data Refuses (bytes : List ℕ) (room : ℕ) : Refusal → Type 0 where
  not_accepted : {q : Refusal} → NotAccepted bytes q → Refuses bytes room q
  cramped : (p : Program) → Says 1 bytes p → Accepted p → (out : List ℕ) → instrument bytes 32768 ≡ file out → room < length out
      → Refuses bytes room (refusal Cause.SmallRoom 0)

abbrev pub RefusedOnlyFor : Type 0
RefusedOnlyFor = (bytes room : List ℕ) (q : Refusal) → instrument bytes (length room) ≡ FileAnswer.refused q
    → Refuses bytes (length room) q × (room_holding room (instrument bytes (length room)) ≡ room)

-- the file of an accepted routine, with room enough, is answered with a file that guards it
pub record Written (p : Program) (room : ℕ) : Type 0 where
  pub out : List ℕ
  pub answer : instrument (spell_file 1 p) room ≡ file out
  pub new : Program
  pub read : read_file 2 out ≡ whole new
  pub guards : Guards p new

abbrev pub AcceptedIsWritten : Type 0
AcceptedIsWritten = (p : Program) → Accepted p → (room : ℕ) → 32768 ≤ room → Written p room

-- why a file is not run: lengths; it does not read; globals that end above 28,672
pub data RunRefuses (bytes : List ℕ) (lent : Lent) : Refusal → Type 0 where
  lengths : exact_lengths lent ≡ false → RunRefuses bytes lent (refusal Cause.WrongLength 0)
  unread : {q : Refusal} → Why 2 bytes q → RunRefuses bytes lent q
  overfull : (p : Program) → Says 2 bytes p → 28672 < end_of (pieces_of p.objects) → RunRefuses bytes lent (refusal Cause.LargeGlobals 0)

-- "Stops: 0 END; 30 past the end; ..; 38 unsound heap"
abbrev pub stop_numbers : List ℕ
stop_numbers = 0 ∷ 30 ∷ 31 ∷ 32 ∷ 33 ∷ 34 ∷ 35 ∷ 36 ∷ 37 ∷ 38 ∷ []

-- "Running never gives 8 or 10"
abbrev pub run_numbers : List ℕ
run_numbers = 1 ∷ 2 ∷ 3 ∷ 4 ∷ 5 ∷ 6 ∷ 7 ∷ 9 ∷ 11 ∷ []

-- "A refusal changes no lent byte and has zeros in its other fields"; every other answer is a stop's, and no refusal
pub data Answered (Refused : Refusal → Type 0) (numbers : List ℕ) (lent : Lent) : running.Answer → Type 0 where
  refused : (q : Refusal) → Refused q → holds numbers (refusal_number q.cause) ≡ true → Answered Refused numbers lent (refuse lent q)
  ended : (a : running.Answer) → ((q : Refusal) → a.run.reason ≡ Reason.Refused q → ⊥) → holds stop_numbers (number_of a.run.reason) ≡ true
      → Answered Refused numbers lent a

abbrev pub RunIsAnswered : Type 0
RunIsAnswered = (bytes input : List ℕ) (limit : ℕ) (lent : Lent) → Answered (RunRefuses bytes lent) run_numbers lent (run_file bytes input limit lent)

-- ---- demand 2: "Safe stores, classes and colors are those of the WIT paper as document 01 condenses it"

-- the computed class is the chain
abbrev pub ClassIsChain : Type 0
ClassIsChain = (sets : List (List ℕ)) (x y : ℕ) → (same_class sets x y ≡ true → Chain sets x y) × (Chain sets x y → same_class sets x y ≡ true)

abbrev pub ColoringIsLegal : Type 0
ColoringIsLegal = (sets : List (List ℕ)) → Legal sets (color_of sets)

-- "no legal coloring tells more objects apart"
abbrev pub NoneFiner : Type 0
NoneFiner = (sets : List (List ℕ)) (number : ℕ → ℕ) → Legal sets number → (x y : ℕ) → color_of sets x ≡ color_of sets y → number x ≡ number y

-- 01's own numbers, and there are no others
abbrev pub OneColoring : Type 0
OneColoring = (sets : List (List ℕ)) → Numbering sets (color_of sets) × ((number : ℕ → ℕ) → Numbering sets number → (x : ℕ) → number x ≡ color_of sets x)

-- "what the instrumenter writes, the controller reads back as exactly that code"
abbrev pub ReadsBack : Type 0
ReadsBack = (bytes out : List ℕ) (room : ℕ) → instrument bytes room ≡ file out
    → (p : Program) × (read_file 1 bytes ≡ whole p) × Accepted p × (read_file 2 out ≡ whole (instrumented (color_in p) p))

-- the same of any file: what is read is a program that the file says, and what a file says is read
abbrev pub FilesReadBack : Type 0
FilesReadBack = (version : ℕ) → version < 2 ^ 32 → (bytes : List ℕ) (p : Program)
    → (read_file version bytes ≡ whole p → Says version bytes p) × (Says version bytes p → read_file version bytes ≡ whole p)

-- ---- demand 3

-- "the same reason, at the same place, after the same steps, with the same numbers out and the same
-- memory"
pub record Agree {S : Type 0} {T : Type 0} (o : Outcome S) (o' : Outcome T) : Type 0 where
  pub run : o.run ≡ o'.run
  pub outs : o.outs ≡ o'.outs
  pub memory : o.memory ≡ o'.memory

abbrev pub SameRun : Type 0
SameRun = (p q : Program) (given : Given) → Accepted p → Guards p q → Agree (runs (table_rule q) given (first_table q)) (plain_run p given)

-- what our instrumenter writes guards the routine
abbrev pub GuardsItself : Type 0
GuardsItself = (p : Program) → Accepted p → Guards p (instrumented (color_in p) p)

-- wherever the routine's run stands at an unsafe store, the other stands at its check, which passes
-- exactly where the plain rule lets the store through
pub record Decides (p q : Program) (given : Given) (color : ℕ → ℕ) (s : State (List Live)) (u : Unsafe) : Type 0 where
  pub state : State (List ℕ)
  pub reached : Reaches (table_rule q) given (start_state (first_table q)) state
  pub temps : state.temps ≡ s.temps
  pub memory : state.memory ≡ s.memory
  pub standing : view (instr_at q state.at) ≡ check u.aim (color_of_set color u.set)
  pub decides : lets (table_rule q) given state (check u.aim (color_of_set color u.set)) ≡ lets (plain_rule p) given s (view (instr_at p s.at))

abbrev pub CheckPassesExactly : Type 0
CheckPassesExactly = (p q : Program) (given : Given) → Accepted p → (guards : Guards p q)
    → (s : State (List Live)) → Reaches (plain_rule p) given (start_state []) s → s.at < length p.code
    → (u : Unsafe) → unsafe_in p (view (instr_at p s.at)) ≡ u ∷ [] → Decides p q given guards.color s u

-- "Instrumented code never meets 35 or 38"
abbrev pub NeverOutside : Type 0
NeverOutside = (p q : Program) (given : Given) → Accepted p → Guards p q
    → (number_of (runs (table_rule q) given (first_table q)).run.reason ≡ 35 → ⊥)
    × (number_of (runs (table_rule q) given (first_table q)).run.reason ≡ 38 → ⊥)

-- ---- the heap's account, and what no store changes

-- a rule that also keeps the live bodies that the history of calls gives
abbrev pub recording : {S : Type 0} → Rule S → Rule (S × List Live)
recording rule =
    record {
      code = rule.code;
      start = rule.start;
      allows = λ own v span. rule.allows own.0 v span;
      making = λ own site k. (rule.making own.0 site k, live_making own.1 site k);
      freeing = λ own address f. (rule.freeing own.0 address f, live_freeing own.1 address f);
    }

-- a state of such a run
abbrev pub Comes : Program → Given → State (List ℕ × List Live) → Type 0
Comes q given r = Reaches (recording (table_rule q)) given (start_state (first_table q, [])) r

-- "In instrumented code, after every step, .. make 28,664"
abbrev pub HeapAccounts : Type 0
HeapAccounts = (p q : Program) (given : Given) → Accepted p → Guards p q → (r : State (List ℕ × List Live)) → Comes q given r
    → account r.own.1 r.memory ≡ 28664

-- a store from a state leaves the byte at an address as it is
abbrev pub StoreKeeps : (q : Program) (given : Given) (r : State (List ℕ × List Live)) (a : ℕ) → Type 0
StoreKeeps q given r a =
    (after : State (List ℕ × List Live)) (aim : Aim) (b s : ℕ) → view (instr_at q r.at) ≡ store aim b s
    → step (recording (table_rule q)) given r ≡ next after → get_or after.memory a 0 ≡ get_or r.memory a 0

-- a byte that no live object owns: of a header, a guard, a free body
abbrev pub UnownedKept : Type 0
UnownedKept = (p q : Program) (given : Given) → Accepted p → Guards p q → (r : State (List ℕ × List Live)) → Comes q given r
    → (a : ℕ) → some_live (λ o. owns o a) (globals p ++ r.own.1) ≡ false → StoreKeeps q given r a

-- "Color 1 is for heap headers"
abbrev pub HeadersKept : Type 0
HeadersKept = (p q : Program) (given : Given) → Accepted p → Guards p q → (r : State (List ℕ × List Live)) → Comes q given r
    → (a : ℕ) → a < memory_size → color_at r.own.0 a ≡ 1 → StoreKeeps q given r a
