-- 01, "Numbers that come back": the number of each way to stop, and what a stop's record holds.
use Rattle.std.specs.Prelude.{ℕ, ◌+◌, List, [], ◌∷◌, ◌++◌, take, codes, decimal}
use Rattle.numbers.specs.Refusals.{refusal_number}
use Rattle.numbers.specs.declared.refusal.Refusal.{Refusal}
use Rattle.opcodes.specs.declared.Instr.{Instr}
use Rattle.opcodes.specs.View.{View, act, jump, jump_if, store, check, view}
use Rattle.stops.specs.declared.Reason.{Reason}
use Rattle.stops.specs.declared.Run.{Run}

-- "Stops: 0 END; 30 past the end; 31 limit; 32 no more input; 33 no room for output; 34 read outside
-- memory; 35 store outside memory; 36 forbidden store; 37 bad FREE; 38 unsound heap"; a refusal has
-- its own number
abbrev pub number_of : Reason → ℕ
number_of Reason.Finished = 0
number_of Reason.PastEnd = 30
number_of Reason.LimitUsed = 31
number_of Reason.NoInput = 32
number_of Reason.NoRoom = 33
number_of Reason.ReadOutside = 34
number_of Reason.StoreOutside = 35
number_of Reason.Forbidden = 36
number_of Reason.BadFree = 37
number_of Reason.Unsound = 38
number_of (Reason.Refused q) = refusal_number q.cause

-- "for a refusal, number and place": the place that goes with a record's number
abbrev pub place_for : Reason → (place : ℕ) → ℕ
place_for Reason.Finished place = place
place_for Reason.PastEnd place = place
place_for Reason.LimitUsed place = place
place_for Reason.NoInput place = place
place_for Reason.NoRoom place = place
place_for Reason.ReadOutside place = place
place_for Reason.StoreOutside place = place
place_for Reason.Forbidden place = place
place_for Reason.BadFree place = place
place_for Reason.Unsound place = place
place_for (Reason.Refused q) place = q.place

abbrev pub place_of : Run → ℕ
place_of run = place_for run.reason run.place

-- "reason, place, steps, numbers out, numbers taken"
abbrev pub five_of : Run → List ℕ
five_of run = number_of run.reason ∷ place_of run ∷ run.steps ∷ run.out ∷ run.taken ∷ []

-- "prints those five numbers with single blanks .. for a refusal, number and place": how many of the five are printed
abbrev pub shown_of : Reason → ℕ
shown_of Reason.Finished = 5
shown_of Reason.PastEnd = 5
shown_of Reason.LimitUsed = 5
shown_of Reason.NoInput = 5
shown_of Reason.NoRoom = 5
shown_of Reason.ReadOutside = 5
shown_of Reason.StoreOutside = 5
shown_of Reason.Forbidden = 5
shown_of Reason.BadFree = 5
shown_of Reason.Unsound = 5
shown_of (Reason.Refused q) = 2

-- numbers in decimal with single blanks
abbrev pub spaced : List ℕ → List ℕ
spaced [] = []
spaced (n ∷ []) = decimal n
spaced (n ∷ m ∷ ns) = decimal n ++ codes " " ++ spaced (m ∷ ns)

-- what is printed of a run
abbrev pub line_of : Run → List ℕ
line_of run = spaced (take (shown_of run.reason) (five_of run))

-- "A refusal .. has zeros in its other fields"
abbrev pub refused_run : Refusal → Run
refused_run q = record { reason = Reason.Refused q; place = 0; steps = 0; out = 0; taken = 0 }

-- 1 for an instruction that is no check
abbrev pub counts : View → ℕ
counts (act x) = 1
counts (jump p) = 1
counts (jump_if a p) = 1
counts (store aim b s) = 1
counts (check aim c) = 0

unfoldable pub places_in : List Instr → ℕ
places_in [] = 0
places_in (i ∷ code) = counts (view i) + places_in code

-- "A place counts the instructions before it that are not checks"
abbrev pub place_in : (code : List Instr) (at : ℕ) → ℕ
place_in code at = places_in (take at code)

-- the record of a stop before instruction `at`
abbrev pub record_of : (code : List Instr) (at steps out taken : ℕ) → Reason → Run
record_of code at steps out taken reason =
    record { reason = reason; place = place_in code at; steps = steps; out = out; taken = taken }
