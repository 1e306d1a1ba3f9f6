-- What the instrumenter answers: a file, or a refusal; "then 8 and 9, last 10".
use Rattle.std.specs.Prelude.{ℕ, List, ◌++◌, true, false, Result, Ok, Err, length, drop, leb}
use Rattle.numbers.specs.declared.refusal.Cause.{Cause}
use Rattle.numbers.specs.Refusals.{refusal}
use Rattle.numbers.specs.declared.refusal.Refusal.{Refusal}
use Rattle.files.specs.Program.{Program}
use Rattle.files.specs.Reading.{Reading, whole, read_file}
use Rattle.files.specs.Writing.{spell_file}
use Rattle.coloring.specs.Colored.{color_in}
use Rattle.routines.specs.Accepted.{accepted}
use Rattle.instrumenter.specs.Instrumented.{instrumented}

pub data FileAnswer : Type 0 where
  file : List ℕ → FileAnswer
  refused : Refusal → FileAnswer

-- version 2 of a routine, as a file
abbrev pub new_file : Program → List ℕ
new_file p = spell_file 2 (instrumented (color_in p) p)

-- "10 | room for the version 2 file too small | 0"
abbrev pub room_for : (room : ℕ) → List ℕ → FileAnswer
room_for room bytes = elim (leb (length bytes) room) [ true ↦ file bytes | false ↦ FileAnswer.refused (refusal Cause.SmallRoom 0) ]

abbrev pub answer_for : (room : ℕ) → Reading → FileAnswer
answer_for room (whole p) = room_for room (new_file p)
answer_for room (Reading.refused q) = FileAnswer.refused q

unfoldable pub instrument : (bytes : List ℕ) (room : ℕ) → FileAnswer
instrument bytes room = answer_for room (accepted (read_file 1 bytes))

-- the room afterwards
abbrev pub room_holding : (room : List ℕ) → FileAnswer → List ℕ
room_holding room (file bytes) = bytes ++ drop (length bytes) room
room_holding room (FileAnswer.refused q) = room

-- how the answer is told: the file's length, or the refusal
abbrev pub told : FileAnswer → Result ℕ Refusal
told (file bytes) = Ok (length bytes)
told (FileAnswer.refused q) = Err q
