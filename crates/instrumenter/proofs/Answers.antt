-- The five ways in which the instrumenter answers, each with its reason; no two have the same reason, and
-- there is no other.
use Prim.Native.Nat.{ℕ, ◌<◌, ◌≤◌}
use mathlib.Core.Path.{◌≡◌, refl, ◌∙◌, ap}
use mathlib.Core.List.{List}
use mathlib.Core.Bool.{Bool, true, false}
use lib.ListN.{length}
use lib.Dec.{leb}
use borrow.Author.Tests.{leb-true, leb-false, le-leb, lt-leb}
use Rattle.numbers.specs.declared.refusal.Cause.{Cause}
use Rattle.numbers.specs.Refusals.{refusal}
use Rattle.numbers.specs.declared.refusal.Refusal.{Refusal}
use Rattle.files.specs.Program.{Program}
use Rattle.files.specs.Reading.{Reading, whole, read_file}
use Rattle.coloring.specs.Colored.{few_classes}
use Rattle.routines.specs.Accepted.{globals_fit, accepted}
use Rattle.routines.proofs.Stages.{crowds, overflows, admits}
use Rattle.instrumenter.specs.Answer.{FileAnswer, file, new_file, room_for, answer_for, instrument}

-- what is answered, and why
pub data Because (bytes : List ℕ) (room : ℕ) : FileAnswer → Type 0 where
  -- refusals 1 to 7: the file does not read
  unread : {q : Refusal} → read_file 1 bytes ≡ Reading.refused q → Because bytes room (FileAnswer.refused q)
  -- 8: it reads, and has more than 254 classes
  crowded : {p : Program} → read_file 1 bytes ≡ whole p → few_classes p ≡ false → Because bytes room (FileAnswer.refused (refusal Cause.ManyClasses 0))
  -- 9: it reads, has at most 254 classes, and its globals end above 28,672
  overfull : {p : Program} → read_file 1 bytes ≡ whole p → few_classes p ≡ true → globals_fit p ≡ false
      → Because bytes room (FileAnswer.refused (refusal Cause.LargeGlobals 0))
  -- 10: it is accepted, and version 2 is longer than the room
  cramped : {p : Program} → read_file 1 bytes ≡ whole p → few_classes p ≡ true → globals_fit p ≡ true → room < length (new_file p)
      → Because bytes room (FileAnswer.refused (refusal Cause.SmallRoom 0))
  -- it is accepted, and version 2 fits the room
  written : {p : Program} → read_file 1 bytes ≡ whole p → few_classes p ≡ true → globals_fit p ≡ true → length (new_file p) ≤ room
      → Because bytes room (file (new_file p))

module _ (bytes : List ℕ) (room : ℕ) where
  wide : (out : List ℕ) → length out ≤ room → room_for room out ≡ file out
  wide out h = simp (le-leb (length out) room h, room_for)

  narrow : (out : List ℕ) → room < length out → room_for room out ≡ FileAnswer.refused (refusal Cause.SmallRoom 0)
  narrow out h = simp (lt-leb (length out) room h, room_for)

  -- what a reading gives, by what becomes of it
  from : {x y : Reading} → read_file 1 bytes ≡ x → accepted x ≡ y → instrument bytes room ≡ answer_for room y
  unfolding instrument
  from r a = ap (λ (x : Reading). answer_for room (accepted x)) r ∙ ap (answer_for room) a

  -- ---- each reason gives its answer

  pub answers : {a : FileAnswer} → Because bytes room a → instrument bytes room ≡ a
  answers (unread r) = from r refl
  answers (crowded {p} r c) = from r (crowds p c)
  answers (overfull {p} r c f) = from r (overflows p c f)
  answers (cramped {p} r c f l) = from r (admits p c f) ∙ narrow (new_file p) l
  answers (written {p} r c f l) = from r (admits p c f) ∙ wide (new_file p) l

  -- ---- and every file has one

  pub because : (a : FileAnswer) × Because bytes room a
  because = reading (read_file 1 bytes) refl
    where
      sized : (p : Program) → read_file 1 bytes ≡ whole p → few_classes p ≡ true → globals_fit p ≡ true → (b : Bool) → leb (length (new_file p)) room ≡ b → (a : FileAnswer) × Because bytes room a
      sized p r c f true l = (file (new_file p), written r c f (leb-true (length (new_file p)) room l))
      sized p r c f false l = (FileAnswer.refused (refusal Cause.SmallRoom 0), cramped r c f (leb-false (length (new_file p)) room l))

      laid : (p : Program) → read_file 1 bytes ≡ whole p → few_classes p ≡ true → (b : Bool) → globals_fit p ≡ b → (a : FileAnswer) × Because bytes room a
      laid p r c true f = sized p r c f (leb (length (new_file p)) room) refl
      laid p r c false f = (FileAnswer.refused (refusal Cause.LargeGlobals 0), overfull r c f)

      counted : (p : Program) → read_file 1 bytes ≡ whole p → (b : Bool) → few_classes p ≡ b → (a : FileAnswer) × Because bytes room a
      counted p r true c = laid p r c (globals_fit p) refl
      counted p r false c = (FileAnswer.refused (refusal Cause.ManyClasses 0), crowded r c)

      reading : (x : Reading) → read_file 1 bytes ≡ x → (a : FileAnswer) × Because bytes room a
      reading (whole p) r = counted p r (few_classes p) refl
      reading (Reading.refused q) r = (FileAnswer.refused q, unread r)

  -- every answer has its reason
  pub answered_because : Because bytes room (instrument bytes room)
  answered_because = rw (answers because.1) because.1
