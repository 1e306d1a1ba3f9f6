-- The controller's answer, by cases of what the instrumenter answers.
--
-- The file does not read, has too many classes or too large globals: the refusal is the instrumenter's.
-- 10 does not occur: the file of a good routine is at most 32,768 bytes long, and so is the room.
-- A file is written: it reads back as version 2 of the routine, whose globals fit again, so the machine
-- runs it; that run agrees with the routine's under the plain rule, and the table that it leaves is what
-- TableAfter says.
use Prim.Native.Nat.{ℕ, ◌≤◌}
use native.Mathlib.Omega.{arith}
use mathlib.Core.Path.{◌≡◌, refl, sym, ap, ◌∙◌, subst}
use mathlib.Core.List.{List, ◌++◌}
use mathlib.Core.Bool.{Bool, true, false}
use lib.ListN.{length, take, drop, length-append}
use lib.Seq.{take_at}
use Rattle.numbers.specs.declared.refusal.Cause.{Cause}
use Rattle.numbers.specs.Refusals.{refusal_number, refusal}
use Rattle.numbers.specs.declared.refusal.Refusal.{Refusal}
use Rattle.files.specs.Program.{Program}
use Rattle.files.specs.Reading.{Reading, whole, read_file}
use Rattle.files.proofs.RoundTrip.{one_spelling}
use Rattle.coloring.specs.Class.{holds}
use Rattle.coloring.specs.Colored.{color_in}
use Rattle.routines.specs.Accepted.{accepted, Accepted}
use Rattle.routines.proofs.Stages.{crowds, overflows, admits}
use Rattle.instrumenter.specs.Instrumented.{instrumented}
use Rattle.std.specs.Prelude.{Ok, Err}
use Rattle.instrumenter.specs.Answer.{FileAnswer, new_file, instrument}
use Rattle.instrumenter.specs.Answer as instrumenting
use Rattle.instrumenter.proofs.Answers.{Because, answered_because}
use Rattle.instrumenter.proofs.ReadsBack.{new_file_reads, fits_again, wrote}
use Rattle.machine.specs.State.{Given}
use Rattle.machine.specs.Runs.{runs}
use Rattle.start.specs.First.{first_table}
use Rattle.machine.specs.Colors.{table_rule}
use Rattle.memory.proofs.Exact.{is_exact}
use Rattle.machine.specs.Running.{Lent, Answer, refuse, run_program, run_reading, exact_lengths, run_file}
use Rattle.plain.specs.Plain.{plain_run}
use Rattle.plain.specs.Demands.{NotAccepted, Refuses, Answered, Agree}
use Rattle.plain.proofs.Itself.{guards_itself}
use Rattle.plain.proofs.Same.{same_run}
use Rattle.plain.proofs.Answering.{one_to_seven, read_listed, new_file_short, because_refuses, run_unrefused, run_listed}
use Rattle.controller.specs.Control.{given_for, plain_answer, answer_to, control}
use Rattle.controller.specs.TableAfter.{table_after}
use Rattle.controller.specs.Demands.{ControlRefuses, control_numbers, ControlIsAnswered, Controls, ControlsAsInstrumented}

module _ (bytes input : List ℕ) (limit : ℕ) (lent : Lent) (exact : exact_lengths lent ≡ true) where
  -- the controller's side, by what becomes of the reading
  answered : {x y : Reading} → read_file 1 bytes ≡ x → accepted x ≡ y → control bytes input limit lent ≡ answer_to input limit lent y
  unfolding control
  answered r a = rw (exact, control) (ap (λ (x : Reading). answer_to input limit lent (accepted x)) r ∙ ap (answer_to input limit lent) a)

  -- the run
  runs_it : (p : Program) → Accepted p → plain_answer input limit lent p ≡ run_file (new_file p) input limit lent
  unfolding run_file table_after
  runs_it p accepted =
      let q : Program = instrumented (color_in p) p in
      let given : Given = given_for input limit lent in
      let agree : Agree (runs (table_rule q) given (first_table q)) (plain_run p given) = same_run p q given accepted (guards_itself p accepted) in
      let ran : run_program input limit lent q ≡ plain_answer input limit lent p =
      λ i.
      record {
        run = agree.run i;
        lent =
            record {
              memory = agree.memory i;
              table = (runs (table_rule q) given (first_table q)).own;
              room = agree.outs i ++ drop (length (agree.outs i)) lent.room;
            };
      } in
      sym (rw (exact, run_file) (ap (run_reading input limit lent) (new_file_reads p accepted) ∙ rw (fits_again p accepted, run_reading) ran))

  controls_because : (a : FileAnswer) → Because bytes 32768 a → Controls bytes input limit lent a
  controls_because a (Because.unread r) = answered r refl
  controls_because a (Because.crowded {p} r c) = answered r (crowds p c)
  controls_because a (Because.overfull {p} r c f) = answered r (overflows p c f)
  controls_because a (Because.cramped {p} r c f l) =
      let short : length (new_file p) ≤ 32768 = new_file_short p (record { good = (one_spelling 1 bytes p r).good; classes = c; fitting = f }) in
      absurd (omega arith)
  controls_because a (Because.written {p} r c f l) =
      answered r (admits p c f) ∙ runs_it p (record { good = (one_spelling 1 bytes p r).good; classes = c; fitting = f })

pub controls : ControlsAsInstrumented
controls bytes input limit lent exact = controls_because bytes input limit lent exact (instrument bytes 32768) (answered_because bytes 32768)

-- ---- every answer

control_one_to_seven : (n : ℕ) → 1 ≤ n → n ≤ 7 → holds control_numbers n ≡ true
control_one_to_seven = one_to_seven _

not_accepted_listed : (bytes : List ℕ) (q : Refusal) → NotAccepted bytes q → holds control_numbers (refusal_number q.cause) ≡ true
unfolding holds
not_accepted_listed bytes q (NotAccepted.unread why) = read_listed control_numbers control_one_to_seven 1 bytes q why
not_accepted_listed bytes q (NotAccepted.crowded p says many) = refl
not_accepted_listed bytes q (NotAccepted.overfull p says few over) = refl

module _ (bytes input : List ℕ) (limit : ℕ) (lent : Lent) where
  abbrev Told : Answer → Type 0
  Told = Answered (ControlRefuses bytes lent) control_numbers lent

  refused_told : (q : Refusal) → Refuses bytes 32768 q → Told (refuse lent q)
  refused_told q (Refuses.not_accepted why) = Answered.refused q (ControlRefuses.not_accepted why) (not_accepted_listed bytes q why)
  refused_told q (Refuses.cramped p says accepted out e wide) =
      let short : length out ≤ 32768 = (wrote bytes 32768 out e).short in
      absurd (omega arith)

  -- a run of what was written is a run: it is refused for nothing
  run_told : (out : List ℕ) → instrument bytes 32768 ≡ FileAnswer.file out → exact_lengths lent ≡ true → Told (run_file out input limit lent)
  unfolding run_file
  run_told out e exact =
      let w = wrote bytes 32768 out e in
      let q : Program = instrumented (color_in w.routine) w.routine in
      let read : read_file 2 out ≡ whole q = ap (read_file 2) (sym w.spelled) ∙ new_file_reads w.routine w.accepted in
      let ran : run_file out input limit lent ≡ run_program input limit lent q =
      rw (exact, run_file) (ap (run_reading input limit lent) read ∙ rw (fits_again w.routine w.accepted, run_reading)) in
      subst Told (sym ran) (Answered.ended (run_program input limit lent q) (run_unrefused input limit lent q) (run_listed input limit lent q))

  told : (a : FileAnswer) → instrument bytes 32768 ≡ a → exact_lengths lent ≡ true → Controls bytes input limit lent a → Told (control bytes input limit lent)
  told (FileAnswer.file out) e exact k = subst Told (sym k) (run_told out e exact)
  told (FileAnswer.refused q) e exact k =
      subst Told (sym k) (refused_told q (because_refuses bytes 32768 (instrument bytes 32768) (answered_because bytes 32768) q e))

pub control_is_answered : ControlIsAnswered
unfolding control holds
control_is_answered bytes input limit lent = go (exact_lengths lent) refl
  where
    go : (b : Bool) → exact_lengths lent ≡ b → Answered (ControlRefuses bytes lent) control_numbers lent (control bytes input limit lent)
    go true e = told bytes input limit lent (instrument bytes 32768) refl e (controls bytes input limit lent e)
    go false e =
        subst (Answered (ControlRefuses bytes lent) control_numbers lent) (sym (rw (e, control)))
        (Answered.refused (refusal Cause.WrongLength 0) (ControlRefuses.lengths e) refl)

-- ---- what the function's returns need

abbrev of : (memory table room : List ℕ) → Lent
of memory table room = record { memory = memory; table = table; room = room }

module _ (bytes input : List ℕ) (limit : ℕ) (memory table room : List ℕ) where
  -- "11 | memory or table not of its exact length"
  pub wrong_lengths : exact_lengths (of memory table room) ≡ false
      → control bytes input limit (of memory table room) ≡ refuse (of memory table room) (refusal Cause.WrongLength 0)
  unfolding control
  wrong_lengths e = simp (e, control)

  module _ (m : length memory ≡ 57344) (t : length table ≡ 7168) (file : List ℕ) (long : length file ≡ 32768) where
    exact_lengths_lem : exact_lengths (of memory table room) ≡ true
    exact_lengths_lem = is_exact memory table m t

    answer : Controls bytes input limit (of memory table room) (instrument bytes (length file))
    answer = rw long (controls bytes input limit (of memory table room) exact_lengths_lem)

    -- the instrumenter refuses
    pub refused_so : (q : Refusal) → instrumenting.told (instrument bytes (length file)) ≡ Err q
        → control bytes input limit (of memory table room) ≡ refuse (of memory table room) q
    refused_so q e = go (instrument bytes (length file)) answer e
      where
        go : (a : FileAnswer) → Controls bytes input limit (of memory table room) a → instrumenting.told a ≡ Err q
            → control bytes input limit (of memory table room) ≡ refuse (of memory table room) q
        go (FileAnswer.file out) k e = let z : ◌≡◌ {A = ℕ} 0 1 = cc in absurd (omega arith)
        go (FileAnswer.refused q') k e = let same : q' ≡ q = cc in k ∙ ap (refuse (of memory table room)) same

    -- the instrumenter writes n bytes at the front of the file's room, and the machine runs them
    pub written_so : (n : ℕ) (after : List ℕ) → instrumenting.told (instrument bytes (length file)) ≡ Ok n
        → after ≡ instrumenting.room_holding file (instrument bytes (length file))
        → (n ≤ length after) × (run_file (take n after) input limit (of memory table room) ≡ control bytes input limit (of memory table room))
    written_so n after e h = go (instrument bytes (length file)) answer e h
      where
        go : (a : FileAnswer) → Controls bytes input limit (of memory table room) a → instrumenting.told a ≡ Ok n
            → after ≡ instrumenting.room_holding file a
            → (n ≤ length after) × (run_file (take n after) input limit (of memory table room) ≡ control bytes input limit (of memory table room))
        go (FileAnswer.file out) k e h =
            let size : length out ≡ n = cc in
            let front : take n after ≡ out = ap (take n) h ∙ take_at out (drop (length out) file) n size in
            (rw h (simp length-append (omega arith)), ap (λ (l : List ℕ). run_file l input limit (of memory table room)) front ∙ sym k)
        go (FileAnswer.refused q) k e h = let z : ◌≡◌ {A = ℕ} 0 1 = cc in absurd (omega arith)
