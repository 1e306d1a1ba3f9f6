-- Each file is answered: a routine is instrumented or refused for a listed reason, and a file of version 2
-- is run to a stop or refused for one; what is refused changes nothing.
use Prim.Native.Nat.{ℕ, zero, suc, ◌≤◌}
use native.Mathlib.Omega.{arith}
use mathlib.Core.Path.{◌≡◌, refl, sym, ◌∙◌, ap, subst}
use mathlib.Core.List.{List, [], ◌∷◌}
use mathlib.Core.Bool.{Bool, true, false}
use lib.ListN.{length}
use borrow.Author.Tests.{leb-true, leb-false}
use Rattle.numbers.specs.declared.refusal.Cause.{Cause}
use Rattle.numbers.specs.Refusals.{refusal_number, refusal}
use Rattle.numbers.specs.declared.refusal.Refusal.{Refusal}
use Rattle.files.specs.Program.{Program}
use Rattle.files.specs.Reading.{Reading, whole, read_file}
use Rattle.files.specs.Writing.{spell_file, Says}
use Rattle.files.proofs.RoundTrip.{one_spelling, good_of, reads_back}
use Rattle.refusals.specs.Why.{Why}
use Rattle.refusals.proofs.Refused.{refused_why}
use Rattle.refusals.proofs.Places.{listed}
use Rattle.coloring.specs.Class.{holds}
use Rattle.coloring.specs.Colored.{color_in, class_count}
use Rattle.layout.specs.Layout.{pieces_of, end_of, fits}
use Rattle.routines.specs.Accepted.{plain_pieces, Accepted}
use Rattle.instrumenter.specs.Instrumented.{instrumented}
use Rattle.instrumenter.specs.Answer.{FileAnswer, new_file, instrument, room_holding}
use Rattle.instrumenter.proofs.Answers as answers
use Rattle.instrumenter.proofs.Answers.{Because, answered_because}
use Rattle.instrumenter.proofs.Instrumenting.{instrumented_good}
use Rattle.instrumenter.proofs.ReadsBack.{new_file_reads}
use Rattle.stops.specs.declared.Reason.{Reason}
use Rattle.stops.specs.Stop.{number_of}
use Rattle.machine.specs.State.{Given}
use Rattle.start.specs.First.{first_table}
use Rattle.machine.specs.Colors.{table_rule}
use Rattle.machine.specs.Running.{Lent, refuse, run_program, run_reading, exact_lengths, run_file}
use Rattle.plain.specs.Demands.{Stops, NotAccepted, Refuses, RefusedOnlyFor, AcceptedIsWritten, RunRefuses, stop_numbers, run_numbers, Answered, RunIsAnswered}
use Rattle.plain.proofs.Stopping.{run_stops}
use Rattle.plain.proofs.Halting.{stops_listed, stops_unrefused}
use Rattle.plain.proofs.Itself.{guards_itself}

-- ---- instrumenting

-- what is read is said
says : (version : ℕ) (bytes : List ℕ) (p : Program) → read_file version bytes ≡ whole p → Says version bytes p
says version bytes p r = one_spelling version bytes p r

-- version 2 of an accepted routine is at most 32,768 bytes long
pub new_file_short : (p : Program) → Accepted p → length (new_file p) ≤ 32768
new_file_short p a = (good_of 2 (instrumented (color_in p) p) (instrumented_good p a.good a.classes)).short

pub because_refuses : (bytes : List ℕ) (room : ℕ) (a : FileAnswer) → Because bytes room a → (q : Refusal) → a ≡ FileAnswer.refused q → Refuses bytes room q
because_refuses bytes room a (Because.unread {q = q'} r) q e =
    let same : q' ≡ q = cc in
    subst (Refuses bytes room) same (Refuses.not_accepted (NotAccepted.unread (refused_why 1 (omega arith) bytes q' r)))
because_refuses bytes room a (Because.crowded {p} r c) q e =
    let same : refusal Cause.ManyClasses 0 ≡ q = cc in
    subst (Refuses bytes room) same (Refuses.not_accepted (NotAccepted.crowded p (says 1 bytes p r) (leb-false (class_count p) 254 c)))
because_refuses bytes room a (Because.overfull {p} r c f) q e =
    let same : refusal Cause.LargeGlobals 0 ≡ q = cc in
    subst (Refuses bytes room) same
    (Refuses.not_accepted (NotAccepted.overfull p (says 1 bytes p r) (leb-true (class_count p) 254 c) (leb-false (end_of (plain_pieces p)) 28672 f)))
because_refuses bytes room a (Because.cramped {p} r c f l) q e =
    let same : refusal Cause.SmallRoom 0 ≡ q = cc in
    let accepted : Accepted p = record { good = (says 1 bytes p r).good; classes = c; fitting = f } in
    subst (Refuses bytes room) same
    (Refuses.cramped p (says 1 bytes p r) accepted (new_file p) (answers.answers bytes 32768 (Because.written r c f (new_file_short p accepted))) l)
because_refuses bytes room a (Because.written r c f l) q e = let z : ◌≡◌ {A = ℕ} 0 1 = cc in absurd (omega arith)

pub refused_only_for : RefusedOnlyFor
refused_only_for bytes room q e =
    (because_refuses bytes (length room) (instrument bytes (length room)) (answered_because bytes (length room)) q e, ap (room_holding room) e)

pub accepted_is_written : AcceptedIsWritten
accepted_is_written p a room wide =
    record {
      out = new_file p;
      answer =
          answers.answers (spell_file 1 p) room
          (Because.written (reads_back 1 (omega arith) p a.good) a.classes a.fitting (omega (arith, new_file_short p a)));
      new = instrumented (color_in p) p;
      read = new_file_reads p a;
      guards = guards_itself p a;
    }

-- ---- running

-- a refusal of reading is one of 1 to 7
pub one_to_seven : (more : List ℕ) (n : ℕ) → 1 ≤ n → n ≤ 7 → holds (1 ∷ 2 ∷ 3 ∷ 4 ∷ 5 ∷ 6 ∷ 7 ∷ more) n ≡ true
unfolding holds
one_to_seven more zero low high = absurd (omega arith)
one_to_seven more (suc zero) low high = refl
one_to_seven more (suc (suc zero)) low high = refl
one_to_seven more (suc (suc (suc zero))) low high = refl
one_to_seven more (suc (suc (suc (suc zero)))) low high = refl
one_to_seven more (suc (suc (suc (suc (suc zero))))) low high = refl
one_to_seven more (suc (suc (suc (suc (suc (suc zero)))))) low high = refl
one_to_seven more (suc (suc (suc (suc (suc (suc (suc zero))))))) low high = refl
one_to_seven more (suc (suc (suc (suc (suc (suc (suc (suc n)))))))) low high = absurd (omega arith)

pub read_listed : (numbers : List ℕ) → ((n : ℕ) → 1 ≤ n → n ≤ 7 → holds numbers n ≡ true) → (version : ℕ) (bytes : List ℕ) (q : Refusal) → Why version bytes q
    → holds numbers (refusal_number q.cause) ≡ true
read_listed numbers all version bytes q w = let l = listed version bytes q w in all (refusal_number q.cause) l.least l.most

-- a run is none that was refused
pub run_unrefused : (input : List ℕ) (limit : ℕ) (lent : Lent) (p : Program) (q : Refusal) → (run_program input limit lent p).run.reason ≡ Reason.Refused q → ⊥
run_unrefused input limit lent p q e =
    let given : Given = record { input = input; room = length lent.room; limit = limit } in
    let end : Stops (table_rule p) given (first_table p) = run_stops (table_rule p) given (first_table p) in
    stops_unrefused (table_rule p) given end.state end.reason end.stopping q (sym (ap (λ o. o.run.reason) end.outcome) ∙ e)

-- a run stops for one of 01's stops
pub run_listed : (input : List ℕ) (limit : ℕ) (lent : Lent) (p : Program) → holds stop_numbers (number_of (run_program input limit lent p).run.reason) ≡ true
run_listed input limit lent p =
    let given : Given = record { input = input; room = length lent.room; limit = limit } in
    let end : Stops (table_rule p) given (first_table p) = run_stops (table_rule p) given (first_table p) in
    ap (λ o. holds stop_numbers (number_of o.run.reason)) end.outcome ∙ stops_listed (table_rule p) given end.state end.reason end.stopping

module _ (bytes input : List ℕ) (limit : ℕ) (lent : Lent) where
  reading_answered : (r : Reading) → read_file 2 bytes ≡ r → Answered (RunRefuses bytes lent) run_numbers lent (run_reading input limit lent r)
  unfolding holds
  reading_answered (whole p) r = go (fits (pieces_of p.objects)) refl
    where
      go : (b : Bool) → fits (pieces_of p.objects) ≡ b
          → Answered (RunRefuses bytes lent) run_numbers lent (elim b [ true ↦ run_program input limit lent p | false ↦ refuse lent (refusal Cause.LargeGlobals 0) ])
      go true f = Answered.ended (run_program input limit lent p) (run_unrefused input limit lent p) (run_listed input limit lent p)
      go false f =
          Answered.refused (refusal Cause.LargeGlobals 0) (RunRefuses.overfull p (says 2 bytes p r) (leb-false (end_of (pieces_of p.objects)) 28672 f)) refl
  reading_answered (Reading.refused q) r =
      let why : Why 2 bytes q = refused_why 2 (omega arith) bytes q r in
      Answered.refused q (RunRefuses.unread why) (read_listed run_numbers (one_to_seven (9 ∷ 11 ∷ [])) 2 bytes q why)

pub run_is_answered : RunIsAnswered
unfolding run_file holds
run_is_answered bytes input limit lent = go (exact_lengths lent) refl
  where
    go : (b : Bool) → exact_lengths lent ≡ b
        → Answered (RunRefuses bytes lent) run_numbers lent (elim b [ true ↦ run_reading input limit lent (read_file 2 bytes) | false ↦ refuse lent (refusal Cause.WrongLength 0) ])
    go true e = reading_answered bytes input limit lent (read_file 2 bytes) refl
    go false e = Answered.refused (refusal Cause.WrongLength 0) (RunRefuses.lengths e) refl
