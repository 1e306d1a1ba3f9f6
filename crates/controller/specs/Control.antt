-- What handing a routine to the controller answers: a refusal that changes nothing, or the outcome that
-- the plain rule gives. No color and no version 2 stands here; what the table holds afterwards is said
-- by TableAfter.
use Rattle.std.specs.Prelude.{ℕ, List, ◌++◌, true, false, length, drop}
use Rattle.numbers.specs.declared.refusal.Cause.{Cause}
use Rattle.numbers.specs.Refusals.{refusal}
use Rattle.files.specs.Program.{Program}
use Rattle.files.specs.Reading.{Reading, whole, read_file}
use Rattle.routines.specs.Accepted.{accepted}
use Rattle.machine.specs.State.{Given}
use Rattle.machine.specs.Running.{Lent, Answer, refuse, exact_lengths}
use Rattle.plain.specs.Plain.{plain_run}
use Rattle.controller.specs.TableAfter.{table_after}

abbrev pub given_for : (input : List ℕ) (limit : ℕ) → Lent → Given
given_for input limit lent = record { input = input; room = length lent.room; limit = limit }

-- the outcome of the plain rule: its record, its numbers out, and all of its memory
abbrev pub plain_answer : (input : List ℕ) (limit : ℕ) → Lent → Program → Answer
plain_answer input limit lent p =
    record {
      run = (plain_run p (given_for input limit lent)).run;
      lent =
          record {
            memory = (plain_run p (given_for input limit lent)).memory;
            table = table_after p (given_for input limit lent);
            room =
                (plain_run p (given_for input limit lent)).outs
                ++ drop (length (plain_run p (given_for input limit lent)).outs) lent.room;
          };
    }

abbrev pub answer_to : (input : List ℕ) (limit : ℕ) → Lent → Reading → Answer
answer_to input limit lent (whole p) = plain_answer input limit lent p
answer_to input limit lent (Reading.refused q) = refuse lent q

-- "Order: 11 first (running only), then 1, then the file from left to right, then 8 and 9"; 10 cannot
-- happen, since the controller brings its own room for the instrumented file
unfoldable pub control : (file input : List ℕ) (limit : ℕ) → Lent → Answer
control file input limit lent =
    elim (exact_lengths lent) [
      | true ↦ answer_to input limit lent (accepted (read_file 1 file))
      | false ↦ refuse lent (refusal Cause.WrongLength 0)
    ]
