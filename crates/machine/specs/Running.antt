-- What running a version 2 file answers, for any bytes, input, room, limit and lent buffers.
use Rattle.std.specs.Prelude.{ℕ, Bool, true, false, List, ◌++◌, length, drop}
use Rattle.numbers.specs.declared.refusal.Cause.{Cause}
use Rattle.numbers.specs.Refusals.{refusal}
use Rattle.numbers.specs.declared.refusal.Refusal.{Refusal}
use Rattle.files.specs.Program.{Program}
use Rattle.files.specs.Reading.{Reading, whole, read_file}
use Rattle.layout.specs.Layout.{pieces_of, fits}
use Rattle.memory.specs.Memory.{exact}
use Rattle.stops.specs.declared.Run.{Run}
use Rattle.stops.specs.Stop.{refused_run}
use Rattle.machine.specs.Runs.{Outcome, runs}
use Rattle.start.specs.First.{first_table}
use Rattle.machine.specs.Colors.{table_rule}

-- what is lent: memory, the table, and the room for numbers out
pub record Lent : Type 0 where
  pub memory : List ℕ
  pub table : List ℕ
  pub room : List ℕ

-- the record, and what the lent buffers hold afterwards
pub record Answer : Type 0 where
  pub run : Run
  pub lent : Lent

abbrev pub lent_of : (memory table room : List ℕ) → Lent
lent_of memory table room = record { memory = memory; table = table; room = room }

abbrev pub answered : Run → Lent → Answer
answered run lent = record { run = run; lent = lent }

-- "A refusal changes no lent byte"
abbrev pub refuse : Lent → Refusal → Answer
refuse lent q = record { run = refused_run q; lent = lent }

-- "Bytes and numbers past the reported lengths stay"
abbrev pub leaves : (room : List ℕ) → Outcome (List ℕ) → Answer
leaves room o =
    record {
      run = o.run;
      lent = record { memory = o.memory; table = o.own; room = o.outs ++ drop (length o.outs) room };
    }

abbrev pub run_program : (input : List ℕ) (limit : ℕ) → Lent → Program → Answer
run_program input limit lent p =
    leaves lent.room
    (runs (table_rule p) (record { input = input; room = length lent.room; limit = limit }) (first_table p))

-- "9 | globals end above 28,672"; "Running never gives 8 or 10"
abbrev pub run_reading : (input : List ℕ) (limit : ℕ) → Lent → Reading → Answer
run_reading input limit lent (whole p) =
    elim (fits (pieces_of p.objects)) [ true ↦ run_program input limit lent p | false ↦ refuse lent (refusal Cause.LargeGlobals 0) ]
run_reading input limit lent (Reading.refused q) = refuse lent q

-- "11 | memory or table not of its exact length | 0"; "11 first (running only)"
abbrev pub exact_lengths : Lent → Bool
exact_lengths lent = exact lent.memory lent.table

unfoldable pub run_file : (file input : List ℕ) (limit : ℕ) → Lent → Answer
run_file file input limit lent =
    elim (exact_lengths lent)
    [ true ↦ run_reading input limit lent (read_file 2 file) | false ↦ refuse lent (refusal Cause.WrongLength 0) ]
