-- The rows of the table, by computation. Rows 9 and 10 take most of the time: they come last, each by
-- itself, and of their files only the runs are computed there.
use Prim.Native.Nat.{ℕ}
use mathlib.Core.Path.{◌≡◌, refl, ap, ◌∙◌}
use mathlib.Core.List.{List, [], ◌∷◌, ◌++◌}
use mathlib.Core.Bool.{Bool, true, false}
use lib.ListN.{length, get_or, take, drop}
use Rattle.numbers.specs.declared.refusal.Cause.{Cause}
use Rattle.numbers.specs.Refusals.{refusal}
use Rattle.numbers.specs.Number.{read_groups, groups}
use Rattle.files.specs.Program.{Program}
use Rattle.files.specs.Reading.{whole, follow, many, members_plan, read_file}
use Rattle.files.specs.Writing.{spell_file, spell_all}
use Rattle.safety.specs.Unsafe.{sets_in}
use Rattle.coloring.specs.Class.{holds, some, meets, join, classes_of}
use Rattle.coloring.specs.Color.{lowest_from, classes_below, color_of}
use Rattle.coloring.specs.Colored.{tinted}
use Rattle.layout.specs.Layout.{total, start_of, fits, pieces_of}
use Rattle.routines.specs.Accepted.{plain_pieces_from}
use Rattle.instrumenter.specs.Instrumented.{guarded, span_of, new_place, instrumented}
use Rattle.instrumenter.specs.Answer.{instrument}
use Rattle.memory.specs.Memory.{bytes_of, number_at, put, fill, color_at, every_byte}
use Rattle.heap.specs.Heap.{walk, block_at, put_header, sound, walk_from, take_block, first_fit, alloc, free_in, free, empty_heap}
use Rattle.stops.specs.Stop.{places_in}
use Rattle.machine.specs.Step.{step}
use Rattle.machine.specs.Runs.{Outcome, run_from, runs}
use Rattle.start.specs.First.{blank_memory, paint_globals, blank_table, first_table}
use Rattle.machine.specs.Colors.{table_rule}
use Rattle.machine.specs.Running.{refuse, run_program, run_reading, run_file}
use Rattle.proved_set.specs.Examples.{version_two, zeros, run_of, numbers_out, first_block, heap_of, four_blocks, both_freed, four_bodies, heap_after, ProvedSet}

-- ---- all rows but 9 and 10

given_nine_and_ten : four_bodies ≡ 28680 ∷ 28696 ∷ 28720 ∷ 28680 ∷ [] → heap_after 2 3 ≡ 28672 ∷ 28656 ∷ 0 ∷ 0 ∷ [] → heap_after 3 2 ≡ 28672 ∷ 28656 ∷ 0 ∷ 0 ∷ [] → ProvedSet
unfolding read_groups groups read_file follow many members_plan spell_file spell_all sets_in holds some meets join classes_of lowest_from classes_below color_of tinted plain_pieces_from total start_of guarded span_of new_place instrumented instrument bytes_of number_at put fill color_at every_byte put_header empty_heap places_in blank_memory step run_from runs table_rule paint_globals blank_table first_table run_file
given_nine_and_ten nine ten ten' =
    (refl, (refl, (refl, (refl, (refl, (refl, (refl, (refl, (refl, (refl, (refl, (refl, (refl, (refl, (refl, (nine, (ten, (ten', (refl, (refl, (refl, (refl, tt))))))))))))))))))))))

-- ---- rows 9 and 10

-- the outcome of a program
outcome : Program → Outcome (List ℕ)
outcome p = runs (table_rule p) (record { input = []; room = 1000; limit = 100 }) (first_table p)

-- the run of a file is the outcome of the program that stands in its version 2
run_read : (bytes : List ℕ) (p : Program) → read_file 2 (version_two bytes) ≡ whole p → fits (pieces_of p.objects) ≡ true → run_of bytes 100 ≡ run_program [] 100 zeros p
unfolding run_file
run_read bytes p e f =
    ap (run_reading [] 100 zeros) e
    ∙ ap (λ (b : Bool). elim b [ true ↦ run_program [] 100 zeros p | false ↦ refuse zeros (refusal Cause.LargeGlobals 0) ]) f

-- how many numbers were put out, and the numbers
put_out : Outcome (List ℕ) → List ℕ
put_out o = o.run.out ∷ o.outs

row_nine : read_file 2 (version_two (spell_file 1 four_blocks)) ≡ whole four_blocks → put_out (outcome four_blocks) ≡ 4 ∷ 28680 ∷ 28696 ∷ 28720 ∷ 28680 ∷ [] → four_bodies ≡ 28680 ∷ 28696 ∷ 28720 ∷ 28680 ∷ []
unfolding outcome put_out four_bodies total
row_nine e o =
    ap numbers_out (run_read (spell_file 1 four_blocks) four_blocks e refl)
    ∙ ap (λ (l : List ℕ). take (get_or l 0 0) (drop 1 l ++ drop (length (drop 1 l)) zeros.room)) o

row_ten : (first second : ℕ) {l : List ℕ} → read_file 2 (version_two (spell_file 1 (both_freed first second))) ≡ whole (both_freed first second) → first_block (walk (outcome (both_freed first second)).memory) ≡ l → heap_after first second ≡ l
unfolding outcome heap_after total
row_ten first second e o =
    ap heap_of (run_read (spell_file 1 (both_freed first second)) (both_freed first second) e refl) ∙ o

given_ten : heap_after 2 3 ≡ 28672 ∷ 28656 ∷ 0 ∷ 0 ∷ [] → heap_after 3 2 ≡ 28672 ∷ 28656 ∷ 0 ∷ 0 ∷ [] → ProvedSet
unfolding outcome put_out read_groups groups read_file follow many members_plan spell_file spell_all sets_in holds some meets join classes_of lowest_from classes_below color_of tinted plain_pieces_from total start_of guarded span_of new_place instrumented instrument bytes_of number_at put fill color_at every_byte put_header empty_heap block_at sound walk_from take_block first_fit alloc free_in free places_in blank_memory step run_from runs table_rule paint_globals blank_table first_table
given_ten = given_nine_and_ten (row_nine refl refl)

given_last : heap_after 3 2 ≡ 28672 ∷ 28656 ∷ 0 ∷ 0 ∷ [] → ProvedSet
unfolding outcome read_groups groups read_file follow many members_plan spell_file spell_all sets_in holds some meets join classes_of lowest_from classes_below color_of tinted plain_pieces_from total start_of guarded span_of new_place instrumented instrument bytes_of number_at put fill color_at every_byte put_header empty_heap block_at sound walk_from take_block first_fit alloc free_in free places_in blank_memory step run_from runs table_rule paint_globals blank_table first_table
given_last = given_ten (row_ten 2 3 refl refl)

pub proved_set : ProvedSet
unfolding outcome read_groups groups read_file follow many members_plan spell_file spell_all sets_in holds some meets join classes_of lowest_from classes_below color_of tinted plain_pieces_from total start_of guarded span_of new_place instrumented instrument bytes_of number_at put fill color_at every_byte put_header empty_heap block_at sound walk_from take_block first_fit alloc free_in free places_in blank_memory step run_from runs table_rule paint_globals blank_table first_table
proved_set = given_last (row_ten 3 2 refl refl)
