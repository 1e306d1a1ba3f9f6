-- From what the reader holds to the definition's run of a program.
--
-- Of an accepted file the first elements of the arrays are the program's (`ReadAs`), so each thing that the code
-- takes from them is the definition's: the layout, the instructions, the first table (`starts_first`), and the rule
-- (`Agreeing`). So the run is the run of the program (`runs`), or refusal 9 (`long`).
use Rattle.std.proofs.Common.{◌≡◌, List, ℕ, ◌+◌, ◌*◌, ◌≤◌, Bool, true, false, Ok, ltb, length, get_or, take, sym, refl, ap, ◌∙◌, subst, arith, ltb-false, ltb-true, leb-true}
use Rattle.numbers.specs.declared.refusal.Cause.{Cause}
use Rattle.numbers.specs.Refusals.{refusal}
use Rattle.opcodes.specs.declared.Instr.{Instr}
use Rattle.opcodes.specs.declared.Object.{Object}
use Rattle.opcodes.proofs.Bounds.{within_bounds}
use Rattle.files.specs.declared.arrays.Loaded.{Loaded}
use Rattle.files.specs.Program.{Program}
use Rattle.files.specs.Reading.{Reading, whole, read_file}
use Rattle.files.specs.Writing.{scope_of}
use Rattle.files.specs.Held.{blank, held_as, held}
use Rattle.files.proofs.Filled.{take-filled}
use Rattle.files.proofs.RoundTrip.{Good, good_read}
use Rattle.layout.specs.Layout.{Piece, pieces_of, start_of, end_of, fits}
use Rattle.layout.specs.Arrays.{layout_of}
use Rattle.layout.proofs.Places.{start_low}
use Rattle.layout.proofs.Pieces.{start_held, no_start_held}
use Rattle.memory.proofs.Exact.{exact_lengths_lem}
use Rattle.heap.specs.Lent.{After}
use Rattle.start.specs.declared.Laid.{Laid}
use Rattle.start.specs.First.{first_memory, first_table}
use Rattle.start.specs.Held.{laid_start}
use Rattle.start.proofs.Starting.{start_is, starts_first, first_for}
use Rattle.stops.specs.Stop.{refused_run}
use Rattle.machine.specs.State.{Given, start_state}
use Rattle.machine.specs.Runs.{runs}
use Rattle.machine.specs.Colors.{table_rule}
use Rattle.machine.specs.Running.{Lent, refuse, leaves, run_program, run_reading, exact_lengths, run_file, lent_of, answered}
use Rattle.machine.specs.Turn.{held_rule, Low, AllNarrow, run_held}
use Rattle.machine.proofs.Agreeing.{same_runs}
use Rattle.machine.proofs.Temporaries.{narrow_code}

-- ---- starts are low

pub low_starts : (os : List Piece) → end_of os ≤ 28672 → Low (layout_of os).starts
low_starts os fit g = go (ltb g (length os)) refl
  where
    go : (b : Bool) → ltb g (length os) ≡ b → get_or (layout_of os).starts g 0 ≤ 28672
    go true e = omega (arith, start_held os g (ltb-true _ _ e), start_low os g)
    go false e = omega (arith, no_start_held os g (ltb-false _ _ e))

-- ---- what is held is a program

pub record ReadAs (file : List ℕ) (l : Loaded) : Type 0 where
  pub program : Program
  pub reads : read_file 2 file ≡ whole program
  pub good : Good 2 program
  pub is : l ≡ held_as program

module _ {file : List ℕ} {l : Loaded} where
  pub read_as : Ok l ≡ held (read_file 2 file) → ReadAs file l
  read_as e = go (read_file 2 file) refl e
    where
      go : (r : Reading) → read_file 2 file ≡ r → Ok l ≡ held r → ReadAs file l
      go (whole p) r e = let is : l ≡ held_as p = cc in record { program = p; reads = r; good = good_read 2 file p r; is = is }
      go (Reading.refused q) r e = cc

  module _ (r : ReadAs file l) where
    objects_are : take l.objects.count l.objects.list ≡ r.program.objects
    objects_are = ap (λ x. take x.objects.count x.objects.list) r.is ∙ take-filled 400 blank r.program.objects (length r.program.objects) refl

    code_is : take l.code.count l.code.list ≡ r.program.code
    code_is = ap (λ x. take x.code.count x.code.list) r.is ∙ take-filled 2000 Instr.End r.program.code (length r.program.code) refl

    pub few_lines : length (take l.code.count l.code.list) ≤ 2000
    few_lines = rw code_is (within_bounds 1 2000 (length r.program.code) r.good.code_most).1

    pub narrow : AllNarrow (take l.code.count l.code.list)
    narrow = subst AllNarrow (sym code_is) (narrow_code (scope_of 2 r.program) r.program.code r.good.code)

-- no more are counted than there is room for
module _ (file : List ℕ) (l : Loaded) (e : Ok l ≡ held (read_file 2 file)) where
  read_so : ReadAs file l
  read_so = read_as e

  pub few_objects : l.objects.count ≤ 400
  few_objects = rw read_so.is read_so.good.objects_most

  pub few_instrs : l.code.count ≤ 2000
  few_instrs = rw read_so.is (within_bounds 1 2000 (length read_so.program.code) read_so.good.code_most).1

-- ---- the start, and the run

module _ (file input : List ℕ) (limit : ℕ) (memory table room : List ℕ) {l : Loaded} (r : ReadAs file l) (exact : exact_lengths (lent_of memory table room) ≡ true) where
  abbrev lent : Lent
  lent = lent_of memory table room

  abbrev objects : List Object
  objects = r.program.objects

  abbrev first : Bool → After Laid
  first = first_for r.program memory table r.good.objects_most (exact_lengths_lem memory table exact).0 (exact_lengths_lem memory table exact).1

  file_run : (b : Bool) → fits (pieces_of objects) ≡ b
      → elim b [ true ↦ run_program input limit lent r.program | false ↦ refuse lent (refusal Cause.LargeGlobals 0) ] ≡ run_file file input limit lent
  unfolding run_file
  file_run b fit = sym (rw (exact, run_file) (ap (run_reading input limit lent) r.reads ∙ rw (fit, run_reading) refl))

  abbrev starts : List ℕ
  starts = (layout_of (pieces_of objects)).starts

  -- the rule over what is held runs as the table's rule
  program_run : run_held r.program.code starts objects input limit (lent_of first_memory (first_table r.program) room) ≡ run_program input limit lent r.program
  unfolding runs table_rule
  program_run =
      let given : Given = record { input = input; room = length room; limit = limit } in
      ap (leaves room)
      (same_runs r.program (held_rule r.program.code starts objects) (start_of (pieces_of objects)) given (start_is objects) r.good.code
      ((limit + 1) * (length r.program.code + 1)) (start_state (first_table r.program)))

  module _ {laid : Laid} {m t : List ℕ} (told : laid ≡ (laid_start l.objects memory table).answer)
      (ms : m ≡ (laid_start l.objects memory table).memory) (ts : t ≡ (laid_start l.objects memory table).table) where
    laid_first : ◌≡◌ {A = After Laid} (record { answer = laid; memory = m; table = t }) (first (fits (pieces_of objects)))
    laid_first =
        (λ i. record { answer = told i; memory = ms i; table = ts i }) ∙ ap (λ x. laid_start x.objects memory table) r.is
        ∙ starts_first r.program memory table r.good.objects_most (exact_lengths_lem memory table exact).0 (exact_lengths_lem memory table exact).1

    laid_by : (b : Bool) → laid.fits ≡ b
        → (fits (pieces_of objects) ≡ b) × ◌≡◌ {A = After Laid} (record { answer = laid; memory = m; table = t }) (first b)
    laid_by b e =
        let same : fits (pieces_of objects) ≡ b = sym (ap (λ x. x.answer.fits) laid_first) ∙ e in
        (same, laid_first ∙ ap first same)

    pub long : laid.fits ≡ false → answered (refused_run (refusal Cause.LargeGlobals 0)) (lent_of m t room) ≡ run_file file input limit lent
    long e =
        ap (λ x. answered (refused_run (refusal Cause.LargeGlobals 0)) (lent_of x.memory x.table room)) (laid_by false e).1
        ∙ file_run false (laid_by false e).0

    pub low : laid.fits ≡ true → Low laid.starts
    low e = subst (λ (x : After Laid). Low x.answer.starts) (sym (laid_by true e).1) (low_starts (pieces_of objects) (leb-true _ _ (laid_by true e).0))

    pub runs_it : laid.fits ≡ true
        → run_held (take l.code.count l.code.list) laid.starts (take l.objects.count l.objects.list) input limit (lent_of m t room)
        ≡ run_file file input limit lent
    runs_it e =
        (λ i. run_held (code_is r i) ((laid_by true e).1 i).answer.starts (objects_are r i) input limit (lent_of ((laid_by true e).1 i).memory ((laid_by true e).1 i).table room))
        ∙ program_run ∙ file_run true (laid_by true e).0
