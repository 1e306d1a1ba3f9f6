-- Why a file is refused. The walk goes down the plan with one fact: every file that agrees up to the place
-- reached, and is not too long, is read on from there by the same plan. So where a number is refused, every
-- file with the same bytes up to its end is refused too, and a good file, which reads as whole, is none of
-- them; and where the plan is done before the file ends, the bytes up to there are read as whole.
use Prim.Native.Nat.{ℕ, ◌+◌, ◌^◌, ◌<◌, ◌≤◌}
use mathlib.Core.Path.{◌≡◌, refl, sym, ap, ◌∙◌, subst}
use mathlib.Core.List.{List}
use mathlib.Core.Bool.{Bool, true, false}
use native.Mathlib.Nat.{zero-add}
use native.Mathlib.Decide.{dec_lt}
use native.Mathlib.Omega.{arith}
use lib.ListN.{length, take, drop}
use lib.Seq.{take-add, drop_at, take_all, length-take-le}
use lib.Dec.{leb, eqb}
use borrow.Author.Tests.{leb-true, leb-false, eqb-false, eq-eqb}
use Rattle.std.specs.Prelude.{Ok, Err}
use Rattle.numbers.specs.declared.refusal.Cause.{Cause}
use Rattle.numbers.specs.Refusals.{refusal}
use Rattle.numbers.specs.declared.Cursor.{Cursor}
use Rattle.numbers.specs.declared.refusal.Refusal.{Refusal}
use Rattle.numbers.specs.Number.{Read}
use Rattle.numbers.specs.Number.{spell, width, read_number, bad_number}
use Rattle.numbers.proofs.Laws.{read_bounds, read_prefix}
use Rattle.numbers.proofs.Laws as numbers
use Rattle.opcodes.specs.Ranges.{within}
use Rattle.opcodes.proofs.Bounds.{within_true}
use Rattle.files.specs.Program.{Program, longest}
use Rattle.files.specs.Reading.{judge, judged, Reading, whole, refused_with, Plan, done, ask, on, follow, file_plan, read_file}
use Rattle.files.proofs.Following.{read_by_plan}
use Rattle.files.specs.Writing.{good_program, spell_file}
use Rattle.files.proofs.RoundTrip.{good_of, reads_back, one_spelling}
use Rattle.refusals.specs.Why.{Begins, NoneBegins, part, Why, too_long, early, not_a_number, other_version, bad_field, surplus, RefusedWhy}
use Rattle.refusals.proofs.Agreeing.{Agrees, agrees_itself, agrees_cut, agrees_begun, agrees_earlier}
use Rattle.refusals.proofs.Numbers.{Told, told, begins_none}

-- a number that is read stands in the file as it is spelled
stands : (file : List ℕ) (at : ℕ) {n : ℕ} {c : Cursor} → read_number file at ≡ Ok (n, c) → part file at (at + width n) ≡ spell n
stands file at {n} r =
    let bounds = read_bounds file at r in
    ap (drop at) (take-add at (width n) file)
    ∙ drop_at (take at file) (take (width n) (drop at file)) at (length-take-le at file (omega (arith, bounds.0, bounds.1)))
    ∙ numbers.one_spelling file at r

module _ (version : ℕ) (small : version < 2 ^ 32) (file : List ℕ) (fits : length file ≤ longest version)
    (q : Refusal) (refused : read_file version file ≡ Reading.refused q)
  where
    -- how the files are read that agree up to a place and are not too long
    abbrev Others : (at : ℕ) → (List ℕ → Reading) → Type 0
    Others at answer = (other : List ℕ) → length other ≤ longest version → Agrees at file other → read_file version other ≡ answer other

    -- among them the file itself
    itself : {at : ℕ} {answer : List ℕ → Reading} → at ≤ length file → Others at answer → answer file ≡ Reading.refused q
    itself inside others = sym (others file fits (agrees_itself file inside)) ∙ refused

    -- the reason of what is answered is the reason of the refusal
    for : {x : Refusal} → Reading.refused x ≡ Reading.refused q → Why version file x → Why version file q
    for {x} e why = let same : x ≡ q = cc in subst (Why version file) same why

    -- a good file is read as whole, so it is none of those that are refused alike
    none_begins : {end : ℕ} (x : Refusal) → end ≤ length file → Others end (λ other. Reading.refused x) → NoneBegins version (take end file)
    none_begins x inside others p good begins =
        let answer = others (spell_file version p) (good_of version p good).short (agrees_begun file inside (spell_file version p) begins) in
        let read = reads_back version small p good in
        let z : ◌≡◌ {A = ℕ} 0 1 = cc in
        omega arith

    -- and it is not the file itself
    longer : (p : Program) → good_program version p ≡ true → Begins file (spell_file version p) → length file < length (spell_file version p)
    longer p good begins =
        elim (dec_lt (length file) (length (spell_file version p))) [
          | yes h ↦ h
          | no h ↦
              let same : spell_file version p ≡ file = sym (take_all (length file) (spell_file version p) (omega arith)) ∙ begins in
              let read : read_file version file ≡ whole p = rw same at (reads_back version small p good) in
              let z : ◌≡◌ {A = ℕ} 0 1 = cc in
              absurd (omega arith)
        ]

    -- a number that is asked for: what `failed` says where it fails its test, and `more` where it passes
    asked : (why : Cause) (test : ℕ → Bool) (at : ℕ) (next : List ℕ → ℕ → ℕ → Reading) → at ≤ length file
        → Others at (λ other. on (judged why test other at) (next other))
        → ((n : ℕ) → test n ≡ false → at + width n ≤ length file → part file at (at + width n) ≡ spell n
        → NoneBegins version (take (at + width n) file) → Why version file (refusal why at))
        → ((n behind : ℕ) → behind ≤ length file → Others behind (λ other. next other n behind) → Why version file q)
        → Why version file q
    asked why test at next inside others failed more = go (told file at inside)
      where
        answered : {end : ℕ} → at ≤ end → (r : Read) → ((other : List ℕ) → Agrees end file other → read_number other at ≡ r)
            → Others end (λ other. on (judge why at test r) (next other))
        answered h r e other short agrees =
            others other short (agrees_earlier agrees at h) ∙ ap (λ (x : Read). on (judge why at test x) (next other)) (e other agrees)

        tested : (n : ℕ) (c : Cursor) → read_number file at ≡ Ok (n, c) → (t : Bool) → test n ≡ t
            → Others c.at (λ other. on (elim t [ true ↦ Ok (n, c) | false ↦ Err (refusal why at) ]) (next other)) → Why version file q
        tested n c r true is read = more n c.at (read_bounds file at r).1 read
        tested n c r false is read =
            let (behind, ends, less, wide) = read_bounds file at r in
            for (itself ends read)
            (failed n is (omega arith) (stands file at r) (rw wide at (none_begins (refusal why at) ends read)))

        go : Told file at → Why version file q
        go (Told.fine n c r) =
            tested n c r (test n) refl
            (answered (omega (arith, (read_bounds file at r).0)) (Ok (n, c)) (λ other agrees. read_prefix file other at agrees.same agrees.long r))
        go (Told.early n least begun short e) =
            for (ap (λ (x : Read). on (judge why at test x) (next file)) (sym e) ∙ itself inside others)
            (early at n inside least begun short longer)
        go (Told.bad end some ends bad) =
            let read = answered (omega arith) (bad_number at) bad in
            for (itself ends read) (not_a_number at end some ends (begins_none file at end some ends bad) (none_begins (refusal Cause.BadNumber at) ends read))

    -- a plan from the place reached on
    walk : (plan : Plan) (at : ℕ) → at ≤ length file → Others at (λ other. follow plan other at) → Why version file q
    unfolding follow
    walk (done p) at inside others = go (eqb at (length file)) refl (itself inside others)
      where
        go : (t : Bool) → eqb at (length file) ≡ t
            → elim t as (λ _. Reading) [ true ↦ whole p | false ↦ Reading.refused (refusal Cause.Surplus at) ] ≡ Reading.refused q → Why version file q
        go true is e = let z : ◌≡◌ {A = ℕ} 0 1 = cc in absurd (omega arith)
        go false is e =
            let long : length (take at file) ≡ at = length-take-le at file inside in
            let ends : eqb at (length (take at file)) ≡ true = eq-eqb at (length (take at file)) (sym long) in
            let read : read_file version (take at file) ≡ whole p =
            others (take at file) (omega arith) (agrees_cut file inside)
            ∙ ap (λ (t : Bool). elim t as (λ _. Reading) [ true ↦ whole p | false ↦ Reading.refused (refusal Cause.Surplus at) ]) ends in
            let spelled = one_spelling version (take at file) p read in
            let before : at ≡ length file → ⊥ = eqb-false at (length file) is in
            for e (surplus at p (omega arith) spelled)
    walk (ask sort test next) at inside others =
        asked (refused_with sort) test at (λ other n behind. follow (next n) other behind) inside others
        (λ n is ends stood none. bad_field sort at n ends stood none)
        (λ n behind ends rest. walk (next n) behind ends rest)

-- a refused file is refused for a reason that its bytes give
pub refused_why : RefusedWhy
unfolding read_file
refused_why version small file q e = go (leb (length file) (longest version)) refl
  where
    go : (t : Bool) → leb (length file) (longest version) ≡ t → Why version file q
    go true is =
        let fits : length file ≤ longest version = leb-true (length file) (longest version) is in
        asked version small file fits q e Cause.Version (within version version) 0 (λ other n behind. follow (file_plan version) other behind)
        (omega arith) (λ other short agrees. read_by_plan other version short)
        (λ n is ends stood none.
        other_version n (omega arith) (rw zero-add at stood)
        (λ same.
        let passes : within version version n ≡ true = within_true version version n (omega arith) (omega arith) in
        let z : ◌≡◌ {A = ℕ} 0 1 = cc in
        omega arith)
        (rw zero-add at none))
        (λ n behind ends rest. walk version small file fits q e (file_plan version) behind ends rest)
    go false is =
        let answer : Reading.refused (refusal Cause.TooLong 0) ≡ Reading.refused q = rw (is, read_file) at e in
        let same : refusal Cause.TooLong 0 ≡ q = cc in
        subst (Why version file) same (too_long (leb-false (length file) (longest version) is))
