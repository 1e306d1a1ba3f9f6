-- The whole file, part by part: each part that was read leads to the next, and the first refusal is the file's.
use mathlib.Core.Path.{◌≡◌, refl, ap, ap₂, subst, ◌∙◌}
use mathlib.Core.List.{List, [], ◌∷◌, ◌++◌}
use mathlib.Core.Bool.{Bool, true, false}
use Prim.Native.Nat.{ℕ, zero, suc, ◌+◌, ◌≤◌, ◌<◌}
use native.Mathlib.Omega.{arith}
use lib.ListN.{length, take, length-append}
use borrow.Author.Tests.{lt-leb, eq-eqb, ne_eqb}
use Rattle.std.specs.Prelude.{Result, Ok, Err}
use Rattle.numbers.specs.declared.refusal.Cause.{Cause}
use Rattle.numbers.specs.declared.refusal.Refusal.{Refusal}
use Rattle.numbers.specs.declared.Cursor.{Cursor}
use Rattle.numbers.specs.Refusals.{refusal}
use Rattle.numbers.specs.Number.{Read}
use Rattle.opcodes.specs.declared.Object.{Object}
use Rattle.opcodes.specs.declared.Instr.{Instr}
use Rattle.opcodes.specs.Ranges.{has_sets, within, kinds_of}
use Rattle.opcodes.proofs.Bounds.{within_bounds}
use Rattle.files.specs.declared.arrays.Objects.{Objects}
use Rattle.files.specs.declared.arrays.Sets.{Sets}
use Rattle.files.specs.declared.arrays.Code.{Code}
use Rattle.files.specs.declared.arrays.Loaded.{Loaded}
use Rattle.files.specs.Program.{longest}
use Rattle.files.specs.Reading.{Reading, whole, judged, read_file}
use Rattle.files.specs.Held.{held_as, objects_held, sets_held, code_held, blank}
use Rattle.files.specs.Inside.{Holds}
use Rattle.files.specs.Parsing.{Answer, then, several, cursor, read_object, read_set, objects_of, sets_of, code_of, ends_there, behind}
use Rattle.files.proofs.Answered.{same_thing}
use Rattle.files.proofs.Filled.{take-filled}
use Rattle.files.proofs.Following.{read_by_parts}
use Rattle.files.proofs.Judging.{good}

-- ---- how many things a sequence has

pub several_length : {A : Type 0} (left : ℕ) (one : ℕ → Answer A) (at : ℕ) (done : List A) {all : List A} {next : Cursor}
    → several left one at done ≡ Ok (all, next) → length all ≡ left + length done
unfolding several
several_length zero one at done e = let l = ap length (same_thing e) in omega arith
several_length {A} (suc left) one at done {all} {next} e = go (one at) (λ x past. several_length left one past (done ++ x ∷ [])) e
  where
    go : (r : Answer A)
        → ((x : A) (past : ℕ) → several left one past (done ++ x ∷ []) ≡ Ok (all, next) → length all ≡ left + length (done ++ x ∷ []))
        → then r (λ x past. several left one past.at (done ++ x ∷ [])) ≡ Ok (all, next) → length all ≡ suc left + length done
    go (Ok r) ih f = let l = ih r.0 r.1.at f in let m = length-append done (r.0 ∷ []) in omega arith
    go (Err q) ih f =
        let clash : ◌≡◌ {A = Answer (List A)} (Err q) (Ok (all, next)) = f in
        let none : ⊥ = cc in
        absurd none

-- after a count from 0 to 400
few : {A : Type 0} (one : ℕ → Answer A) (file : List ℕ) (at : ℕ) {all : List A} {next : Cursor}
    → then (judged Cause.Count (within 0 400) file at) (λ count past. several count one past.at []) ≡ Ok (all, next) → length all ≤ 400
few {A} one file at {all} {next} e = go (judged Cause.Count (within 0 400) file at) refl e
  where
    go : (r : Read) → judged Cause.Count (within 0 400) file at ≡ r
        → then r (λ count past. several count one past.at []) ≡ Ok (all, next) → length all ≤ 400
    go (Ok (n, c)) r f =
        let g = good Cause.Count (within 0 400) file at r in
        let b = within_bounds 0 400 n g.right in
        let l = several_length n one c.at [] f in
        omega (arith, b.1)
    go (Err q) r f =
        let clash : ◌≡◌ {A = Answer (List A)} (Err q) (Ok (all, next)) = f in
        let none : ⊥ = cc in
        absurd none

pub few_objects : (version : ℕ) (file : List ℕ) {os : List Object} {next : Cursor} → objects_of version file ≡ Ok (os, next) → length os ≤ 400
few_objects version file {os} {next} e = go (judged Cause.Version (within version version) file 0) e
  where
    go : (r : Read)
        → then r (λ this past. then (judged Cause.Count (within 0 400) file past.at) (λ count past. several count (read_object version file) past.at [])) ≡ Ok (os, next)
        → length os ≤ 400
    go (Ok r) f = few (read_object version file) file r.1.at f
    go (Err q) f =
        let clash : ◌≡◌ {A = Answer (List Object)} (Err q) (Ok (os, next)) = f in
        let none : ⊥ = cc in
        absurd none

pub few_sets : (version objects : ℕ) (file : List ℕ) (at : ℕ) {ss : List (List ℕ)} {next : Cursor} → sets_of version objects file at ≡ Ok (ss, next) → length ss ≤ 400
few_sets version objects file at {ss} {next} e = go (has_sets version) e
  where
    go : (b : Bool)
        → ◌≡◌ {A = Answer (List (List ℕ))} (elim b [ true ↦ then (judged Cause.Count (within 0 400) file at) (λ n past. several n (read_set objects file) past.at []) | false ↦ Ok ([], cursor at) ]) (Ok (ss, next))
        → length ss ≤ 400
    go true f = few (read_set objects file) file at f
    go false f = let none : [] ≡ ss = same_thing f in let l : 0 ≡ length ss = ap length none in omega arith

-- ---- the definition, part by part

module _ (version : ℕ) (file : List ℕ) where
  abbrev after_sets : List Object → List (List ℕ) → Cursor → Reading
  after_sets os ss past =
      behind (code_of version (kinds_of os) (length ss) file past.at) λ code next.
      ends_there file (record { objects = os; sets = ss; code = code }) next

  abbrev after_objects : List Object → Cursor → Reading
  after_objects os past = behind (sets_of version (length os) file past.at) (after_sets os)

  pub too_long_lem : longest version < length file → read_file version file ≡ Reading.refused (refusal Cause.TooLong 0)
  unfolding read_file
  too_long_lem h = rw (lt-leb _ _ h, read_file)

  module _ (fits : length file ≤ longest version) where
    pub no_objects : {q : Refusal} → objects_of version file ≡ Err q → read_file version file ≡ Reading.refused q
    no_objects e = read_by_parts file version fits ∙ ap (λ r. behind r after_objects) e

    module _ {os : List Object} {past_objects : Cursor} (o : objects_of version file ≡ Ok (os, past_objects)) where
      some_objects : read_file version file ≡ after_objects os past_objects
      some_objects = read_by_parts file version fits ∙ ap (λ r. behind r after_objects) o

      pub no_sets : {q : Refusal} → sets_of version (length os) file past_objects.at ≡ Err q → read_file version file ≡ Reading.refused q
      no_sets e = some_objects ∙ ap (λ r. behind r (after_sets os)) e

      module _ {ss : List (List ℕ)} {past_sets : Cursor} (s : sets_of version (length os) file past_objects.at ≡ Ok (ss, past_sets)) where
        abbrev after_code : List Instr → Cursor → Reading
        after_code code next = ends_there file (record { objects = os; sets = ss; code = code }) next

        some_sets : read_file version file ≡ after_sets os ss past_sets
        some_sets = some_objects ∙ ap (λ r. behind r (after_sets os)) s

        pub no_code : {q : Refusal} → code_of version (kinds_of os) (length ss) file past_sets.at ≡ Err q → read_file version file ≡ Reading.refused q
        no_code e = some_sets ∙ ap (λ r. behind r after_code) e

        module _ {is : List Instr} {next : Cursor} (k : code_of version (kinds_of os) (length ss) file past_sets.at ≡ Ok (is, next)) where
          pub bytes_behind : (next.at ≡ length file → ⊥) → read_file version file ≡ Reading.refused (refusal Cause.Surplus next.at)
          bytes_behind h = some_sets ∙ ap (λ r. behind r after_code) k ∙ simp (ne_eqb _ _ h, ends_there)

          pub all_read : next.at ≡ length file → read_file version file ≡ whole (record { objects = os; sets = ss; code = is })
          all_read e = some_sets ∙ ap (λ r. behind r after_code) k ∙ simp (eq-eqb _ _ e, ends_there)

-- ---- what is handed from part to part

module _ (os : List Object) {o : Objects} (e : o ≡ objects_held os) where
  pub held_count : o.count ≡ length os
  held_count = ap (λ (o : Objects). o.count) e

  pub held_list : take o.count o.list ≡ os
  held_list = ap (λ (o : Objects). take o.count o.list) e ∙ take-filled 400 blank os (length os) refl

  module _ (version : ℕ) (file : List ℕ) (at : ℕ) where
    pub sets_behind : (r : Result Cursor Refusal) (s : Sets) → Holds sets_held (sets_of version o.count file at) r s
        → Holds sets_held (sets_of version (length os) file at) r s
    sets_behind r s f = subst (λ (n : ℕ). Holds sets_held (sets_of version n file at) r s) held_count f

    pub code_behind : (ss : List (List ℕ)) {s : Sets} (r : Result Cursor Refusal) (k : Code) → s ≡ sets_held ss
        → Holds code_held (code_of version (kinds_of (take o.count o.list)) s.count file at) r k
        → Holds code_held (code_of version (kinds_of os) (length ss) file at) r k
    code_behind ss {s} r k g f =
        subst
        (λ (a : Answer (List Instr)). Holds code_held a r k)
        (ap₂ (λ (l : List Object) (s : Sets). code_of version (kinds_of l) s.count file at) held_list g)
        f

pub held_all : (os : List Object) (ss : List (List ℕ)) (is : List Instr) {o : Objects} {s : Sets} {k : Code}
    → o ≡ objects_held os → s ≡ sets_held ss → k ≡ code_held is
    → ◌≡◌ {A = Loaded} (record { objects = o; sets = s; code = k }) (held_as (record { objects = os; sets = ss; code = is }))
held_all os ss is e f g i = record { objects = e i; sets = f i; code = g i }
