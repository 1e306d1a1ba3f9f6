-- Reading and spelling are one, from a number up: what is read at a place of a file is what is spelled
-- there. `Stands file at bytes next` says that the bytes stand in the file from `at` up to `next`. Each
-- law about a reader comes in two directions: what is read stands there and is good (`..-of-read`), and
-- what is good and stands there is read (`read-of-..`).
use Prim.Native.Nat.{ℕ, ◌+◌, ◌^◌, ◌<◌}
use mathlib.Core.Path.{◌≡◌, refl, sym, ap, ◌∙◌}
use mathlib.Core.List.{List, [], ◌++◌, append_assoc}
use mathlib.Core.Bool.{Bool, true, false}
use native.Mathlib.Omega.{arith}
use lib.ListN.{length, drop, length-append}
use lib.Seq.{drop-drop, drop-append_seam}
use lib.Dec.{eqb}
use borrow.Author.Tests.{eqb-true}
use Rattle.std.specs.Prelude.{Ok, Err}
use Rattle.numbers.specs.Refusals.{refusal}
use Rattle.numbers.specs.declared.refusal.Cause.{Cause}
use Rattle.numbers.specs.declared.Cursor.{Cursor}
use Rattle.numbers.specs.Number.{Read}
use Rattle.numbers.specs.Number.{spell, read_number}
use Rattle.numbers.proofs.Laws.{spelled_of_read, read_of_spelled}
use Rattle.files.specs.Reading.{judge, judged}
use Rattle.files.specs.Writing.{spell_if}
use Rattle.files.proofs.Answered.{same_thing, same_cursor}
use Rattle.files.specs.Parsing.{cursor}

pub record Stands (file : List ℕ) (at : ℕ) (bytes : List ℕ) (next : ℕ) : Type 0 where
  pub stands : drop at file ≡ bytes ++ drop next file
  pub ends : next ≡ at + length bytes

-- nothing stands anywhere
pub stands_nil : (file : List ℕ) (at : ℕ) → Stands file at [] at
stands_nil file at = record { stands = refl; ends = omega arith }

pub stands_append : {file : List ℕ} {at mid next : ℕ} (xs ys : List ℕ) → Stands file at xs mid → Stands file mid ys next → Stands file at (xs ++ ys) next
stands_append {file} {at} {mid} {next} xs ys p q =
    record {
      stands = p.stands ∙ ap (λ (l : List ℕ). xs ++ l) q.stands ∙ sym (append_assoc xs ys (drop next file));
      ends = omega (arith, p.ends, q.ends, length-append xs ys);
    }

-- what stands there stands there part by part
pub stands_split : {file : List ℕ} {at next : ℕ} (xs ys : List ℕ) → Stands file at (xs ++ ys) next
    → Stands file at xs (at + length xs) × Stands file (at + length xs) ys next
stands_split {file} {at} {next} xs ys p =
    let whole : drop at file ≡ xs ++ (ys ++ drop next file) = p.stands ∙ append_assoc xs ys (drop next file) in
    let behind : drop (at + length xs) file ≡ ys ++ drop next file = sym (drop-drop (length xs) at file) ∙ ap (drop (length xs)) whole ∙ drop-append_seam xs (ys ++ drop next file) in (
      record { stands = whole ∙ ap (λ (l : List ℕ). xs ++ l) (sym behind); ends = refl },
      record { stands = behind; ends = omega (arith, p.ends, length-append xs ys) },
    )

-- ---- a number that passes a test

pub record Judged (file : List ℕ) (at : ℕ) (test : ℕ → Bool) (n next : ℕ) : Type 0 where
  pub stood : Stands file at (spell n) next
  pub passes : test n ≡ true
  pub small : n < 2 ^ 32

pub judged_of_read : (why : Cause) (test : ℕ → Bool) (file : List ℕ) (at : ℕ) {n : ℕ} {c : Cursor} → judged why test file at ≡ Ok (n, c) → Judged file at test n c.at
judged_of_read why test file at {n} {c} e = go (read_number file at) refl e
  where
    tested : (m : ℕ) (d : Cursor) (b : Bool) → test m ≡ b → read_number file at ≡ Ok (m, d)
        → elim b as (λ _. Read) [ true ↦ Ok (m, d) | false ↦ Err (refusal why at) ] ≡ Ok (n, c) → Judged file at test n c.at
    tested m d true t r e =
        let same : m ≡ n = same_thing e in
        let s = spelled_of_read file at (r ∙ e) in
        record { stood = record { stands = s.stands; ends = s.ends }; passes = rw (← same) t; small = s.small }
    tested m d false t r e = let z : ◌≡◌ {A = ℕ} 0 1 = cc in absurd (omega arith)

    go : (r : Read) → read_number file at ≡ r → judge why at test r ≡ Ok (n, c) → Judged file at test n c.at
    go (Ok (m, d)) r e = tested m d (test m) refl r e
    go (Err q) r e = let z : ◌≡◌ {A = ℕ} 0 1 = cc in absurd (omega arith)

pub read_of_judged : (why : Cause) (test : ℕ → Bool) (file : List ℕ) (at : ℕ) {n next : ℕ} → Judged file at test n next → judged why test file at ≡ Ok (n, cursor next)
read_of_judged why test file at {n} {next} j =
    let r : read_number file at ≡ Ok (n, cursor next) = read_of_spelled file at (record { stands = j.stood.stands; ends = j.stood.ends; small = j.small }) in
    ap (judge why at test) r ∙ simp (j.passes, judge)

-- ---- a number that stands in the file or does not

abbrev pub optional : Bool → Cause → (ℕ → Bool) → List ℕ → (at : ℕ) → Read
optional b why test file at = elim b [ true ↦ judged why test file at | false ↦ Ok (0, cursor at) ]

abbrev pub good_if : Bool → (ℕ → Bool) → ℕ → Bool
good_if b test n = elim b [ true ↦ test n | false ↦ eqb n 0 ]

pub record Optional (file : List ℕ) (at : ℕ) (b : Bool) (test : ℕ → Bool) (n next : ℕ) : Type 0 where
  pub stood : Stands file at (spell_if b n) next
  pub passes : good_if b test n ≡ true
  pub small : n < 2 ^ 32

pub optional_of_read : (b : Bool) (why : Cause) (test : ℕ → Bool) (file : List ℕ) (at : ℕ) {n : ℕ} {c : Cursor}
    → optional b why test file at ≡ Ok (n, c) → Optional file at b test n c.at
optional_of_read true why test file at e =
    let j = judged_of_read why test file at e in
    record { stood = j.stood; passes = j.passes; small = j.small }
optional_of_read false why test file at {n} {c} e =
    let none : n ≡ 0 = sym (same_thing e) in
    let here : c ≡ cursor at = sym (same_cursor e) in
    record { stood = rw here (stands_nil file at); passes = rw none; small = omega arith }

-- a test passes only numbers of 32 bits, where that is asked
pub read_of_optional : (b : Bool) (why : Cause) (test : ℕ → Bool) (file : List ℕ) (at : ℕ) {n next : ℕ}
    → Optional file at b test n next → optional b why test file at ≡ Ok (n, cursor next)
read_of_optional true why test file at j =
    read_of_judged why test file at (record { stood = j.stood; passes = j.passes; small = j.small })
read_of_optional false why test file at {n} {next} j =
    let none : n ≡ 0 = eqb-true n 0 j.passes in
    let here : next ≡ at = omega (arith, j.stood.ends) in
    rw (none, here)
