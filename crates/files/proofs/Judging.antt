-- What judging a number answers: the refusal of its reading, a refusal of its own, or the number.
use mathlib.Core.Path.{◌≡◌, refl, sym, ap, ap₂, ◌∙◌}
use mathlib.Core.List.{List, ◌++◌}
use mathlib.Core.Bool.{Bool, true, false}
use Prim.Native.Nat.{ℕ, ◌+◌, ◌^◌, ◌<◌, ◌≤◌}
use native.Mathlib.Omega.{arith}
use lib.ListN.{length, drop}
use borrow.Author.Tests.{eqb-true}
use Rattle.std.specs.Prelude.{Ok, Err}
use Rattle.numbers.specs.Refusals.{refusal}
use Rattle.numbers.specs.declared.refusal.Cause.{Cause}
use Rattle.numbers.specs.declared.Cursor.{Cursor}
use Rattle.numbers.specs.declared.refusal.Refusal.{Refusal}
use Rattle.numbers.specs.Number.{Read}
use Rattle.numbers.specs.Number.{read_number}
use Rattle.numbers.proofs.Laws.{spelled_of_read, read_of_spelled}
use Rattle.files.specs.Program.{most_code}
use Rattle.files.specs.Reading.{judge, judged}
use Rattle.files.specs.Writing.{spell_if}
use Rattle.files.specs.Parsing.{cursor}
use Rattle.files.proofs.Answered.{same_thing, same_cursor}

module _ (why : Cause) (test : ℕ → Bool) (file : List ℕ) (at : ℕ) where
  pub not_read : {q : Refusal} → read_number file at ≡ Err q → judged why test file at ≡ Err q
  not_read e = ap (judge why at test) e

  pub failed : {n : ℕ} {next : Cursor} → read_number file at ≡ Ok (n, next) → test n ≡ false
      → judged why test file at ≡ Err (refusal why at)
  failed e f = ap (judge why at test) e ∙ simp (f, judge)

  pub passed : {n : ℕ} {next : Cursor} → read_number file at ≡ Ok (n, next) → test n ≡ true
      → judged why test file at ≡ Ok (n, next)
  passed e f = ap (judge why at test) e ∙ simp (f, judge)

  -- a number that is judged good was read, and passed the test
  pub record Good (n : ℕ) (next : Cursor) : Type 0 where
    pub read : read_number file at ≡ Ok (n, next)
    pub right : test n ≡ true

  pub good : {n : ℕ} {next : Cursor} → judged why test file at ≡ Ok (n, next) → Good n next
  good {n} {next} e = go (read_number file at) refl
    where
      kept : (m : ℕ) (c : Cursor) (b : Bool) → test m ≡ b → read_number file at ≡ Ok (m, c) → Good n next
      kept m c true t r =
          let same : ◌≡◌ {A = Read} (Ok (m, c)) (Ok (n, next)) = sym (passed r t) ∙ e in
          let left : m ≡ n = same_thing same in
          let right : c ≡ next = same_cursor same in
          record { read = rw (left, right) at r; right = rw left at t }
      kept m c false t r =
          let clash : ◌≡◌ {A = Read} (Err (refusal why at)) (Ok (n, next)) = sym (failed r t) ∙ e in
          let z : ◌≡◌ {A = ℕ} 0 1 = cc in
          absurd (omega arith)

      go : (r : Read) → read_number file at ≡ r → Good n next
      go (Ok (m, c)) r = kept m c (test m) refl r
      go (Err q) r =
          let clash : ◌≡◌ {A = Read} (Err q) (Ok (n, next)) = sym (not_read r) ∙ e in
          let z : ◌≡◌ {A = ℕ} 0 1 = cc in
          absurd (omega arith)

-- ---- a field: a number that is judged where it stands in the file, and 0 where it does not

abbrev pub field : Bool → Cause → (ℕ → Bool) → List ℕ → (at : ℕ) → Read
field stands why test file at = elim stands [ true ↦ judged why test file at | false ↦ Ok (0, cursor at) ]

abbrev pub right : Bool → (ℕ → Bool) → ℕ → Bool
right stands test n = elim stands [ true ↦ test n | false ↦ lib.Dec.eqb n 0 ]

-- a field of the value n stands from `at` on, and `next` is behind it
pub record Field (b : Bool) (test : ℕ → Bool) (file : List ℕ) (at n : ℕ) (next : Cursor) : Type 0 where
  pub good : right b test n ≡ true
  pub stands : drop at file ≡ spell_if b n ++ drop next.at file
  pub ends : next.at ≡ at + length (spell_if b n)
  pub small : n < 2 ^ 32

module _ (why : Cause) (test : ℕ → Bool) (file : List ℕ) (at : ℕ) {n : ℕ} {next : Cursor} where
  pub field_of_read : (b : Bool) → field b why test file at ≡ Ok (n, next) → Field b test file at n next
  field_of_read true e =
      let g = good why test file at e in
      let s = spelled_of_read file at g.read in
      record { good = g.right; stands = s.stands; ends = s.ends; small = s.small }
  field_of_read false e =
      let value : n ≡ 0 = sym (same_thing e) in
      let behind : next ≡ cursor at = sym (same_cursor e) in
      rw (value, behind) (record { good = refl; stands = refl; ends = omega arith; small = omega arith })

  pub read_of_field : (b : Bool) → Field b test file at n next → field b why test file at ≡ Ok (n, next)
  read_of_field true f =
      passed why test file at (read_of_spelled file at (record { stands = f.stands; ends = f.ends; small = f.small })) f.good
  read_of_field false f =
      let value : 0 ≡ n = sym (eqb-true n 0 f.good) in
      let behind : at ≡ next.at = omega (arith, f.ends) in
      ap₂ (λ (m a : ℕ). Ok (m, cursor a)) value behind

  -- where the test keeps a number small, the field is small
  pub field_small : (b : Bool) (k : ℕ) → ((m : ℕ) → test m ≡ true → m ≤ k) → field b why test file at ≡ Ok (n, next) → n ≤ k
  field_small true k h e = h n (good why test file at e).right
  field_small false k h e = let value : 0 ≡ n = same_thing e in omega arith

pub most_small : (version : ℕ) → most_code version ≤ 2000
most_small version = go (lib.Dec.eqb version 1) refl
  where
    go : (b : Bool) → lib.Dec.eqb version 1 ≡ b → most_code version ≤ 2000
    go true e = simp (e, most_code) (omega arith)
    go false e = simp (e, most_code) (omega arith)
