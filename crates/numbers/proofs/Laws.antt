-- What the crates above may use of numbers: laws on the definitions of specs/Number.antt.
use mathlib.Core.Path.{◌≡◌, refl, sym, ap, ◌∙◌}
use mathlib.Core.List.{List, ◌++◌, append_assoc}
use mathlib.Core.Logic.{◌⊎◌}
use Prim.Native.Nat.{ℕ, ◌+◌, ◌^◌, ◌<◌, ◌≤◌}
use native.Mathlib.Omega.{arith}
use lib.ListN.{length, take, drop, length-drop, length-append, take-append-drop}
use lib.Seq.{sets, sets-eq, drop-append-le, drop-append-add, drop-append_seam, take-append_seam, take_at, length-take-le}
use borrow.Author.Tests.{le-leb, lt-leb}
use Rattle.std.specs.Prelude.{Some, None, Ok, Err}
use Rattle.numbers.specs.Refusals.{refusal}
use Rattle.numbers.specs.declared.refusal.Cause.{Cause}
use Rattle.numbers.specs.Number.{spell, width, read_number}
use Rattle.numbers.specs.Number.{fits_at, written_at, room_after}
use Rattle.numbers.specs.declared.Cursor.{Cursor}
use Rattle.numbers.specs.declared.refusal.Refusal.{Refusal}
use Rattle.numbers.proofs.Reading.{start}
use Rattle.numbers.proofs.Outcome.{Outcome, refused, number, outcome, reads}
-- ---- the spelling: one byte below 128, else the low group with the top bit and the spelling of the rest; its
-- elements are bytes, one to five of them
pub use Rattle.numbers.proofs.Spelling.{spell_last, spell_more, spell_byte}
pub use Rattle.numbers.proofs.Spelling.{width_last, width_more, width_least, width_most}

-- ---- reading and spelling are one

-- n is spelled from `at` on, and c is behind it
pub record Spelled (file : List ℕ) (at n : ℕ) (c : Cursor) : Type 0 where
  pub stands : drop at file ≡ spell n ++ drop c.at file
  pub ends : c.at ≡ at + width n
  pub small : n < 2 ^ 32

module _ (file : List ℕ) (at : ℕ) {n : ℕ} {c : Cursor} where
  pub spelled_of_read : read_number file at ≡ Ok (n, c) → Spelled file at n c
  spelled_of_read e = go (outcome 5 refl (start file at))
    where
      go : Outcome 5 file at at 0 0 → Spelled file at n c
      go (refused q this which) = let z : ◌≡◌ {A = ℕ} 0 1 = cc in absurd (omega arith)
      go (number n' c' this f) =
          let both : ◌≡◌ {A = ℕ × Cursor} (n, c) (n', c') = cc in
          let value : n ≡ n' = ap (λ r. r.0) both in
          let behind : c ≡ c' = ap (λ r. r.1) both in
          let is : f.rest ≡ n = omega (arith, f.sum) in
          rw behind
          (record { stands = rw is at f.stands; ends = rw is at f.ends; small = rw value f.small })

  pub read_of_spelled : Spelled file at n c → read_number file at ≡ Ok (n, c)
  read_of_spelled p =
      reads 5 refl (start file at)
      (record {
        rest = n;
        sum = omega arith;
        shortly = λ _. refl;
        stands = p.stands;
        ends = p.ends;
        small = p.small;
      })

  -- a number that is read ends behind its start, inside the file, and has 32 bits
  pub read_bounds : read_number file at ≡ Ok (n, c)
      → (at < c.at) × (c.at ≤ length file) × (n < 2 ^ 32) × (c.at ≡ at + width n)
  read_bounds e =
      let p = spelled_of_read e in
      let lengths = simp (length-drop, length-append) at (ap length p.stands) in
      let ends = p.ends in
      let least = width_least n in
      (omega arith, omega arith, p.small, p.ends)

  -- what reads as a number is byte for byte what the writer writes for it
  pub one_spelling : read_number file at ≡ Ok (n, c) → take (width n) (drop at file) ≡ spell n
  one_spelling e = ap (take (width n)) (spelled_of_read e).stands ∙ take-append_seam (spell n) (drop c.at file)

-- a refusal is one of 2 and 3, with 01's place
pub refusal_is_2_or_3 : (file : List ℕ) (at : ℕ) {q : Refusal} → read_number file at ≡ Err q
    → (q ≡ refusal Cause.EndsEarly (length file)) ⊎ (q ≡ refusal Cause.BadNumber at)
refusal_is_2_or_3 file at {q} e = go (outcome 5 refl (start file at))
  where
    go : Outcome 5 file at at 0 0
        → (q ≡ refusal Cause.EndsEarly (length file)) ⊎ (q ≡ refusal Cause.BadNumber at)
    go (refused q' this which) = let same : q ≡ q' = cc in rw same which
    go (number n c this f) = let z : ◌≡◌ {A = ℕ} 0 1 = cc in absurd (omega arith)

-- what is written reads back, whatever stands around it
pub reads_back : (before after : List ℕ) (n : ℕ) → n < 2 ^ 32
    → read_number (before ++ spell n ++ after) (length before) ≡ Ok (n, record { at = length before + width n })
reads_back before after n h =
    read_of_spelled (before ++ spell n ++ after) (length before)
    (record {
      stands = rw (append_assoc, drop-append_seam, drop-append-add, drop-append_seam);
      ends = refl;
      small = h;
    })

-- a part, cut at c
cut : (l : List ℕ) (at c : ℕ) → at ≤ c → c ≤ length l → drop at l ≡ drop at (take c l) ++ drop c l
cut l at c h b =
    ap (drop at) (sym (take-append-drop c l)) ∙ drop-append-le at (take c l) (drop c l) (rw (length-take-le c l b) h)

-- reading never looks past its number
pub read_prefix : (file other : List ℕ) (at : ℕ) {n : ℕ} {c : Cursor} → take c.at file ≡ take c.at other
    → c.at ≤ length other → read_number file at ≡ Ok (n, c) → read_number other at ≡ Ok (n, c)
read_prefix file other at {n} {c} agree within e =
    let (behind, inside, small, ends) = read_bounds file at e in
    let part : List ℕ = drop at (take c.at file) in
    let long : length part ≡ width n = rw (length-drop, length-take-le c.at file inside) (omega arith) in
    let spelled : part ≡ spell n =
    sym (take_at part (drop c.at file) (width n) long)
    ∙ ap (take (width n)) (sym (cut file at c.at (omega arith) inside)) ∙ one_spelling file at e in
    read_of_spelled other at
    (record {
      stands = cut other at c.at (omega arith) within ∙ rw (← agree, spelled);
      ends = ends;
      small = small;
    })

-- ---- what writing answers and leaves, where the spelling fits and where it does not

module _ (room : List ℕ) (at n : ℕ) where
  pub written : at + width n ≤ length room
      → (written_at room at n ≡ Some (at + width n)) × (room_after room at n ≡ sets room at (spell n))
  written h = (simp (le-leb _ _ h, fits_at, written_at), simp (le-leb _ _ h, fits_at, room_after))

  pub not_written : length room < at + width n → (written_at room at n ≡ None) × (room_after room at n ≡ room)
  not_written h = (simp (lt-leb _ _ h, fits_at, written_at), simp (lt-leb _ _ h, fits_at, room_after))

  -- the writer's room reads back
  pub reads_written : at + width n ≤ length room → n < 2 ^ 32
      → read_number (room_after room at n) at ≡ Ok (n, record { at = at + width n })
  reads_written h b =
      let placed : length (take at room) ≡ at = length-take-le at room (omega arith) in
      rw ((written h).1, sets-eq (spell n) room at h)
      (rw placed at (reads_back (take at room) (drop (at + width n) room) n b))
