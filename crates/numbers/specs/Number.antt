-- 01, "Numbers and files", first paragraph: how a number is spelled, and what reading and writing one
-- answers.
use Rattle.std.specs.Prelude.{ℕ, zero, suc, ◌+◌, ◌*◌, ◌/◌, ◌%◌, ◌^◌, List, [], ◌∷◌, Bool, true, false, Option, None, Some, Result, Ok, Err, length, get_or, ltb, leb, eqb}
use Rattle.std.proofs.lemmas.List.Edits.{sets}
use Rattle.numbers.specs.declared.Cursor.{Cursor}
use Rattle.numbers.specs.declared.refusal.Refusal.{Refusal}
use Rattle.numbers.specs.declared.refusal.Cause.{Cause}
use Rattle.numbers.specs.Refusals.{refusal}

-- what reading a number answers: the value with the cursor behind it, or a refusal
abbrev pub Read : Type 0
Read = Result (ℕ × Cursor) Refusal

-- "A number is 0 to 4,294,967,295 in groups of seven bits, low group first; the top bit of a byte
-- says that another follows. Only the shortest form is good": the bytes of n, at most `most` of them.
unfoldable pub groups : (most : ℕ) → ℕ → List ℕ
groups zero n = []
groups (suc most) n =
    elim (ltb n 128) [ true ↦ n ∷ [] | false ↦ (n % 128 + 128) ∷ groups most (n / 128) ]

-- the spelling of a number: five groups hold 35 bits
abbrev pub spell : ℕ → List ℕ
spell n = groups 5 n

-- how many bytes a number takes
abbrev pub width : ℕ → ℕ
width n = length (spell n)

-- "2 | file ends early | its length"
abbrev pub ends_early : List ℕ → Read
ends_early file = Err (refusal Cause.EndsEarly (length file))

-- "3 | number not shortest or above 32 bits | its first byte"
abbrev pub bad_number : ℕ → Read
bad_number first = Err (refusal Cause.BadNumber first)

-- the largest byte that may stand as group i: "a fifth byte above 15 is refused with 3 at once"
abbrev pub largest : ℕ → ℕ
largest i = elim (ltb i 4) [ true ↦ 255 | false ↦ 15 ]

-- "Only the shortest form is good": a last group is 0 only where it is the only one
abbrev pub shortest : (i byte : ℕ) → Bool
shortest i byte = elim (eqb byte 0) [ false ↦ true | true ↦ eqb i 0 ]

-- The number that starts at `first`, read on from its group `i`, of which `left` may still come;
-- the groups before hold `value`.
unfoldable pub read_groups : (left : ℕ) → List ℕ → (first i value : ℕ) → Read
read_groups zero file first i value = bad_number first
read_groups (suc left) file first i value =
    elim (ltb (first + i) (length file)) [
      | false ↦ ends_early file
      | true ↦
          elim (leb (get_or file (first + i) 0) (largest i)) [
            | false ↦ bad_number first
            | true ↦
                elim (ltb (get_or file (first + i) 0) 128) [
                  | false ↦ read_groups left file first (i + 1) (value + get_or file (first + i) 0 % 128 * 2 ^ (7 * i))
                  | true ↦
                      elim (shortest i (get_or file (first + i) 0)) [
                        | false ↦ bad_number first
                        | true ↦ Ok (value + get_or file (first + i) 0 * 2 ^ (7 * i), record { at = first + i + 1 })
                      ]
                ]
          ]
    ]

-- what reading a number at a cursor answers, for any bytes and any cursor
abbrev pub read_number : List ℕ → ℕ → Read
read_number file at = read_groups 5 file at 0 0

-- whether a number's spelling fits a room from a place on
abbrev pub fits_at : (room : List ℕ) (at n : ℕ) → Bool
fits_at room at n = leb (at + width n) (length room)

-- the answer by 01's number: "10 | room .. too small", or where the number ends
abbrev pub written_for : (number end : ℕ) → Option ℕ
written_for number end = elim (eqb number 10) [ true ↦ None | false ↦ Some end ]

-- what writing a number at a place of a room answers
abbrev pub written_at : (room : List ℕ) (at n : ℕ) → Option ℕ
written_at room at n = elim (fits_at room at n) [ true ↦ written_for 0 (at + width n) | false ↦ written_for 10 0 ]

-- the room afterwards: the spelling stands at the place and all else is as it was; what does not fit
-- changes no byte
abbrev pub room_after : (room : List ℕ) (at n : ℕ) → List ℕ
room_after room at n = elim (fits_at room at n) [ true ↦ sets room at (spell n) | false ↦ room ]
