-- Which bytes decide how a number is read: those of its spelling; or all of the file, where it ends inside a
-- number; or those up to an end where no number begins so. By induction on the groups that may still come,
-- with one fact: every file with the same groups up to here reads on in the same way. That a number begins
-- with what is left of a file that ends is seen by putting 1 behind it, and that none begins so, by putting
-- the number there: both are then read.
use Prim.Native.Nat.{ℕ, zero, suc, ◌+◌, ◌*◌, ◌%◌, ◌^◌, ◌<◌, ◌≤◌}
use mathlib.Core.Path.{◌≡◌, refl, sym, ap, ◌∙◌}
use mathlib.Core.List.{List, [], ◌∷◌, ◌++◌, append-nil}
use mathlib.Core.Bool.{Bool, true, false}
use native.Mathlib.Omega.{arith}
use native.Mathlib.Decide.{dec_lt}
use lib.ListN.{length, get_or, take, drop, length-append, length-drop, take-append-drop}
use lib.Seq.{drop-append-le, drop-append_seam, take-append_seam, take_all, take-take, length-take-le, get_or-drop}
use lib.Dec.{ltb, leb}
use borrow.Author.Tests.{lt-ltb, le-ltb}
use Rattle.std.specs.Prelude.{Ok}
use Rattle.numbers.specs.declared.Cursor.{Cursor}
use Rattle.numbers.specs.Number.{Read}
use Rattle.numbers.specs.Number.{spell, width, read_groups, read_number, ends_early, bad_number, largest, shortest}
use Rattle.numbers.proofs.Laws.{read_bounds, one_spelling, reads_back}
use Rattle.refusals.specs.Why.{Begins, NoNumberBegins, part}
use Rattle.refusals.proofs.Agreeing.{begins_behind, Agrees, agrees_itself, agrees_more, agrees_begun, agrees_earlier, agrees_byte}

-- how the number at a place is read: it is a number; or the file ends inside the beginning of one; or its
-- bytes up to an end are the beginning of none, and every file with the same bytes up to there is refused
pub data Told (file : List ℕ) (first : ℕ) : Type 0 where
  fine : (n : ℕ) (c : Cursor) → read_number file first ≡ Ok (n, c) → Told file first
  early : (n : ℕ) → n ≤ 4294967295 → Begins (drop first file) (spell n) → length file < first + width n
      → read_number file first ≡ ends_early file → Told file first
  bad : (end : ℕ) → first < end → end ≤ length file
      → ((other : List ℕ) → Agrees end file other → read_number other first ≡ bad_number first) → Told file first

-- a turn of the reading at a byte: whether it may stand there, ends the number, and is shortest
abbrev turn : (left : ℕ) → List ℕ → (first i value byte : ℕ) → (allowed final short : Bool) → Read
turn left l first i value byte allowed final short =
    elim allowed [
      | false ↦ bad_number first
      | true ↦
          elim final [
            | false ↦ read_groups left l first (i + 1) (value + byte % 128 * 2 ^ (7 * i))
            | true ↦
                elim short [
                  | false ↦ bad_number first
                  | true ↦ Ok (value + byte * 2 ^ (7 * i), record { at = first + i + 1 })
                ]
          ]
    ]

-- the same, with the three tests made
abbrev turn_at : (left : ℕ) → List ℕ → (first i value byte : ℕ) → Read
turn_at left l first i value byte = turn left l first i value byte (leb byte (largest i)) (ltb byte 128) (shortest i byte)

module _ (left first i value : ℕ) where
  -- behind the file, and at a byte of it
  past : (l : List ℕ) → length l ≤ first + i → read_groups (suc left) l first i value ≡ ends_early l
  unfolding read_groups
  past l out = rw (le-ltb _ _ out, read_groups)

  turned : (l : List ℕ) (byte : ℕ) → first + i < length l → get_or l (first + i) 0 ≡ byte
      → read_groups (suc left) l first i value ≡ turn_at left l first i value byte
  unfolding read_groups
  turned l byte inside is =
      let here : read_groups (suc left) l first i value ≡ turn_at left l first i value (get_or l (first + i) 0) = rw (lt-ltb _ _ inside, read_groups) in
      here ∙ ap (turn_at left l first i value) is

-- 1 may stand as any group
one_allowed : (below : Bool) → leb 1 (elim below [ true ↦ 255 | false ↦ 15 ]) ≡ true
one_allowed true = refl
one_allowed false = refl

module _ (file : List ℕ) (first : ℕ) where
  -- i groups are read; in every file with these groups what is left to read answers what the whole does
  abbrev Rests : (left i value : ℕ) → Type 0
  Rests left i value = (other : List ℕ) → Agrees (first + i) file other → read_number other first ≡ read_groups left other first i value

  -- a file that ends after i groups: with 1 behind them it has a number there
  begun : (left i value : ℕ) → i < 5 → length file ≡ first + i → Rests (suc left) i value → Told file first
  begun left i value limit ends rests =
      let longer : List ℕ = file ++ 1 ∷ [] in
      let long : length longer ≡ first + i + 1 = omega (arith, length-append file (1 ∷ [])) in
      let seam : length file + 0 ≡ first + i = omega arith in
      let one : get_or longer (first + i) 0 ≡ 1 =
      ap (λ (k : ℕ). get_or longer k 0) (sym seam) ∙ sym (get_or-drop (length file) longer 0 0)
      ∙ ap (λ (l : List ℕ). get_or l 0 0) (drop-append_seam file (1 ∷ [])) in
      let read : read_number longer first ≡ Ok (value + 1 * 2 ^ (7 * i), record { at = first + i + 1 }) =
      rests longer (agrees_more file (omega arith) (1 ∷ [])) ∙ turned left first i value longer 1 (omega arith) one
      ∙ ap (λ (t : Bool). turn left longer first i value 1 t true true) (one_allowed (ltb i 4)) in
      let (behind, inside, small, wide) = read_bounds longer first read in
      let n : ℕ = value + 1 * 2 ^ (7 * i) in
      let spelled : spell n ≡ drop first file ++ 1 ∷ [] =
      sym (one_spelling longer first read) ∙ take_all (width n) (drop first longer) (omega (arith, length-drop first longer))
      ∙ drop-append-le first file (1 ∷ []) (omega arith) in
      early n (omega arith) (ap (take (length (drop first file))) spelled ∙ take-append_seam (drop first file) (1 ∷ []))
      (omega arith)
      (rests file (agrees_itself file (omega arith)) ∙ past left first i value file (omega arith))

  -- a turn inside the file: `more` is what follows where another group comes
  inside : (left i value : ℕ) → first + i < length file → Rests (suc left) i value
      → (Rests left (i + 1) (value + get_or file (first + i) 0 % 128 * 2 ^ (7 * i)) → Told file first) → Told file first
  inside left i value here rests more =
      go (leb byte (largest i)) (ltb byte 128) (shortest i byte) same
    where
      byte : ℕ
      byte = get_or file (first + i) 0

      same : (other : List ℕ) → Agrees (first + i + 1) file other → read_number other first ≡ turn_at left other first i value byte
      same other agrees =
          rests other (agrees_earlier agrees (first + i) (omega arith))
          ∙ turned left first i value other byte (omega (arith, agrees.long)) (agrees_byte agrees (first + i) (omega arith))

      go : (allowed final short : Bool)
          → ((other : List ℕ) → Agrees (first + i + 1) file other → read_number other first ≡ turn left other first i value byte allowed final short)
          → Told file first
      go false final short told = bad (first + i + 1) (omega arith) (omega arith) told
      go true false short told =
          more (λ other agrees. told other (agrees_earlier agrees (first + i + 1) (omega arith)))
      go true true false told = bad (first + i + 1) (omega arith) (omega arith) told
      go true true true told = fine _ _ (told file (agrees_itself file (omega arith)))

  -- by induction on the groups that may still come
  telling : (left i value : ℕ) → i + left ≡ 5 → first + i ≤ length file → Rests left i value → Told file first
  unfolding read_groups
  telling zero i value five within rests = bad (first + i) (omega arith) within rests
  telling (suc left) i value five within rests =
      elim (dec_lt (first + i) (length file)) [
        | yes here ↦ inside left i value here rests (telling left (i + 1) _ (omega arith) (omega arith))
        | no out ↦ begun left i value (omega arith) (omega arith) rests
      ]

  -- every number of a file is read in one of the three ways
  pub told : first ≤ length file → Told file first
  told within = telling 5 0 0 refl (omega arith) (λ other agrees. refl)

  -- where it is refused with 3, no number begins with the bytes up to the end
  pub begins_none : (end : ℕ) → first < end → end ≤ length file
      → ((other : List ℕ) → Agrees end file other → read_number other first ≡ bad_number first) → NoNumberBegins (part file first end)
  begins_none end some within refused n small begins =
      let before : List ℕ = take first file in
      let other : List ℕ = before ++ spell n ++ [] in
      let cut : take end file ≡ before ++ part file first end =
      sym (take-append-drop first (take end file)) ∙ ap (λ (l : List ℕ). l ++ part file first end) (take-take first end file (omega arith)) in
      let spelled : before ++ spell n ≡ other = sym (append-nil (before ++ spell n)) in
      let begun : Begins (take end file) (before ++ spell n) = rw cut (begins_behind before (part file first end) (spell n) begins) in
      let agrees : Agrees end file other = rw spelled at (agrees_begun file within (before ++ spell n) begun) in
      let at : length before ≡ first = length-take-le first file (omega arith) in
      let read = rw at at (reads_back before [] n (omega arith)) in
      let answer = refused other agrees in
      let z : ◌≡◌ {A = ℕ} 0 1 = cc in
      omega arith
