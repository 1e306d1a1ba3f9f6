-- 01, "Numbers that come back", 1 to 7: why a file is not read, in words of its bytes. A good file is the
-- spelling of a program that a file of its version can say.
use Rattle.std.specs.Prelude.{ℕ, ◌+◌, ◌^◌, ◌≤◌, ◌<◌, ◌≡◌, List, true, length, take, drop}
use Rattle.numbers.specs.declared.refusal.Cause.{Cause}
use Rattle.numbers.specs.Refusals.{refusal_number, refusal}
use Rattle.numbers.specs.declared.refusal.Refusal.{Refusal}
use Rattle.numbers.specs.Number.{spell, width}
use Rattle.files.specs.Program.{Program, longest}
use Rattle.files.specs.Reading.{Sort, refused_with, Reading, read_file}
use Rattle.files.specs.Writing.{good_program, spell_file, Says}

-- a list begins with these bytes
abbrev pub Begins : (bytes list : List ℕ) → Type 0
Begins bytes list = take (length bytes) list ≡ bytes

-- no good file begins with these bytes
abbrev pub NoneBegins : (version : ℕ) (bytes : List ℕ) → Type 0
NoneBegins version bytes = (p : Program) → good_program version p ≡ true → Begins bytes (spell_file version p) → ⊥

-- no number begins with these bytes
abbrev pub NoNumberBegins : (bytes : List ℕ) → Type 0
NoNumberBegins bytes = (n : ℕ) → n ≤ 4294967295 → Begins bytes (spell n) → ⊥

-- the bytes of a file from a place to an end
abbrev pub part : (file : List ℕ) (place end : ℕ) → List ℕ
part file place end = drop place (take end file)

-- a refusal of a file that is read as a version, and its reason
pub data Why (version : ℕ) (file : List ℕ) : Refusal → Type 0 where
  -- "1 | file too long | 0"
  too_long : longest version < length file → Why version file (refusal Cause.TooLong 0)
  -- "2 | file ends early | its length": it ends inside a number, or where one should begin; every good
  -- file that begins with these bytes is longer
  early : (at n : ℕ) → at ≤ length file → n ≤ 4294967295 → Begins (drop at file) (spell n) → length file < at + width n
      → ((p : Program) → good_program version p ≡ true → Begins file (spell_file version p) → length file < length (spell_file version p))
      → Why version file (refusal Cause.EndsEarly (length file))
  -- "3 | number not shortest or above 32 bits | its first byte": no number begins with the bytes from the
  -- place to an end, and no good file with those up to that end
  not_a_number : (place end : ℕ) → place < end → end ≤ length file
      → NoNumberBegins (part file place end) → NoneBegins version (take end file)
      → Why version file (refusal Cause.BadNumber place)
  -- "4 | version | its first byte": another number stands there
  other_version : (n : ℕ) → width n ≤ length file → take (width n) file ≡ spell n → (n ≡ version → ⊥)
      → NoneBegins version (take (width n) file)
      → Why version file (refusal Cause.Version 0)
  -- "5, 6 | count; any other field out of its range or order | its first byte": a number stands at the
  -- place, and no good file begins with the bytes up to its end
  bad_field : (sort : Sort) (place n : ℕ) → place + width n ≤ length file
      → part file place (place + width n) ≡ spell n → NoneBegins version (take (place + width n) file)
      → Why version file (refusal (refused_with sort) place)
  -- "7 | bytes after the last instruction | the first of them": the bytes before it are a good file
  surplus : (place : ℕ) (p : Program) → place < length file → Says version (take place file) p → Why version file (refusal Cause.Surplus place)

-- a file that is not read has one of these reasons; a version is a number of a file, so it has 32 bits
abbrev pub RefusedWhy : Type 0
RefusedWhy =
    (version : ℕ) → version < 2 ^ 32 → (file : List ℕ) (q : Refusal) → read_file version file ≡ Reading.refused q → Why version file q

-- a refusal's number and place, as 01 lists them: 1 at 0, 2 at the file's length, 3 to 7 at a byte of it
pub record Listed (file : List ℕ) (q : Refusal) : Type 0 where
  pub least : 1 ≤ refusal_number q.cause
  pub most : refusal_number q.cause ≤ 7
  pub inside : q.place ≤ length file
  pub start : refusal_number q.cause ≡ 1 → q.place ≡ 0
  pub last : refusal_number q.cause ≡ 2 → q.place ≡ length file
  pub byte : 3 ≤ refusal_number q.cause → q.place < length file

-- what has a reason is listed
abbrev pub WhyListed : Type 0
WhyListed = (version : ℕ) (file : List ℕ) (q : Refusal) → Why version file q → Listed file q

-- and its cause is one of 01's
abbrev pub WhyNamed : Type 0
WhyNamed = (version : ℕ) (file : List ℕ) (q : Refusal) → Why version file q → (number : ℕ) → q.cause ≡ Cause.Other number → ⊥
