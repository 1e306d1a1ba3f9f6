-- 01's table of refusals: the number of each reason, and a reason with its place.
use Rattle.std.specs.Prelude.{ℕ, List, ◌++◌, codes, decimal}
use Rattle.numbers.specs.declared.refusal.Refusal.{Refusal}
use Rattle.numbers.specs.declared.refusal.Cause.{Cause}

-- "1 | file too long", "2 | file ends early", "3 | number not shortest or above 32 bits", "4, 5, 6 | version; count;
-- any other field", "7 | bytes after the last instruction", 8 and 9: classes and globals of a routine, "10 | room
-- for the version 2 file too small", "11 | memory or table not of its exact length"
abbrev pub refusal_number : Cause → ℕ
refusal_number Cause.TooLong = 1
refusal_number Cause.EndsEarly = 2
refusal_number Cause.BadNumber = 3
refusal_number Cause.Version = 4
refusal_number Cause.Count = 5
refusal_number Cause.Field = 6
refusal_number Cause.Surplus = 7
refusal_number Cause.ManyClasses = 8
refusal_number Cause.LargeGlobals = 9
refusal_number Cause.SmallRoom = 10
refusal_number Cause.WrongLength = 11
refusal_number (Cause.Other number) = number

abbrev pub refusal : Cause → (place : ℕ) → Refusal
refusal cause place = record { cause = cause; place = place }

-- "with single blanks", "for a refusal, number and place"
abbrev pub refusal_text : Refusal → List ℕ
refusal_text q = decimal (refusal_number q.cause) ++ codes " " ++ decimal q.place
