-- How a program is held in arrays: the elements that count come first, and the others are blank. These are
-- words of the contracts of functions that hold a program; no demand cites them.
use Prim.Native.Nat.{ℕ, ◌+◌, ◌-◌}
use Rattle.std.specs.Prelude.{List, [], ◌∷◌, ◌++◌, Bool, true, false, Result, Ok, Err, length, take, drop, replicate, leb, eqb}
use Rattle.numbers.specs.declared.refusal.Refusal.{Refusal}
use Rattle.opcodes.specs.declared.Object.{Object}
use Rattle.opcodes.specs.declared.Instr.{Instr}
use Rattle.files.specs.declared.arrays.Objects.{Objects}
use Rattle.files.specs.declared.arrays.Sets.{Sets}
use Rattle.files.specs.declared.arrays.Code.{Code}
use Rattle.files.specs.declared.arrays.Loaded.{Loaded}
use Rattle.files.specs.declared.WriteError.{WriteError}
use Rattle.files.specs.Program.{Program}
use Rattle.files.specs.Reading.{Reading, whole}
use Rattle.files.specs.Writing.{good_program, spell_file, both}

-- an array of n elements of which the first are those of a list
unfoldable pub filled : {A : Type 0} → (n : ℕ) → (blank : A) → List A → List A
filled n blank xs = xs ++ replicate (n - length xs) blank

abbrev pub blank : Object
blank = record { kind = 0; size = 0; color = 0 }

abbrev pub objects_held : List Object → Objects
objects_held os = record { count = length os; list = filled 400 blank os }

-- where each set ends among the members, the first of which stands at `from`
unfoldable pub ends_from : (from : ℕ) → List (List ℕ) → List ℕ
ends_from from [] = []
ends_from from (set ∷ sets) = (from + length set) ∷ ends_from (from + length set) sets

-- all members, one set after the other
unfoldable pub joined : List (List ℕ) → List ℕ
joined [] = []
joined (set ∷ sets) = set ++ joined sets

abbrev pub sets_held : List (List ℕ) → Sets
sets_held ss = record { count = length ss; ends = filled 400 0 (ends_from 0 ss); members = filled 16384 0 (joined ss) }

abbrev pub code_held : List Instr → Code
code_held is = record { count = length is; list = filled 2000 Instr.End is }

abbrev pub held_as : Program → Loaded
held_as p = record { objects = objects_held p.objects; sets = sets_held p.sets; code = code_held p.code }

-- what a reading is held as
abbrev pub held : Reading → Result Loaded Refusal
held (whole p) = Ok (held_as p)
held (Reading.refused q) = Err q

-- ---- the program of version 2 that is held: no sets

abbrev pub shown : Loaded → Program
shown l =
    record { objects = take l.objects.count l.objects.list; sets = []; code = take l.code.count l.code.list }

-- whether what is held is a program that a file of version 2 can say
unfoldable pub writable : Loaded → Bool
writable l = both (leb l.objects.count 400) (both (leb l.code.count 2000) (good_program 2 (shown l)))

abbrev pub file_of : Loaded → List ℕ
file_of l = spell_file 2 (shown l)

-- what writing answers, and the room afterwards: "10 | room for the version 2 file too small",
-- "A refusal changes no lent byte", "Bytes .. past the reported lengths stay"
abbrev pub written_for : (number length : ℕ) → Result ℕ WriteError
written_for number length = elim (eqb number 10) [ true ↦ Err WriteError.TooSmall | false ↦ Ok length ]

unfoldable pub written_in : (room : List ℕ) → Loaded → Result ℕ WriteError
written_in room l =
    elim (writable l) [
      | false ↦ Err WriteError.NoProgram
      | true ↦ elim (leb (length (file_of l)) (length room)) [ true ↦ written_for 0 (length (file_of l)) | false ↦ written_for 10 0 ]
    ]

unfoldable pub room_with : (room : List ℕ) → Loaded → List ℕ
room_with room l =
    elim (writable l) [
      | false ↦ room
      | true ↦ elim (leb (length (file_of l)) (length room)) [ true ↦ file_of l ++ drop (length (file_of l)) room | false ↦ room ]
    ]
