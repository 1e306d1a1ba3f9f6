-- How the code reads: part after part, each answered with what was read and the cursor behind it, or with a
-- refusal. These are words of contracts inside this crate; that reading so is reading by the plan is proved
-- (`Following`).
use Rattle.std.specs.Prelude.{ℕ, zero, suc, ◌+◌, List, [], ◌∷◌, ◌++◌, true, false, Result, Ok, Err, length, eqb}
use Rattle.numbers.specs.declared.Cursor.{Cursor}
use Rattle.numbers.specs.declared.refusal.Refusal.{Refusal}
use Rattle.numbers.specs.declared.refusal.Cause.{Cause}
use Rattle.numbers.specs.Refusals.{refusal}
use Rattle.numbers.specs.Number.{Read}
use Rattle.opcodes.specs.declared.Object.{Object}
use Rattle.opcodes.specs.declared.Operand.{Operand}
use Rattle.opcodes.specs.declared.Instr.{Instr}
use Rattle.opcodes.specs.Table.{row_of, operands_of, make}
use Rattle.opcodes.specs.Ranges.{Scope, has_sets, has_opcode, within, is_color, present, allowed, kinds_of}
use Rattle.files.specs.Program.{Program, has_colors, most_code}
use Rattle.files.specs.Reading.{Reading, whole, judged, is_member}

-- the answer to reading a thing
abbrev pub Answer : Type 0 → Type 0
Answer A = Result (A × Cursor) Refusal

abbrev pub cursor : ℕ → Cursor
cursor at = record { at = at }

-- what is read next; a refusal stays as it is
abbrev pub then : {A B : Type 0} → Answer A → (A → Cursor → Answer B) → Answer B
then (Ok r) next = next r.0 r.1
then (Err q) next = Err q

-- `left` things more, after those that are done
unfoldable pub several : {A : Type 0} → (left : ℕ) → (one : ℕ → Answer A) → (at : ℕ) → (done : List A) → Answer (List A)
several zero one at done = Ok (done, cursor at)
several (suc left) one at done = then (one at) λ x next. several left one next.at (done ++ x ∷ [])

-- what was read, as it is held
abbrev pub hold : {A B : Type 0} → (A → B) → Answer A → Answer B
hold how (Ok r) = Ok (how r.0, r.1)
hold how (Err q) = Err q

-- ---- objects: "each is kind 0 (global) with a size 1 to 4,096, or kind 1 (heap site) with no size",
-- in version 2 with "a color (0 or 2 to 255) at the end"

abbrev pub color_at : (version : ℕ) → List ℕ → (at : ℕ) → Read
color_at version file at =
    elim (has_colors version) [ true ↦ judged Cause.Field is_color file at | false ↦ Ok (0, cursor at) ]

abbrev pub size_at : List ℕ → (kind at : ℕ) → Read
size_at file kind at =
    elim (eqb kind 0) [ true ↦ judged Cause.Field (within 1 4096) file at | false ↦ Ok (0, cursor at) ]

abbrev pub read_object : (version : ℕ) → List ℕ → (at : ℕ) → Answer Object
read_object version file at =
    then (judged Cause.Field (within 0 1) file at) λ kind past_kind.
    then (size_at file kind past_kind.at) λ size past_size.
    then (color_at version file past_size.at) λ color next.
    Ok (record { kind = kind; size = size; color = color }, next)

abbrev pub objects_of : (version : ℕ) → List ℕ → Answer (List Object)
objects_of version file =
    then (judged Cause.Version (within version version) file 0) λ this past_version.
    then (judged Cause.Count (within 0 400) file past_version.at) λ count next.
    several count (read_object version file) next.at []

-- ---- sets: "each is a count, 1 to the count of objects, and that many object numbers, strictly rising"

-- an object's number that is not below `low`
abbrev pub member_at : (objects low : ℕ) → List ℕ → (at : ℕ) → Read
member_at objects low file at = judged Cause.Field (is_member objects low) file at

-- `left` members more, none below `low`
unfoldable pub members_from : (left objects : ℕ) → List ℕ → (at low : ℕ) → (done : List ℕ) → Answer (List ℕ)
members_from zero objects file at low done = Ok (done, cursor at)
members_from (suc left) objects file at low done =
    then (member_at objects low file at) λ n next. members_from left objects file next.at (n + 1) (done ++ n ∷ [])

abbrev pub read_set : (objects : ℕ) → List ℕ → (at : ℕ) → Answer (List ℕ)
read_set objects file at =
    then (judged Cause.Count (within 1 objects) file at) λ count next. members_from count objects file next.at 0 []

abbrev pub sets_of : (version objects : ℕ) → List ℕ → (at : ℕ) → Answer (List (List ℕ))
sets_of version objects file at =
    elim (has_sets version) [
      | true ↦ then (judged Cause.Count (within 0 400) file at) λ count next. several count (read_set objects file) next.at []
      | false ↦ Ok ([], cursor at)
    ]

-- ---- instructions: the opcode, and the operands that its row names

abbrev pub operand_at : Scope → Operand → List ℕ → (at : ℕ) → Read
operand_at scope kind file at =
    elim (present scope.version kind)
    [ true ↦ judged Cause.Field (allowed scope kind) file at | false ↦ Ok (0, cursor at) ]

-- the operands one after the other, and the instruction that is made of them
abbrev pub operands_at : Scope → List Operand → List ℕ → (from : Cursor) → (List ℕ → Instr) → Answer Instr
operands_at scope [] file from k = Ok (k [], from)
operands_at scope (kind ∷ kinds) file from k =
    then (operand_at scope kind file from.at) λ n next. operands_at scope kinds file next λ ns. k (n ∷ ns)

abbrev pub read_instr : Scope → List ℕ → (at : ℕ) → Answer Instr
read_instr scope file at =
    then (judged Cause.Field (has_opcode scope.version) file at) λ op next.
    operands_at scope (operands_of (row_of op)) file next (make op)

abbrev pub code_of : (version : ℕ) → (kinds : List ℕ) → (sets : ℕ) → List ℕ → (at : ℕ) → Answer (List Instr)
code_of version kinds sets file at =
    then (judged Cause.Count (within 1 (most_code version)) file at) λ count next.
    several count (read_instr (record { version = version; kinds = kinds; sets = sets; code = count }) file) next.at []

-- ---- the whole file

abbrev pub ends_there : List ℕ → Program → Cursor → Reading
ends_there file p next = elim (eqb next.at (length file)) [ true ↦ whole p | false ↦ Reading.refused (refusal Cause.Surplus next.at) ]

-- what comes behind a part
abbrev pub behind : {A : Type 0} → Answer A → (A → Cursor → Reading) → Reading
behind (Ok r) next = next r.0 r.1
behind (Err q) next = Reading.refused q

abbrev pub by_parts : (version : ℕ) → List ℕ → Reading
by_parts version file =
    behind (objects_of version file) λ objects past_objects.
    behind (sets_of version (length objects) file past_objects.at) λ sets past_sets.
    behind (code_of version (kinds_of objects) (length sets) file past_sets.at) λ code next.
    ends_there file (record { objects = objects; sets = sets; code = code }) next
