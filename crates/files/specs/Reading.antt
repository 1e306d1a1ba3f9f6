-- What reading a file answers: the program, or the first refusal from left to right.
-- "Each number is judged as soon as it is read": refusals 2 and 3 come before its range.
use Rattle.std.specs.Prelude.{ℕ, zero, suc, ◌+◌, List, [], ◌∷◌, ◌++◌, Bool, true, false, Ok, Err, length, ltb, leb, eqb}
use Rattle.numbers.specs.declared.refusal.Refusal.{Refusal}
use Rattle.numbers.specs.declared.refusal.Cause.{Cause}
use Rattle.numbers.specs.Refusals.{refusal}
use Rattle.numbers.specs.Number.{Read, read_number}
use Rattle.opcodes.specs.declared.Operand.{Operand}
use Rattle.opcodes.specs.declared.Instr.{Instr}
use Rattle.opcodes.specs.Table.{row_of, operands_of, make}
use Rattle.opcodes.specs.Ranges.{Scope, has_sets, has_opcode, within, is_color, present, allowed}
use Rattle.opcodes.specs.declared.Object.{Object}
use Rattle.files.specs.Program.{Program, has_colors, most_code, longest}
use Rattle.opcodes.specs.Ranges.{kinds_of}

pub data Reading : Type 0 where
  whole : Program → Reading
  refused : Refusal → Reading

-- what comes after reading: a refusal stays as it is
abbrev pub on_whole : (Program → Reading) → Reading → Reading
on_whole next (whole p) = next p
on_whole next (Reading.refused q) = Reading.refused q

-- "any other field out of its range or order | its first byte": a number that has to pass a test
abbrev pub judge : Cause → (at : ℕ) → (ℕ → Bool) → Read → Read
judge why at test (Ok r) = elim (test r.0) [ true ↦ Ok r | false ↦ Err (refusal why at) ]
judge why at test (Err q) = Err q

abbrev pub judged : Cause → (ℕ → Bool) → List ℕ → (at : ℕ) → Read
judged why test file at = judge why at test (read_number file at)

-- ---- "A file is numbers and nothing else": which numbers are asked for, one after the other, each with its
-- test. What is asked next hangs on the numbers before it.

-- "4, 5, 6 | version; count; any other field"
pub data Sort : Type 0 where
  count : Sort
  field : Sort

abbrev pub refused_with : Sort → Cause
refused_with count = Cause.Count
refused_with field = Cause.Field

pub data Plan : Type 0 where
  done : Program → Plan
  ask : Sort → (test : ℕ → Bool) → (ℕ → Plan) → Plan

-- the number and the place behind it, or the end of reading
abbrev pub on : Read → (ℕ → ℕ → Reading) → Reading
on (Ok r) f = f r.0 r.1.at
on (Err q) f = Reading.refused q

-- reading by a plan from a place on: "7 | bytes after the last instruction | the first of them"
unfoldable pub follow : Plan → List ℕ → (at : ℕ) → Reading
follow (done p) file at = elim (eqb at (length file)) [ true ↦ whole p | false ↦ Reading.refused (refusal Cause.Surplus at) ]
follow (ask sort test next) file at = on (judged (refused_with sort) test file at) (λ n behind. follow (next n) file behind)

-- a field that stands in the file, or 0
abbrev pub maybe : Bool → (ℕ → Bool) → (ℕ → Plan) → Plan
maybe true test k = ask field test k
maybe false test k = k 0

-- `left` things more, after those that are read
unfoldable pub many : {X : Type 0} → (left : ℕ) → ((X → Plan) → Plan) → List X → (List X → Plan) → Plan
many zero one xs k = k xs
many (suc left) one xs k = one (λ x. many left one (xs ++ x ∷ []) k)

-- "each is kind 0 (global) with a size 1 to 4,096, or kind 1 (heap site) with no size", in version 2 with "a
-- color (0 or 2 to 255) at the end"
abbrev pub object_plan : (version : ℕ) → (Object → Plan) → Plan
object_plan version k =
    ask field (within 0 1) λ kind.
    maybe (eqb kind 0) (within 1 4096) λ size.
    maybe (has_colors version) is_color λ color.
    k (record { kind = kind; size = size; color = color })

-- "that many object numbers, strictly rising": `left` members more, none below `low`
abbrev pub is_member : (objects low n : ℕ) → Bool
is_member objects low n = elim (leb low n) [ true ↦ ltb n objects | false ↦ false ]

unfoldable pub members_plan : (left objects low : ℕ) → List ℕ → (List ℕ → Plan) → Plan
members_plan zero objects low ns k = k ns
members_plan (suc left) objects low ns k =
    ask field (is_member objects low) λ n. members_plan left objects (n + 1) (ns ++ n ∷ []) k

-- "each is a count, 1 to the count of objects, and that many object numbers"
abbrev pub set_plan : (objects : ℕ) → (List ℕ → Plan) → Plan
set_plan objects k = ask count (within 1 objects) λ n. members_plan n objects 0 [] k

-- "the count of sets, 0 to 400"; "Version 2 .. has .. no sets"
abbrev pub sets_plan : Bool → (objects : ℕ) → (List (List ℕ) → Plan) → Plan
sets_plan true objects k = ask count (within 0 400) λ n. many n (set_plan objects) [] k
sets_plan false objects k = k []

-- an instruction: the opcode, and the operands that its row names
abbrev pub operand_plan : Scope → Operand → (ℕ → Plan) → Plan
operand_plan scope kind k = maybe (present scope.version kind) (allowed scope kind) k

abbrev pub operands_plan : Scope → List Operand → (List ℕ → Plan) → Plan
operands_plan scope [] k = k []
operands_plan scope (kind ∷ kinds) k = operand_plan scope kind λ n. operands_plan scope kinds λ ns. k (n ∷ ns)

abbrev pub instr_plan : Scope → (Instr → Plan) → Plan
instr_plan scope k =
    ask field (has_opcode scope.version) λ op.
    operands_plan scope (operands_of (row_of op)) λ ns.
    k (make op ns)

-- behind the version: "the count of objects, 0 to 400; ..; the count of sets ..; the count of instructions, 1 to
-- 1,000, and the instructions"
abbrev pub code_plan : (version : ℕ) → List Object → List (List ℕ) → Plan
code_plan version os ss =
    ask count (within 1 (most_code version)) λ n.
    many n (instr_plan (record { version = version; kinds = kinds_of os; sets = length ss; code = n })) [] λ code.
    done (record { objects = os; sets = ss; code = code })

abbrev pub file_plan : (version : ℕ) → Plan
file_plan version =
    ask count (within 0 400) λ n.
    many n (object_plan version) [] λ os.
    sets_plan (has_sets version) (length os) λ ss.
    code_plan version os ss

-- "Order: .. then 1, then the file from left to right"; "1 | file too long | 0"; "4 | version"
unfoldable pub read_file : (version : ℕ) → List ℕ → Reading
read_file version file =
    elim (leb (length file) (longest version)) [
      | true ↦ on (judged Cause.Version (within version version) file 0) (λ n behind. follow (file_plan version) file behind)
      | false ↦ Reading.refused (refusal Cause.TooLong 0)
    ]
