-- The bytes of a program in either version, and when a program is one that a file can say.
use Rattle.std.specs.Prelude.{ℕ, ◌+◌, ◌≡◌, List, [], ◌∷◌, ◌++◌, Bool, true, false, length, ltb, leb, eqb}
use Rattle.numbers.specs.Number.{spell}
use Rattle.opcodes.specs.declared.Operand.{Operand}
use Rattle.opcodes.specs.declared.Object.{Object}
use Rattle.opcodes.specs.declared.Instr.{Instr}
use Rattle.opcodes.specs.declared.Parts.{Parts}
use Rattle.opcodes.specs.Table.{parts_of, operands_in}
use Rattle.opcodes.specs.Ranges.{Scope, has_sets, has_opcode, within, is_color, present, allowed}
use Rattle.files.specs.Program.{Program, has_colors, most_code, longest}
use Rattle.opcodes.specs.Ranges.{kinds_of}

-- what each element of a list is spelled as, one after the other
unfoldable pub spell_all : {A : Type 0} → (A → List ℕ) → List A → List ℕ
spell_all f [] = []
spell_all f (x ∷ xs) = f x ++ spell_all f xs

-- a number that stands in the file, or nothing
abbrev pub spell_if : Bool → ℕ → List ℕ
spell_if true n = spell n
spell_if false n = []

abbrev pub spell_object : (version : ℕ) → Object → List ℕ
spell_object version o =
    spell o.kind ++ (spell_if (eqb o.kind 0) o.size ++ spell_if (has_colors version) o.color)

abbrev pub spell_set : List ℕ → List ℕ
spell_set set = spell (length set) ++ spell_all spell set

abbrev pub spell_sets : Bool → List (List ℕ) → List ℕ
spell_sets true sets = spell (length sets) ++ spell_all spell_set sets
spell_sets false sets = []

-- the operands that stand in the file
abbrev pub spell_operands : (version : ℕ) → List (Operand × ℕ) → List ℕ
spell_operands version [] = []
spell_operands version (o ∷ os) = spell_if (present version o.0) o.1 ++ spell_operands version os

abbrev pub spell_parts : (version : ℕ) → Parts → List ℕ
spell_parts version p = spell p.op ++ spell_operands version (operands_in p)

abbrev pub spell_instr : (version : ℕ) → Instr → List ℕ
spell_instr version i = spell_parts version (parts_of i)

-- "A file is numbers and nothing else: the version; the count of objects ..; the count of sets ..;
-- the count of instructions .., and the instructions"
unfoldable pub spell_file : (version : ℕ) → Program → List ℕ
spell_file version p =
    spell version
    ++ (spell (length p.objects)
    ++ (spell_all (spell_object version) p.objects
    ++ (spell_sets (has_sets version) p.sets
    ++ (spell (length p.code)
    ++ spell_all (spell_instr version) p.code))))

-- ---- which programs a file can say

abbrev pub both : Bool → Bool → Bool
both true b = b
both false b = false

unfoldable pub every : {A : Type 0} → (A → Bool) → List A → Bool
every test [] = true
every test (x ∷ xs) = elim (test x) [ true ↦ every test xs | false ↦ false ]

abbrev pub good_object : (version : ℕ) → Object → Bool
good_object version o =
    both (elim (eqb o.kind 0) [ true ↦ within 1 4096 o.size | false ↦ both (eqb o.kind 1) (eqb o.size 0) ])
    (elim (has_colors version) [ true ↦ is_color o.color | false ↦ eqb o.color 0 ])

-- strictly rising from low on, and below the count of objects
unfoldable pub rising : (objects low : ℕ) → List ℕ → Bool
rising objects low [] = true
rising objects low (n ∷ ns) =
    elim (both (leb low n) (ltb n objects)) [ true ↦ rising objects (n + 1) ns | false ↦ false ]

abbrev pub good_set : (objects : ℕ) → List ℕ → Bool
good_set objects set = both (within 1 objects (length set)) (rising objects 0 set)

abbrev pub good_sets : Bool → (objects : ℕ) → List (List ℕ) → Bool
good_sets true objects sets = both (leb (length sets) 400) (every (good_set objects) sets)
good_sets false objects sets = eqb (length sets) 0

-- an operand that stands in the file is in its range, and one that does not is 0
abbrev pub good_operand : Scope → Operand → ℕ → Bool
good_operand scope kind n =
    elim (present scope.version kind) [ true ↦ allowed scope kind n | false ↦ eqb n 0 ]

abbrev pub good_operands : Scope → List (Operand × ℕ) → Bool
good_operands scope [] = true
good_operands scope (o ∷ os) = both (good_operand scope o.0 o.1) (good_operands scope os)

abbrev pub good_parts : Scope → Parts → Bool
good_parts scope p = both (has_opcode scope.version p.op) (good_operands scope (operands_in p))

abbrev pub good_instr : Scope → Instr → Bool
good_instr scope i = good_parts scope (parts_of i)

abbrev pub scope_of : (version : ℕ) → Program → Scope
scope_of version p =
    record { version = version; kinds = kinds_of p.objects; sets = length p.sets; code = length p.code }

unfoldable pub good_program : (version : ℕ) → Program → Bool
good_program version p =
    both (leb (length p.objects) 400)
    (both (every (good_object version) p.objects)
    (both (good_sets (has_sets version) (length p.objects) p.sets)
    (both (within 1 (most_code version) (length p.code))
    (both (every (good_instr (scope_of version p)) p.code)
    (leb (length (spell_file version p)) (longest version))))))

-- a file says a program: a good one, of which the file is the spelling
pub record Says (version : ℕ) (file : List ℕ) (p : Program) : Type 0 where
  pub good : good_program version p ≡ true
  pub bytes : spell_file version p ≡ file
