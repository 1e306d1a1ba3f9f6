-- 01, "Numbers and files": "One table of the opcodes gives for each its operands and their ranges".
use Rattle.std.specs.Prelude.{ℕ, List, [], ◌∷◌, get_or}
use Rattle.opcodes.specs.declared.Operand.{Operand}
use Rattle.opcodes.specs.declared.Group.{Group}
use Rattle.opcodes.specs.declared.Row.{Row}
use Rattle.opcodes.specs.declared.Parts.{Parts}
use Rattle.opcodes.specs.declared.Instr.{Instr}
use Rattle.opcodes.specs.declared.Instr.TheVariants.{End, Place, Add, Sub, Less, Load8, Load32, Put8, Put32, Write8, Write32, Jump, JumpIf, Alloc, Free, In, Out, Check8, Check32, CheckPut8, CheckPut32}

abbrev row : Group → (x y z w : Operand) → Row
row group x y z w = record { group = group; first = x; second = y; third = z; fourth = w }

abbrev plain : Group
plain = Group.Plain

abbrev check : Group
check = Group.Check

abbrev none : Operand
none = Operand.None

abbrev temp : Operand
temp = Operand.Temporary

-- the group and the operands of each opcode, 0 to 21; "d, a and b name one of 16 temporaries", n is a Number, g a
-- Global or a Site, k an Offset, s a Set, p a Target, c a Color
abbrev pub rows : List Row
rows =
    row plain none none none none
    ∷ row plain temp Operand.Number none none
    ∷ row plain temp Operand.Global none none
    ∷ row plain temp temp temp none
    ∷ row plain temp temp temp none
    ∷ row plain temp temp temp none
    ∷ row plain temp temp none none
    ∷ row plain temp temp none none
    ∷ row plain Operand.Global Operand.Offset temp none
    ∷ row plain Operand.Global Operand.Offset temp none
    ∷ row plain temp temp Operand.Set none
    ∷ row plain temp temp Operand.Set none
    ∷ row plain Operand.Target none none none
    ∷ row plain temp Operand.Target none none
    ∷ row plain temp Operand.Site temp none
    ∷ row plain temp none none none
    ∷ row plain temp none none none
    ∷ row plain temp none none none
    ∷ row check temp Operand.Color none none
    ∷ row check temp Operand.Color none none
    ∷ row check Operand.Global Operand.Offset Operand.Color none
    ∷ row check Operand.Global Operand.Offset Operand.Color none
    ∷ []

abbrev pub row_of : ℕ → Row
row_of op = get_or rows op (row plain none none none none)

-- the operands of a row in the order of the file, none behind the last
abbrev pub operands_of : Row → List Operand
operands_of r = r.first ∷ r.second ∷ r.third ∷ r.fourth ∷ []

-- an instruction of its first operands
abbrev of1 : (ℕ → Instr) → List ℕ → Instr
of1 instr ns = instr (get_or ns 0 0)

abbrev of2 : (ℕ → ℕ → Instr) → List ℕ → Instr
of2 instr ns = instr (get_or ns 0 0) (get_or ns 1 0)

abbrev of3 : (ℕ → ℕ → ℕ → Instr) → List ℕ → Instr
of3 instr ns = instr (get_or ns 0 0) (get_or ns 1 0) (get_or ns 2 0)

-- the instruction that an opcode makes of its operands; an operand that the row lacks is not looked at
abbrev pub makers : List (List ℕ → Instr)
makers =
    (λ ns. End)
    ∷ of2 Instr.Set
    ∷ of2 Place
    ∷ of3 Add
    ∷ of3 Sub
    ∷ of3 Less
    ∷ of2 Load8
    ∷ of2 Load32
    ∷ of3 Put8
    ∷ of3 Put32
    ∷ of3 Write8
    ∷ of3 Write32
    ∷ of1 Jump
    ∷ of2 JumpIf
    ∷ of3 Alloc
    ∷ of1 Free
    ∷ of1 In
    ∷ of1 Out
    ∷ of2 Check8
    ∷ of2 Check32
    ∷ of3 CheckPut8
    ∷ of3 CheckPut32
    ∷ []

abbrev pub make : (op : ℕ) → List ℕ → Instr
make op = get_or makers op (λ ns. End)

-- an opcode with its operands, 0 where there is none
abbrev pub parts_in : (op : ℕ) → List ℕ → Parts
parts_in op ns = record { op = op; x = get_or ns 0 0; y = get_or ns 1 0; z = get_or ns 2 0; w = get_or ns 3 0 }

abbrev pub numbers_of : Parts → List ℕ
numbers_of p = p.x ∷ p.y ∷ p.z ∷ p.w ∷ []

-- an instruction taken apart
abbrev pub parts_of : Instr → Parts
parts_of End = parts_in 0 []
parts_of (Instr.Set d n) = parts_in 1 (d ∷ n ∷ [])
parts_of (Place d g) = parts_in 2 (d ∷ g ∷ [])
parts_of (Add d a b) = parts_in 3 (d ∷ a ∷ b ∷ [])
parts_of (Sub d a b) = parts_in 4 (d ∷ a ∷ b ∷ [])
parts_of (Less d a b) = parts_in 5 (d ∷ a ∷ b ∷ [])
parts_of (Load8 d a) = parts_in 6 (d ∷ a ∷ [])
parts_of (Load32 d a) = parts_in 7 (d ∷ a ∷ [])
parts_of (Put8 g k a) = parts_in 8 (g ∷ k ∷ a ∷ [])
parts_of (Put32 g k a) = parts_in 9 (g ∷ k ∷ a ∷ [])
parts_of (Write8 a b s) = parts_in 10 (a ∷ b ∷ s ∷ [])
parts_of (Write32 a b s) = parts_in 11 (a ∷ b ∷ s ∷ [])
parts_of (Jump p) = parts_in 12 (p ∷ [])
parts_of (JumpIf a p) = parts_in 13 (a ∷ p ∷ [])
parts_of (Alloc d g a) = parts_in 14 (d ∷ g ∷ a ∷ [])
parts_of (Free a) = parts_in 15 (a ∷ [])
parts_of (In d) = parts_in 16 (d ∷ [])
parts_of (Out a) = parts_in 17 (a ∷ [])
parts_of (Check8 a c) = parts_in 18 (a ∷ c ∷ [])
parts_of (Check32 a c) = parts_in 19 (a ∷ c ∷ [])
parts_of (CheckPut8 g k c) = parts_in 20 (g ∷ k ∷ c ∷ [])
parts_of (CheckPut32 g k c) = parts_in 21 (g ∷ k ∷ c ∷ [])

-- the operands of an instruction, each with what it names
abbrev pub named : List Operand → List ℕ → List (Operand × ℕ)
named [] ns = []
named (kind ∷ kinds) [] = []
named (kind ∷ kinds) (n ∷ ns) = (kind, n) ∷ named kinds ns

abbrev pub operands_in : Parts → List (Operand × ℕ)
operands_in p = named (operands_of (row_of p.op)) (numbers_of p)

-- what holds of each of them
abbrev pub Each : (Operand → ℕ → Type 0) → List (Operand × ℕ) → Type 0
Each P [] = Unit {0}
Each P (o ∷ os) = P o.0 o.1 × Each P os
