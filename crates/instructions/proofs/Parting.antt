-- An instruction and its parts: what is made of parts has those parts, and an instruction is made of its own.
use Prim.Native.Nat.{ℕ, zero, suc, ◌<◌}
use mathlib.Core.Path.{◌≡◌, refl, sym, ap, ◌∙◌, subst}
use mathlib.Core.List.{List, [], ◌∷◌}
use mathlib.Core.Logic.{◌⊎◌, inl, inr}
use native.Mathlib.Omega.{arith}
use native.Mathlib.Nat.{eq-or-lt_of_le}
use lib.ListN.{length, get_or}
use Rattle.opcodes.specs.declared.Operand.{Operand}
use Rattle.opcodes.specs.declared.Instr.{Instr}
use Rattle.opcodes.specs.declared.Instr.TheVariants.{End, Place, Add, Sub, Less, Load8, Load32, Put8, Put32, Write8, Write32, Jump, JumpIf, Alloc, Free, In, Out, Check8, Check32, CheckPut8, CheckPut32}
use Rattle.opcodes.specs.Table.{make, parts_in, numbers_of, parts_of, operands_in, row_of, operands_of, named, Each}

-- ---- the table's rule, once: what holds of each number below n holds of all of them

abbrev upto : (ℕ → Type 0) → ℕ → Type 0
upto P zero = Unit {0}
upto P (suc n) = P n × upto P n

below : (P : ℕ → Type 0) (n : ℕ) → upto P n → (k : ℕ) → k < n → P k
below P zero all k h = absurd (omega arith)
below P (suc n) all k h = go (below P n all.1 k) (eq-or-lt_of_le (omega arith))
  where
    go : (k < n → P k) → (k ≡ n) ⊎ (k < n) → P k
    go under (inl e) = rw e all.0
    go under (inr l) = under l

-- an operand that a row lacks is 0
abbrev pub Blank : Operand → ℕ → Type 0
Blank Operand.None n = n ≡ 0
Blank Operand.Temporary n = Unit {0}
Blank Operand.Number n = Unit {0}
Blank Operand.Global n = Unit {0}
Blank Operand.Site n = Unit {0}
Blank Operand.Set n = Unit {0}
Blank Operand.Offset n = Unit {0}
Blank Operand.Target n = Unit {0}
Blank Operand.Color n = Unit {0}

-- the parts of an instruction that is made of parts are those parts
abbrev Back : ℕ → Type 0
Back op = (x y z w : ℕ) → Each Blank (operands_in (parts_in op (x ∷ y ∷ z ∷ w ∷ [])))
    → parts_of (make op (x ∷ y ∷ z ∷ w ∷ [])) ≡ parts_in op (x ∷ y ∷ z ∷ w ∷ [])

all_back : upto Back 22
all_back = (
  λ x y z w (p, (q, (r, (s, t)))). cc,
  (
    λ x y z w (p, (q, (r, (s, t)))). cc,
    (
      λ x y z w (p, (q, (r, (s, t)))). cc,
      (
        λ x y z w (p, (q, (r, (s, t)))). cc,
        (
          λ x y z w (p, (q, (r, (s, t)))). cc,
          (
            λ x y z w (p, (q, (r, (s, t)))). cc,
            (
              λ x y z w (p, (q, (r, (s, t)))). cc,
              (
                λ x y z w (p, (q, (r, (s, t)))). cc,
                (
                  λ x y z w (p, (q, (r, (s, t)))). cc,
                  (
                    λ x y z w (p, (q, (r, (s, t)))). cc,
                    (
                      λ x y z w (p, (q, (r, (s, t)))). cc,
                      (
                        λ x y z w (p, (q, (r, (s, t)))). cc,
                        (
                          λ x y z w (p, (q, (r, (s, t)))). cc,
                          (
                            λ x y z w (p, (q, (r, (s, t)))). cc,
                            (
                              λ x y z w (p, (q, (r, (s, t)))). cc,
                              (
                                λ x y z w (p, (q, (r, (s, t)))). cc,
                                (
                                  λ x y z w (p, (q, (r, (s, t)))). cc,
                                  (
                                    λ x y z w (p, (q, (r, (s, t)))). cc,
                                    (
                                      λ x y z w (p, (q, (r, (s, t)))). cc,
                                      (
                                        λ x y z w (p, (q, (r, (s, t)))). cc,
                                        (
                                          λ x y z w (p, (q, (r, (s, t)))). cc,
                                          (
                                            λ x y z w (p, (q, (r, (s, t)))). cc,
                                            tt,
                                          ),
                                        ),
                                      ),
                                    ),
                                  ),
                                ),
                              ),
                            ),
                          ),
                        ),
                      ),
                    ),
                  ),
                ),
              ),
            ),
          ),
        ),
      ),
    ),
  ),
)

-- four numbers, taken out of the parts that were made of them
pub numbers_parts : (op : ℕ) (ns : List ℕ) → length ns ≡ 4 → numbers_of (parts_in op ns) ≡ ns
numbers_parts op [] e = absurd (omega arith)
numbers_parts op (x ∷ []) e = absurd (omega arith)
numbers_parts op (x ∷ y ∷ []) e = absurd (omega arith)
numbers_parts op (x ∷ y ∷ z ∷ []) e = absurd (omega arith)
numbers_parts op (x ∷ y ∷ z ∷ w ∷ []) e = refl
numbers_parts op (x ∷ y ∷ z ∷ w ∷ n ∷ ns) e = absurd (omega arith)

pub parts_make : (op : ℕ) → op < 22 → (ns : List ℕ) → length ns ≡ 4 → Each Blank (named (operands_of (row_of op)) ns)
    → parts_of (make op ns) ≡ parts_in op ns
parts_make op h ns four blank =
    let same = sym (numbers_parts op ns four) in
    ap (λ (ms : List ℕ). parts_of (make op ms)) same
    ∙ below Back 22 all_back op h (get_or ns 0 0) (get_or ns 1 0) (get_or ns 2 0) (get_or ns 3 0)
    (subst (λ (ms : List ℕ). Each Blank (named (operands_of (row_of op)) ms)) same blank)

pub make_parts : (i : Instr) → make (parts_of i).op (numbers_of (parts_of i)) ≡ i
make_parts End = refl
make_parts (Instr.Set x y) = refl
make_parts (Place x y) = refl
make_parts (Add x y z) = refl
make_parts (Sub x y z) = refl
make_parts (Less x y z) = refl
make_parts (Load8 x y) = refl
make_parts (Load32 x y) = refl
make_parts (Put8 x y z) = refl
make_parts (Put32 x y z) = refl
make_parts (Write8 x y z) = refl
make_parts (Write32 x y z) = refl
make_parts (Jump x) = refl
make_parts (JumpIf x y) = refl
make_parts (Alloc x y z) = refl
make_parts (Free x) = refl
make_parts (In x) = refl
make_parts (Out x) = refl
make_parts (Check8 x y) = refl
make_parts (Check32 x y) = refl
make_parts (CheckPut8 x y z) = refl
make_parts (CheckPut32 x y z) = refl
