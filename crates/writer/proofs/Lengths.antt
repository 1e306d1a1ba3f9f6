-- Measuring a program: what is good has a length, part by part.
use mathlib.Core.Path.{◌≡◌, refl, sym, ap, ◌∙◌}
use mathlib.Core.List.{List, [], ◌∷◌, ◌++◌, append-nil, append_assoc}
use mathlib.Core.Bool.{Bool, true, false}
use Prim.Native.Nat.{ℕ, ◌<◌}
use lib.ListN.{length, get_or}
use Rattle.std.proofs.lemmas.Bool.{false_from_ne_true, true≢false}
use Rattle.std.proofs.lemmas.Grind.{common_steps}
use Rattle.numbers.specs.Number.{spell}
use Rattle.opcodes.specs.declared.Operand.{Operand}
use Rattle.opcodes.specs.declared.Instr.{Instr}
use Rattle.opcodes.specs.declared.Parts.{Parts}
use Rattle.opcodes.specs.Table.{parts_of, operands_in}
use Rattle.opcodes.specs.Ranges.{Scope, present, has_opcode}
use Rattle.files.specs.Writing.{spell_if, spell_all, spell_operands, spell_instr, spell_parts, every, good_operand, good_operands, good_parts, good_instr, both}
use Rattle.files.proofs.Tests.{both_is, every_append, every_at, every_cons}

-- ---- what stands one after the other

module _ {A : Type 0} (spelling : A → List ℕ) where
  pub spelled_none : spell_all spelling [] ≡ []
  unfolding spell_all
  spelled_none = refl

  pub spelled_push : (xs : List A) (x : A) → spell_all spelling (xs ++ x ∷ []) ≡ spell_all spelling xs ++ spelling x
  unfolding spell_all
  spelled_push [] x = append-nil (spelling x)
  spelled_push (y ∷ ys) x =
      ap (λ (l : List ℕ). spelling y ++ l) (spelled_push ys x) ∙ sym (append_assoc (spelling y) (spell_all spelling ys) (spelling x))

-- ---- what is good

module _ {A : Type 0} (good : A → Bool) where
  pub every_none : every good [] ≡ true
  unfolding every
  every_none = refl

  pub every_push : (xs : List A) (x : A) → every good xs ≡ true → good x ≡ true → every good (xs ++ x ∷ []) ≡ true
  every_push xs x all this = every_append good xs (x ∷ []) all (every_cons good x [] this every_none)

  pub every_fails : (xs : List A) (i : ℕ) (d : A) → i < length xs → good (get_or xs i d) ≡ false → every good xs ≡ false
  every_fails xs i d h p = false_from_ne_true (every good xs) (λ all. true≢false (sym (every_at good xs d i all h) ∙ p))

-- what a loop goes by that measures one thing after the other
pub ruleset totals = (common_steps, spelled_none, spelled_push, every_none, every_push, every_fails)

-- ---- an instruction, by its operands

-- the bytes of operands, one after the other
abbrev pub operand_bytes : List (Operand × ℕ) → List ℕ
operand_bytes os = spell_all (λ o. spell_if (present 2 o.0) o.1) os

operands_spelled : (os : List (Operand × ℕ)) → operand_bytes os ≡ spell_operands 2 os
unfolding spell_all
operands_spelled [] = refl
operands_spelled (o ∷ os) = ap (λ (l : List ℕ). spell_if (present 2 o.0) o.1 ++ l) (operands_spelled os)

pub instr_spelled : (i : Instr) {q : Parts} {os : List (Operand × ℕ)} → q ≡ parts_of i → os ≡ operands_in q
    → spell q.op ++ operand_bytes os ≡ spell_instr 2 i
instr_spelled i {q} p o =
    ap (λ (os : List (Operand × ℕ)). spell q.op ++ operand_bytes os) o ∙ ap (λ (l : List ℕ). spell q.op ++ l) (operands_spelled (operands_in q))
    ∙ ap (spell_parts 2) p

module _ (scope : Scope) where
  abbrev pub operands_good : List (Operand × ℕ) → Bool
  operands_good os = every (λ o. good_operand scope o.0 o.1) os

  are_good : (os : List (Operand × ℕ)) → operands_good os ≡ good_operands scope os
  unfolding every
  are_good [] = refl
  are_good (o ∷ os) = sym (both_is (good_operand scope o.0 o.1) (operands_good os)) ∙ ap (both (good_operand scope o.0 o.1)) (are_good os)

  pub instr_good : (i : Instr) {q : Parts} {os : List (Operand × ℕ)} → q ≡ parts_of i → os ≡ operands_in q → has_opcode scope.version q.op ≡ true
      → operands_good os ≡ good_instr scope i
  instr_good i {q} p o h =
      ap operands_good o ∙ are_good (operands_in q) ∙ sym (ap (λ (b : Bool). both b (good_operands scope (operands_in q))) h) ∙ ap (good_parts scope) p
