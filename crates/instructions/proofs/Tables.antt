-- One computed equation in place of a case for each opcode: two functions whose tables are the same agree.
use Prim.Native.Nat.{ℕ, zero, suc, ◌+◌, ◌≤◌, ◌<◌}
use native.Mathlib.Omega.{arith}
use native.Mathlib.Decide.{dec_lt}
use native.Mathlib.Nat.{eq-or-lt_of_le}
use mathlib.Core.Path.{◌≡◌, refl, sym, ◌∙◌, ap}
use mathlib.Core.Logic.{◌⊎◌, inl, inr}
use mathlib.Core.List.{List, [], ◌∷◌, tail}
use mathlib.Core.Bool.{Bool, true, false}
use lib.ListN.{length, get_or, get_or-eq_default}
use types.Run.{OneOf, miss}
use mir.Val.{has_key}
use denote.Enum.Declared.{tag_of}
use Rattle.opcodes.specs.declared.Instr.{Instr}
use Rattle.opcodes.specs.Table.{makers, make, numbers_of, parts_of}
use Rattle.opcodes.specs.contracts.Instr.{the_type}
use Rattle.instructions.proofs.Parting.{make_parts}

module _ {A : Type 0} where
  -- what a function gives for n numbers
  abbrev table : (f : ℕ → A) (from n : ℕ) → List A
  table f from zero = []
  table f from (suc n) = f from ∷ table f (suc from) n

  pub alike : (f g : ℕ → A) (from n : ℕ) → table f from n ≡ table g from n → (k : ℕ) → from ≤ k → k < from + n → f k ≡ g k
  alike f g from zero e k l h = absurd (omega arith)
  alike f g from (suc n) e k l h = go (alike f g (suc from) n (ap tail e) k) (eq-or-lt_of_le l)
    where
      go : (suc from ≤ k → k < suc from + n → f k ≡ g k) → (from ≡ k) ⊎ (from < k) → f k ≡ g k
      go next (inl s) = rw (← s) (ap (λ (t : List A). get_or t 0 (f from)) e)
      go next (inr m) = next m (omega arith)

  -- past the table stands END
  pub past : (f : Instr → A) (op : ℕ) (ns : List ℕ) → length makers ≤ op → f (make op ns) ≡ f Instr.End
  past f op ns h = ap (λ (m : List ℕ → Instr). f (m ns)) (get_or-eq_default makers (λ (ns : List ℕ). Instr.End) h)

  -- what a function gives for an instruction of each opcode
  abbrev pub per_opcode : (Instr → A) → List ℕ → List A
  per_opcode f ns = table (λ op. f (make op ns)) 0 (length makers)

  pub agree : (f g : Instr → A) → ((ns : List ℕ) → per_opcode f ns ≡ per_opcode g ns) → (i : Instr) → f i ≡ g i
  agree f g e i = ap f (sym (make_parts i)) ∙ made (parts_of i).op (numbers_of (parts_of i)) ∙ ap g (make_parts i)
    where
      made : (op : ℕ) (ns : List ℕ) → f (make op ns) ≡ g (make op ns)
      made op ns =
          elim (dec_lt op (length makers)) [
            | yes h ↦ alike (λ (op : ℕ). f (make op ns)) (λ (op : ℕ). g (make op ns)) 0 (length makers) (e ns) op (omega arith) h
            | no n ↦ past f op ns (omega arith) ∙ ap (λ (t : List A). get_or t 0 (f Instr.End)) (e ns) ∙ sym (past g op ns (omega arith))
          ]

  -- the same for the opcodes that an arm of a match takes
  pub agree_on : (keys : List ℕ) (f g : Instr → A)
      → ((ns : List ℕ) → per_opcode f ns ≡ per_opcode (λ i. elim (has_key keys (tag_of the_type i)) [ true ↦ g i | false ↦ f i ]) ns)
      → (i : Instr) → OneOf keys (tag_of the_type i) → f i ≡ g i
  agree_on keys f g e i h = agree f (λ i. elim (has_key keys (tag_of the_type i)) [ true ↦ g i | false ↦ f i ]) e i ∙ go (has_key keys (tag_of the_type i)) refl
    where
      go : (b : Bool) → has_key keys (tag_of the_type i) ≡ b → elim (has_key keys (tag_of the_type i)) [ true ↦ g i | false ↦ f i ] ≡ g i
      go true t = rw t
      go false t = absurd (miss keys (tag_of the_type i) (rw t tt) h)
