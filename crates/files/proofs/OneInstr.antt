-- Reading one instruction, step by step, and what is known of its operands.
use mathlib.Core.Path.{◌≡◌, sym, ap, ap₂, ◌∙◌}
use mathlib.Core.List.{List, ◌∷◌}
use mathlib.Core.Bool.{Bool, true, false}
use Prim.Native.Nat.{ℕ, ◌<◌, ◌≤◌}
use native.Mathlib.Omega.{arith}
use denote.Ref.{Bor}
use lib.Dec.{ltb}
use borrow.Author.Tests.{ltb-true, leb-true, eqb-true}
use Rattle.std.specs.Prelude.{Ok, Err}
use Rattle.numbers.specs.declared.refusal.Cause.{Cause}
use Rattle.numbers.specs.declared.Cursor.{Cursor}
use Rattle.numbers.specs.declared.refusal.Refusal.{Refusal}
use Rattle.numbers.specs.Number.{Read}
use Rattle.opcodes.proofs.Bounds.{within_bounds, kind_below}
use Rattle.instructions.proofs.Whole.{roof}
use Rattle.opcodes.specs.declared.Operand.{Operand}
use Rattle.opcodes.specs.declared.Row.{Row}
use Rattle.opcodes.specs.declared.Instr.{Instr}
use Rattle.opcodes.specs.declared.Scope as declared
use Rattle.opcodes.specs.Table.{row_of, operands_of, make}
use Rattle.opcodes.specs.Ranges.{Scope, has_sets, present, allowed, has_opcode, scope_over}
use Rattle.files.specs.Reading.{judged}
use Rattle.files.specs.Inside.{Small}
use Rattle.files.proofs.Judging.{Field, right, field_of_read}
use Rattle.files.specs.Parsing.{Answer, then, operand_at, operands_at, read_instr}

module _ (scope : Scope) (file : List ℕ) where
  abbrev behind : (op : ℕ) → Cursor → Answer Instr
  behind op next = operands_at scope (operands_of (row_of op)) file next (make op)

  pub no_opcode : (at : ℕ) {q : Refusal} → judged Cause.Field (has_opcode scope.version) file at ≡ Err q → read_instr scope file at ≡ Err q
  no_opcode at e = ap (λ (r : Read). then r behind) e

  pub an_opcode : (at : ℕ) {op : ℕ} {past : Cursor} → judged Cause.Field (has_opcode scope.version) file at ≡ Ok (op, past)
      → read_instr scope file at ≡ operands_at scope (operands_of (row_of op)) file past (make op)
  an_opcode at e = ap (λ (r : Read). then r behind) e

  -- the first of the operands that are left, and those behind it
  module _ (kind : Operand) (kinds : List Operand) (from : Cursor) (k : List ℕ → Instr) where
    abbrev left : ℕ → Cursor → Answer Instr
    left n next = operands_at scope kinds file next (λ ns. k (n ∷ ns))

    pub no_operand : {q : Refusal} → operand_at scope kind file from.at ≡ Err q → operands_at scope (kind ∷ kinds) file from k ≡ Err q
    no_operand e = ap (λ (r : Read). then r left) e

    pub an_operand : {n : ℕ} {next : Cursor} → operand_at scope kind file from.at ≡ Ok (n, next)
        → operands_at scope (kind ∷ kinds) file from k ≡ operands_at scope kinds file next (λ ns. k (n ∷ ns))
    an_operand e = ap (λ (r : Read). then r left) e

-- what is read through a reader is what stands at its place
pub through_reader : (scope : Scope) {r : Answer Instr} {file held : Bor (List ℕ)} {at place : ℕ} → r ≡ read_instr scope held.now place
    → held ≡ file → place ≡ at → r ≡ read_instr scope file.now at
through_reader scope e f g = e ∙ ap₂ (λ (b : Bor (List ℕ)) (n : ℕ). read_instr scope b.now n) f g

-- an operand that was read by a row that is known
pub by_row : {row known : Row} → row ≡ known → (kind : Row → Operand) (scope : Scope) (file : List ℕ) (at : ℕ) {r is : Read}
    → r ≡ operand_at scope (kind row) file at → r ≡ is → operand_at scope (kind known) file at ≡ is
by_row e kind scope file at p q = sym (ap (λ (row : Row). operand_at scope (kind row) file at) e) ∙ sym p ∙ q

-- ---- what a number of an operand's kind lies below

right_small : (b : Bool) (test : ℕ → Bool) (k n : ℕ) → ((m : ℕ) → test m ≡ true → m ≤ k) → right b test n ≡ true → n ≤ k
right_small true test k n h e = h n e
right_small false test k n h e = omega (arith, eqb-true n 0 e)

pub operand_fits : (scope : declared.Scope) (kinds : List ℕ) → Small scope kinds → (kind : Operand) (file : List ℕ) (at : ℕ)
    {n : ℕ} {next : Cursor} → operand_at (scope_over scope kinds) kind file at ≡ Ok (n, next) → n < roof kind
operand_fits scope kinds small kind file at {n} {next} e =
    go kind (field_of_read Cause.Field (allowed (scope_over scope kinds) kind) file at (present scope.version kind) e)
  where
    go : (k : Operand) → Field (present scope.version k) (allowed (scope_over scope kinds) k) file at n next → n < roof k
    go Operand.None f = omega (arith, eqb-true n 0 f.good)
    go Operand.Temporary f = omega (arith, ltb-true n 16 f.good)
    go Operand.Number f = f.small
    go Operand.Global f = omega (arith, kind_below kinds 0 n f.good, small.few_objects)
    go Operand.Site f = omega (arith, kind_below kinds 1 n f.good, small.few_objects)
    go Operand.Set f =
        let s = right_small (has_sets scope.version) (λ m. ltb m scope.sets) 400 n
        (λ m h. let b = ltb-true m scope.sets h in let t = small.few_sets in omega arith) f.good in
        omega arith
    go Operand.Offset f = omega (arith, leb-true n 65535 f.good)
    go Operand.Target f = omega (arith, ltb-true n scope.lines f.good, small.few_lines)
    go Operand.Color f = let b = within_bounds 2 255 n f.good in omega (arith, b.1)
