-- One instruction: what is read is what is spelled there.
use Prim.Native.Nat.{ℕ, suc, ◌+◌, ◌^◌, ◌<◌}
use mathlib.Core.Path.{◌≡◌, refl, sym, ap, ◌∙◌, subst}
use mathlib.Core.List.{List, [], ◌∷◌}
use mathlib.Core.Bool.{Bool, true, false}
use native.Mathlib.Omega.{arith}
use lib.ListN.{length}
use lib.Dec.{eqb}
use borrow.Author.Tests.{eqb-true, leb-true, ltb-true}
use Rattle.std.specs.Prelude.{Ok, Err}
use Rattle.numbers.specs.declared.refusal.Cause.{Cause}
use Rattle.numbers.specs.declared.Cursor.{Cursor}
use Rattle.numbers.specs.Number.{Read}
use Rattle.numbers.specs.Number.{spell}
use Rattle.opcodes.proofs.Bounds.{within_bounds, opcode_below, kind_below}
use Rattle.opcodes.proofs.Operands.{each_then}
use Rattle.instructions.proofs.Parting.{Blank, numbers_parts, parts_make, make_parts}
use Rattle.opcodes.specs.declared.Operand.{Operand}
use Rattle.opcodes.specs.declared.Instr.{Instr}
use Rattle.opcodes.specs.declared.Parts.{Parts}
use Rattle.opcodes.specs.Table.{row_of, operands_of, make, parts_in, numbers_of, parts_of, named, operands_in, Each}
use Rattle.opcodes.specs.Ranges.{Scope, present, allowed, has_opcode}
use Rattle.files.specs.Reading.{judged}
use Rattle.files.specs.Writing.{spell_if, spell_operands, spell_parts, spell_instr, good_operand, good_operands, good_parts, good_instr}
use Rattle.files.proofs.SpelledNumbers.{Stands, stands_nil, stands_append, stands_split, Judged, judged_of_read, read_of_judged, optional_of_read, read_of_optional}
use Rattle.files.proofs.OneInstr.{an_opcode, an_operand}
use Rattle.files.proofs.Answered.{same_thing, same_cursor}
use Rattle.files.proofs.Tests.{both_true, both_left, both_right}
use Rattle.files.specs.Parsing.{cursor, then, operand_at, operands_at, read_instr}

-- ---- operands

-- what an operand's place in a good file says: its kind's counts are those of a file
pub record Bounded (scope : Scope) : Type 0 where
  pub kinds : length scope.kinds < 2 ^ 32
  pub sets : scope.sets < 2 ^ 32
  pub code : scope.code < 2 ^ 32

blank_of_good : (scope : Scope) (kind : Operand) (n : ℕ) → good_operand scope kind n ≡ true → Blank kind n
blank_of_good scope Operand.None n g = eqb-true n 0 g
blank_of_good scope Operand.Temporary n g = tt
blank_of_good scope Operand.Number n g = tt
blank_of_good scope Operand.Global n g = tt
blank_of_good scope Operand.Site n g = tt
blank_of_good scope Operand.Set n g = tt
blank_of_good scope Operand.Offset n g = tt
blank_of_good scope Operand.Target n g = tt
blank_of_good scope Operand.Color n g = tt

small_of_allowed : (scope : Scope) → Bounded scope → (kind : Operand) (n : ℕ) → allowed scope kind n ≡ true → n < 2 ^ 32
small_of_allowed scope b Operand.None n e = omega (arith, eqb-true n 0 e)
small_of_allowed scope b Operand.Temporary n e = omega (arith, ltb-true n 16 e)
small_of_allowed scope b Operand.Number n e = omega (arith, leb-true n 4294967295 e)
small_of_allowed scope b Operand.Global n e = omega (arith, kind_below scope.kinds 0 n e, b.kinds)
small_of_allowed scope b Operand.Site n e = omega (arith, kind_below scope.kinds 1 n e, b.kinds)
small_of_allowed scope b Operand.Set n e = omega (arith, ltb-true n scope.sets e)
small_of_allowed scope b Operand.Offset n e = omega (arith, leb-true n 65535 e)
small_of_allowed scope b Operand.Target n e = omega (arith, ltb-true n scope.code e)
small_of_allowed scope b Operand.Color n e = omega (arith, (within_bounds 2 255 n e).1)

small_of_good : (scope : Scope) → Bounded scope → (kind : Operand) (n : ℕ) → good_operand scope kind n ≡ true → n < 2 ^ 32
small_of_good scope b kind n g = go (present scope.version kind) g
  where
    go : (s : Bool) → elim s as (λ _. Bool) [ true ↦ allowed scope kind n | false ↦ eqb n 0 ] ≡ true → n < 2 ^ 32
    go true g = small_of_allowed scope b kind n g
    go false g = omega (arith, eqb-true n 0 g)

-- ---- an instruction

-- each operand is good
abbrev pub Good : Scope → Operand → ℕ → Type 0
Good scope kind n = good_operand scope kind n ≡ true

pub each_good : (scope : Scope) (os : List (Operand × ℕ)) → good_operands scope os ≡ true → Each (Good scope) os
each_good scope [] g = tt
each_good scope (o ∷ os) g =
    let this : Bool = good_operand scope o.0 o.1 in
    (both_left this (good_operands scope os) g, each_good scope os (both_right this (good_operands scope os) g))

module _ (scope : Scope) (file : List ℕ) where
  -- the numbers that were read, one for each kind
  record Found (kinds : List Operand) (at : ℕ) (k : List ℕ → Instr) (i : Instr) (next : ℕ) : Type 0 where
    numbers : List ℕ
    many : length numbers ≡ length kinds
    made : k numbers ≡ i
    stood : Stands file at (spell_operands scope.version (named kinds numbers)) next
    passes : good_operands scope (named kinds numbers) ≡ true

  found : (kinds : List Operand) (from : Cursor) (k : List ℕ → Instr) (i : Instr) (c : Cursor)
      → operands_at scope kinds file from k ≡ Ok (i, c) → Found kinds from.at k i c.at
  found [] from k i c e =
      let made : k [] ≡ i = same_thing e in
      let ends : from ≡ c = same_cursor e in
      record { numbers = []; many = refl; made = made; stood = subst (λ (d : Cursor). Stands file from.at [] d.at) ends (stands_nil file from.at); passes = refl }
  found (kind ∷ kinds) from k i c e =
      go (operand_at scope kind file from.at) refl e (λ n next. found kinds next (λ ns. k (n ∷ ns)) i c)
    where
      go : (r : Read) → operand_at scope kind file from.at ≡ r
          → then r (λ n next. operands_at scope kinds file next (λ ns. k (n ∷ ns))) ≡ Ok (i, c)
          → ((n : ℕ) (next : Cursor) → operands_at scope kinds file next (λ ns. k (n ∷ ns)) ≡ Ok (i, c) → Found kinds next.at (λ ns. k (n ∷ ns)) i c.at)
          → Found (kind ∷ kinds) from.at k i c.at
      go (Ok (n, next)) r e more =
          let o = optional_of_read (present scope.version kind) Cause.Field (allowed scope kind) file from.at r in
          let f = more n next e in
          record {
            numbers = n ∷ f.numbers;
            many = ap suc f.many;
            made = f.made;
            stood = stands_append _ _ o.stood f.stood;
            passes = both_true _ _ o.passes f.passes;
          }
      go (Err w) r e more = let z : ◌≡◌ {A = ℕ} 0 1 = cc in absurd (omega arith)

  Right : ℕ → Instr → ℕ → Type 0
  Right at i next = Stands file at (spell_instr scope.version i) next × (good_instr scope i ≡ true)

  found_right : (at op mid next : ℕ) {i : Instr} → Judged file at (has_opcode scope.version) op mid
      → Found (operands_of (row_of op)) mid (make op) i next → Right at i next
  unfolding Right
  found_right at op mid next o f =
      let kinds : List Operand = operands_of (row_of op) in
      let same : f.numbers ≡ numbers_of (parts_in op f.numbers) = sym (numbers_parts op f.numbers f.many) in
      let back : parts_of (make op f.numbers) ≡ parts_in op f.numbers =
      parts_make op (opcode_below scope.version op o.passes) f.numbers f.many
      (each_then (blank_of_good scope) (named kinds f.numbers) (each_good scope (named kinds f.numbers) f.passes)) in
      subst (λ (j : Instr). Stands file at (spell_instr scope.version j) next × (good_instr scope j ≡ true)) f.made
      (subst (λ (p : Parts). Stands file at (spell_parts scope.version p) next × (good_parts scope p ≡ true)) (sym back) (
        stands_append _ _ o.stood (subst (λ (ns : List ℕ). Stands file mid (spell_operands scope.version (named kinds ns)) next) same f.stood),
        both_true _ _ o.passes (subst (λ (ns : List ℕ). good_operands scope (named kinds ns) ≡ true) same f.passes),
      ))

  pub instr_of_read : (at : ℕ) {i : Instr} {c : Cursor} → read_instr scope file at ≡ Ok (i, c)
      → Stands file at (spell_instr scope.version i) c.at × (good_instr scope i ≡ true)
  unfolding Right
  instr_of_read at {i} {c} e = go (judged Cause.Field (has_opcode scope.version) file at) refl e
    where
      go : (r : Read) → judged Cause.Field (has_opcode scope.version) file at ≡ r
          → then r (λ op next. operands_at scope (operands_of (row_of op)) file next (make op)) ≡ Ok (i, c) → Right at i c.at
      go (Ok (op, n)) r e =
          found_right at op n.at c.at (judged_of_read Cause.Field _ file at r) (found (operands_of (row_of op)) n (make op) i c e)
      go (Err w) r e = let z : ◌≡◌ {A = ℕ} 0 1 = cc in absurd (omega arith)

-- an operand that stands there and is good is read
read_of_operand : (scope : Scope) → Bounded scope → (file : List ℕ) (kind : Operand) (at n next : ℕ)
    → Stands file at (spell_if (present scope.version kind) n) next → good_operand scope kind n ≡ true
    → operand_at scope kind file at ≡ Ok (n, cursor next)
read_of_operand scope bounded file kind at n next s g =
    read_of_optional (present scope.version kind) Cause.Field (allowed scope kind) file at
    (record { stood = s; passes = g; small = small_of_good scope bounded kind n g })

-- operands that stand there and are good are read
read_of_operands : (scope : Scope) → Bounded scope → (file : List ℕ) (kinds : List Operand) (ns : List ℕ) (from : Cursor) (k : List ℕ → Instr) (next : ℕ)
    → length kinds ≡ length ns → Stands file from.at (spell_operands scope.version (named kinds ns)) next
    → Each (Good scope) (named kinds ns) → operands_at scope kinds file from k ≡ Ok (k ns, cursor next)
read_of_operands scope bounded file [] [] from k next e s g =
    let same : from.at ≡ next = omega (arith, s.ends) in
    ap (λ (m : ℕ). Ok (k [], cursor m)) same
read_of_operands scope bounded file [] (n ∷ ns) from k next e s g = absurd (omega arith)
read_of_operands scope bounded file (kind ∷ kinds) [] from k next e s g = absurd (omega arith)
read_of_operands scope bounded file (kind ∷ kinds) (n ∷ ns) from k next e s g =
    let (s₁, s₂) = stands_split (spell_if (present scope.version kind) n) _ s in
    an_operand scope file kind kinds from k (read_of_operand scope bounded file kind from.at n _ s₁ g.0)
    ∙ read_of_operands scope bounded file kinds ns (cursor (from.at + length (spell_if (present scope.version kind) n))) (λ ms. k (n ∷ ms)) next (omega arith) s₂ g.1

-- what good parts say, one by one
pub record GoodParts (scope : Scope) (p : Parts) : Type 0 where
  pub opcode : has_opcode scope.version p.op ≡ true
  pub operands : Each (Good scope) (operands_in p)

pub good_parts_lem : (scope : Scope) (p : Parts) → good_parts scope p ≡ true → GoodParts scope p
good_parts_lem scope p g =
    let fits : Bool = has_opcode scope.version p.op in
    record {
      opcode = both_left fits (good_operands scope (operands_in p)) g;
      operands = each_good scope (operands_in p) (both_right fits (good_operands scope (operands_in p)) g);
    }

-- a good instruction whose spelling stands there is read
pub read_of_instr : (scope : Scope) (file : List ℕ) (at : ℕ) → Bounded scope → (i : Instr) (next : ℕ)
    → Stands file at (spell_instr scope.version i) next → good_instr scope i ≡ true
    → read_instr scope file at ≡ Ok (i, cursor next)
read_of_instr scope file at bounded i next s g =
    let p : Parts = parts_of i in
    let (s₁, s₂) = stands_split (spell p.op) _ s in
    let good : GoodParts scope p = good_parts_lem scope p g in
    an_opcode scope file at
    (read_of_judged Cause.Field (has_opcode scope.version) file at
    (record { stood = s₁; passes = good.opcode; small = omega (arith, opcode_below scope.version p.op good.opcode) }))
    ∙ read_of_operands scope bounded file (operands_of (row_of p.op)) (numbers_of p) _ (make p.op) next refl s₂ good.operands
    ∙ ap (λ (j : Instr). Ok (j, cursor next)) (make_parts i)
