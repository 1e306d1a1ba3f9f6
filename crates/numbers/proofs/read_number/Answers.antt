use mathlib.Core.Path.{◌≡◌, ap, ◌∙◌}
use mathlib.Core.Logic.{◌⊎◌, inl, inr}
use Prim.Native.Nat.{ℕ, ◌+◌, ◌%◌, ◌<◌, ◌≤◌}
use native.Mathlib.Omega.{arith}
use lib.ListN.{get_or}
use lib.Bits.{bit_and, and_mask}
use Rattle.std.specs.Prelude.{Ok}
use Rattle.numbers.specs.Number.{largest}
use Rattle.numbers.proofs.Reading.{end, early, over, followed, long, last}
use Rattle.numbers.proofs.Reading.{shifted, may_stand, short, not_short}
use Rattle.numbers.proofs.read_number.Goals as goal

-- the bits of a byte of the file
bits : (byte : ℕ) → bit_and byte 127 ≡ byte % 128
bits byte = and_mask byte 7

-- behind the test of a fifth group
four_bits : (group byte : ℕ) → ((group ≡ 4) × (bit_and byte 127 ≤ 15)) ⊎ (group ≡ 4 → ⊥) → group ≡ 4 → byte % 128 ≤ 15
four_bits group byte (inl t) e = omega (arith, t.1, bits byte)
four_bits group byte (inr w) e = absurd (w e)

-- behind the test of the shortest form
alone : (group byte : ℕ) → ((bit_and byte 127 ≡ 0) × (group ≤ 0)) ⊎ (bit_and byte 127 ≡ 0 → ⊥) → byte ≡ 0 → group ≡ 0
alone group byte (inl t) e = omega (arith, t.1)
alone group byte (inr w) e = absurd (w (omega (arith, e, bits byte)))

pub returns-then-file-at : goal.returns-then-file-at
returns-then-file-at c =
    let l = c in
    c.refused.ensures
    ∙ early l.loop-group.invariant.1 (omega (arith, l.loop-group-test.true)) c.if-file-at.true

pub returns-then-bits-gt15 : goal.returns-then-bits-gt15
returns-then-bits-gt15 c =
    let byte : ℕ = get_or c.args.file.now c.loop-group.at 0 in
    let over_it : largest c.loop-group.group < byte =
    let fifth : c.loop-group.group ≡ 4 = omega (arith, c.if-group-eq4.true) in rw (fifth, largest) (omega (arith, bits byte)) in
    c.refused-then-bits-gt15.ensures ∙ over c.loop-group.invariant.1 c.loop-group-test.true c.if-file-at.false over_it

pub returns-then-group-gt0 : goal.returns-then-group-gt0
returns-then-group-gt0 c =
    let byte : ℕ = get_or c.args.file.now c.loop-group.at 0 in
    let none : byte ≡ 0 = omega (arith, c.if-byte-lt128.true, c.if-bits-eq0.true, bits byte) in
    let most : byte ≤ largest c.loop-group.group =
    may_stand _ c.loop-group-test.true (omega arith)
    (λ e. omega (arith, c.if-byte-lt128.true, four_bits c.loop-group.group byte c.else-group-eq4.either e)) in
    c.refused-then-group-gt0.ensures
    ∙ long c.loop-group.invariant.1 c.loop-group-test.true c.if-file-at.false most c.if-byte-lt128.true
    (not_short c.loop-group.group byte none c.if-group-gt0.true)

pub returns-then-byte-lt128 : goal.returns-then-byte-lt128
returns-then-byte-lt128 c =
    let byte : ℕ = get_or c.args.file.now c.loop-group.at 0 in
    let four = four_bits c.loop-group.group byte c.else-group-eq4.either in
    let whole : byte % 128 ≡ byte = omega (arith, c.if-byte-lt128.true) in
    let most : byte ≤ largest c.loop-group.group =
    may_stand _ c.loop-group-test.true (omega arith) (λ e. omega (arith, c.if-byte-lt128.true, four e)) in
    let joins = shifted _ byte c.loop-group-test.true c.loop-group.invariant.1.small four in
    ap (λ (v : ℕ). Ok (v, record { at = c.loop-group.at + 1 })) (rw whole at joins)
    ∙ last c.loop-group.invariant.1 c.loop-group-test.true c.if-file-at.false most c.if-byte-lt128.true
    (short c.loop-group.group byte (alone c.loop-group.group byte c.else-bits-eq0.either))

pub loop-group-preserved : goal.loop-group-preserved
loop-group-preserved c =
    let byte : ℕ = get_or c.args.file.now c.loop-group.at 0 in
    let joins =
    shifted _ byte c.loop-group-test.true c.loop-group.invariant.1.small
    (four_bits c.loop-group.group byte c.else-group-eq4.either) in (
      omega arith,
      rw joins
          (followed c.loop-group.invariant.1 c.loop-group-test.true c.if-file-at.false
          (omega (arith, c.type_inv.file c.loop-group.at)) c.if-byte-lt128.false),
    )

pub returns : goal.returns
returns c = c.refused-2.ensures ∙ end c.loop-group.invariant.1 (omega (arith, c.loop-group-test.false))
