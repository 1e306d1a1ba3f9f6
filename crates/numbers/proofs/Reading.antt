-- Reading a number, turn by turn: where a reading stands after i groups, and what its next turn answers.
-- The loop of `read_number` and the laws on reading go by the same six steps.
use mathlib.Core.Path.{◌≡◌, refl, ap, ◌∙◌}
use mathlib.Core.List.{List}
use mathlib.Core.Bool.{true, false}
use mathlib.Core.Logic.{◌⊎◌, inl, inr}
use Prim.Native.Nat.{ℕ, suc, ◌+◌, ◌-◌, ◌*◌, ◌%◌, ◌^◌, ◌<◌, ◌≤◌}
use native.Mathlib.Nat.{mul-le-mul_right, lt_of_lt_of_le, mod-eq_of_lt}
use native.Mathlib.Decide.{dec_lt, ℕ_discrete}
use native.Mathlib.Omega.{arith}
use lib.ListN.{length, get_or}
use lib.Pow.{pow-add, pow_mono}
use lib.Bits.{bit_and, and_mask}
use borrow.Author.Tests.{lt-ltb, le-ltb, le-leb, lt-leb, eq-eqb, ne_eqb}
use Rattle.std.specs.Prelude.{Ok}
use Rattle.numbers.specs.Number.{read_groups, read_number, ends_early, bad_number, largest, shortest}

-- ---- the arithmetic of groups

-- a group is worth 128 of the one below it
pub next_power : (i : ℕ) → 2 ^ (7 * (i + 1)) ≡ 2 ^ (7 * i) * 128
next_power i =
    let e : 7 * (i + 1) ≡ 7 * i + 7 = omega arith in
    ap (λ (k : ℕ). 2 ^ k) e ∙ pow-add 2 (7 * i) 7

-- a value with one group more, on top of the i that it has
abbrev pub joined : (value group i : ℕ) → ℕ
joined value group i = value + group * 2 ^ (7 * i)

-- it stays below the next power
grows : (i : ℕ) {value group : ℕ} → value < 2 ^ (7 * i) → group < 128 → joined value group i < 2 ^ (7 * (i + 1))
grows i {value} {group} v g =
    let g' : group ≤ 127 = omega arith in
    omega (arith, next_power i, mul-le-mul_right (2 ^ (7 * i)) g')

-- five groups, a fifth of them at most 15, are a number of 32 bits
pub fits : (i : ℕ) {value group : ℕ} → i < 5 → value < 2 ^ (7 * i) → group < 128 → (i ≡ 4 → group ≤ 15)
    → joined value group i < 2 ^ 32
fits i {value} {group} l v g fifth =
    elim (dec_lt i 4) [
      | yes h ↦ lt_of_lt_of_le (grows i v g) (pow_mono {j = 32} (omega arith))
      | no h ↦
          let e : i ≡ 4 = omega arith in
          let b : group ≤ 15 = fifth e in
          let v' : value < 2 ^ (7 * 4) = rw e at v in
          rw e (omega arith)
    ]

-- mask and shift join a byte's group to the value, and no bit is lost
pub shifted : (i : ℕ) {value : ℕ} (byte : ℕ) → i < 5 → value < 2 ^ (7 * i) → (i ≡ 4 → byte % 128 ≤ 15)
    → value + bit_and byte 127 * 2 ^ (7 * i) % 2 ^ 32 ≡ joined value (byte % 128) i
shifted i {value} byte l v fifth =
    let small = fits i l v (omega arith) fifth in
    rw (and_mask byte 7) (ap (λ (x : ℕ). value + x) (mod-eq_of_lt (omega arith)))

-- ---- the two tests, as facts

-- what holds of 255 before the fifth group, and of 15 there, holds of the largest byte
by_largest : (P : ℕ → Type 0) (i : ℕ) → (i < 4 → P 255) → (4 ≤ i → P 15) → P (largest i)
by_largest P i below fifth =
    elim (dec_lt i 4) [
      | yes h ↦ rw (lt-ltb i 4 h, largest) (below h)
      | no h ↦ let t : 4 ≤ i = omega arith in rw (le-ltb i 4 t, largest) (fifth t)
    ]

-- a byte may stand as group i, if only a fifth is at most 15
pub may_stand : (i : ℕ) {byte : ℕ} → i < 5 → byte ≤ 255 → (i ≡ 4 → byte ≤ 15) → byte ≤ largest i
may_stand i {byte} l b h = by_largest (λ most. byte ≤ most) i (λ _. b) (λ t. h (omega arith))

-- and one that may stand as the fifth is
pub fifth_most : (i : ℕ) {byte : ℕ} → byte ≤ largest i → i ≡ 4 → byte ≤ 15
fifth_most i {byte} b e = rw (e, largest) at b

pub largest_most : (i : ℕ) → largest i ≤ 255
largest_most i = by_largest (λ most. most ≤ 255) i (λ h. omega arith) (λ h. omega arith)

-- a last group of 0 is the only one
pub short : (i byte : ℕ) → (byte ≡ 0 → i ≡ 0) → shortest i byte ≡ true
short i byte h =
    elim (ℕ_discrete byte 0) [
      | yes e ↦ simp (eq-eqb byte 0 e, eq-eqb i 0 (h e), shortest)
      | no e ↦ simp (ne_eqb byte 0 e, shortest)
    ]

-- a last group of 0 behind others is not short
pub not_short : (i byte : ℕ) → byte ≡ 0 → 0 < i → shortest i byte ≡ false
not_short i byte e t =
    let other : i ≡ 0 → ⊥ = λ z. omega arith in
    simp (eq-eqb byte 0 e, ne_eqb i 0 other, shortest)

pub short_or_long : (i byte : ℕ) → (byte ≡ 0 → i ≡ 0) ⊎ (shortest i byte ≡ false)
short_or_long i byte =
    elim (ℕ_discrete byte 0) [
      | no e ↦ inl (λ z. absurd (e z))
      | yes e ↦
          elim (ℕ_discrete i 0) [
            | yes z ↦ inl (λ _. z)
            | no z ↦ inr (not_short i byte e (omega arith))
          ]
    ]

-- ---- a reading

-- i groups are read, the next is at `at`, and what is left to read answers what the whole reading does
pub record Reading (file : List ℕ) (first at value i : ℕ) : Type 0 where
  pub place : at ≡ first + i
  pub small : value < 2 ^ (7 * i)
  pub answer : read_groups (5 - i) file first i value ≡ read_number file first

pub start : (file : List ℕ) (first : ℕ) → Reading file first first 0 0
start file first = record { place = omega arith; small = omega arith; answer = refl }

-- a turn is left
turn_left : (i : ℕ) → i < 5 → 5 - i ≡ suc (5 - (i + 1))
turn_left i h = omega arith

module _ {file : List ℕ} {first at value i : ℕ} (r : Reading file first at value i) where
  pub end : 5 ≤ i → bad_number first ≡ read_number file first
  unfolding read_groups
  end h =
      let e : 5 - i ≡ 0 = omega arith in
      rw e at r.answer

  module _ (limit : i < 5) where
    pub early : length file ≤ at → ends_early file ≡ read_number file first
    unfolding read_groups
    early t = simp (turn_left i limit, ← r.place, le-ltb _ _ t, read_groups) at r.answer

    module _ (inside : at < length file) where
      pub over : largest i < get_or file at 0 → bad_number first ≡ read_number file first
      unfolding read_groups
      over t = simp (turn_left i limit, ← r.place, lt-ltb _ _ inside, lt-leb _ _ t, read_groups) at r.answer

      module _ (allowed : get_or file at 0 ≤ largest i) where
        pub more : 128 ≤ get_or file at 0 → Reading file first (at + 1) (joined value (get_or file at 0 % 128) i) (i + 1)
        unfolding read_groups
        more t =
            record {
              place = omega (arith, r.place);
              small = grows i r.small (omega arith);
              answer =
                  simp (turn_left i limit, ← r.place, lt-ltb _ _ inside, le-leb _ _ allowed, le-ltb _ _ t, read_groups)
                  at r.answer;
            }

        module _ (final : get_or file at 0 < 128) where
          pub long : shortest i (get_or file at 0) ≡ false → bad_number first ≡ read_number file first
          unfolding read_groups
          long t =
              simp (turn_left i limit, ← r.place, lt-ltb _ _ inside, le-leb _ _ allowed, lt-ltb _ _ final, t, read_groups)
              at r.answer

          pub last : shortest i (get_or file at 0) ≡ true
              → Ok (joined value (get_or file at 0) i, record { at = at + 1 }) ≡ read_number file first
          unfolding read_groups
          last t =
              simp (turn_left i limit, ← r.place, lt-ltb _ _ inside, le-leb _ _ allowed, lt-ltb _ _ final, t, read_groups)
              at r.answer

      -- a byte that another follows: one group more, and behind a fifth what is left to read is refused
      pub followed : get_or file at 0 ≤ 255 → 128 ≤ get_or file at 0
          → Reading file first (at + 1) (joined value (get_or file at 0 % 128) i) (i + 1)
      unfolding read_groups
      followed b t =
          elim (dec_lt i 4) [
            | yes h ↦ more (may_stand i limit b (λ e. absurd (omega arith))) t
            | no h ↦
                let four : i ≡ 4 = omega arith in
                let none : 5 - (i + 1) ≡ 0 = omega arith in
                record {
                  place = omega (arith, r.place);
                  small = grows i r.small (omega arith);
                  answer = rw none (over (rw (four, largest) (omega arith)));
                }
          ]
