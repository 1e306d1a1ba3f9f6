-- Writing a number, turn by turn: where a writing stands before its next group, and what a turn does.
use mathlib.Core.Path.{◌≡◌, refl, ◌∙◌}
use mathlib.Core.List.{List}
use Prim.Native.Nat.{ℕ, ◌+◌, ◌/◌, ◌%◌, ◌^◌, ◌<◌, ◌≤◌}
use native.Mathlib.Numerals.{add-one}
use native.Mathlib.Decide.{dec_lt}
use native.Mathlib.Omega.{arith}
use lib.ListN.{length, set, length-set}
use lib.Seq.{sets}
use Rattle.numbers.specs.Number.{spell, width}
use Rattle.numbers.proofs.Spelling.{spell_last, spell_more, width_least, width_last, width_more}

-- the rest of n is to be written from `place` on, and that will leave what writing n at `at` leaves
pub record Writing (before : List ℕ) (at n : ℕ) (room : List ℕ) (rest place : ℕ) : Type 0 where
  pub fits : at + width n ≤ length before
  pub small : rest < 2 ^ 32
  pub as_long : length room ≡ length before
  pub ends : place + width rest ≡ at + width n
  pub leaves : sets room place (spell rest) ≡ sets before at (spell n)

pub start : (room : List ℕ) (at n : ℕ) → at + width n ≤ length room → n < 2 ^ 32
    → Writing room at n room n at
start room at n f h = record { fits = f; small = h; as_long = refl; ends = refl; leaves = refl }

module _ {before room : List ℕ} {at n rest place : ℕ} (w : Writing before at n room rest place) where
  -- the next byte has its room
  pub inside : place < length room
  inside = omega (arith, w.fits, w.as_long, w.ends, width_least rest)

  -- where the last byte's place is reached, one group is left, and before it more than one
  pub final : at + width n ≤ place + 1 → rest < 128
  final h =
      elim (dec_lt rest 128) [
        | yes t ↦ t
        | no t ↦
            let more_left : 128 ≤ rest = omega arith in
            absurd (omega (arith, w.ends, width_more rest more_left (omega (arith, w.small)), width_least (rest / 128)))
      ]

  pub followed : place + 1 < at + width n → 128 ≤ rest
  followed h =
      elim (dec_lt rest 128) [
        | yes t ↦ absurd (omega (arith, w.ends, width_last rest t))
        | no t ↦ omega arith
      ]

  pub more : 128 ≤ rest → Writing before at n (set room place (rest % 128 + 128)) (rest / 128) (place + 1)
  more t =
      record {
        fits = w.fits;
        small = omega (arith, w.small);
        as_long = length-set room place (rest % 128 + 128) ∙ w.as_long;
        ends = omega (arith, w.ends, width_more rest t (omega (arith, w.small)));
        leaves = rw add-one (rw (spell_more rest t (omega (arith, w.small))) at w.leaves);
      }

  module _ (t : rest < 128) where
    pub last_ends : place + 1 ≡ at + width n
    last_ends = omega (arith, w.ends, width_last rest t)

    pub last_leaves : set room place rest ≡ sets before at (spell n)
    last_leaves = rw (spell_last rest t) at w.leaves
