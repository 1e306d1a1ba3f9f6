-- Reading and spelling are one. A reading ends in refusal 2 or 3, or it finds a number's spelling (`outcome`, by
-- induction on the groups that may still come, with the steps of `Reading`); and where a spelling stands, the
-- reading answers its number (`reads`, by the same induction).
use mathlib.Core.Path.{◌≡◌, refl, sym, ap, ap₂, ◌∙◌}
use mathlib.Core.List.{List, ◌∷◌, ◌++◌}
use mathlib.Core.Logic.{◌⊎◌, inl, inr}
use Prim.Native.Nat.{ℕ, zero, suc, ◌+◌, ◌*◌, ◌/◌, ◌%◌, ◌^◌, ◌<◌, ◌≤◌}
use native.Mathlib.Nat.{div-add-mod'}
use native.Mathlib.Numerals.{add-one}
use native.Mathlib.Decide.{dec_lt, dec_le}
use native.Mathlib.Omega.{arith}
use lib.ListN.{length, get_or, drop, length-drop}
use lib.Seq.{drop-cons}
use Rattle.std.specs.Prelude.{Ok, Err}
use Rattle.numbers.specs.Refusals.{refusal}
use Rattle.numbers.specs.declared.refusal.Cause.{Cause}
use Rattle.numbers.specs.Number.{groups, largest, read_number}
use Rattle.numbers.specs.declared.Cursor.{Cursor}
use Rattle.numbers.specs.declared.refusal.Refusal.{Refusal}
use Rattle.numbers.proofs.Spelling.{groups_last, groups_more, groups_join}
use Rattle.numbers.proofs.Reading.{Reading, end, early, over, more, long, last}
use Rattle.numbers.proofs.Reading.{joined, next_power, fits, fifth_most, may_stand, largest_most, short, short_or_long}

-- from `at` on stand the groups of `rest`, which with the value of the i groups before make n; c is behind them
pub record Found (left : ℕ) (file : List ℕ) (at value i n : ℕ) (c : Cursor) : Type 0 where
  pub rest : ℕ
  pub sum : n ≡ joined value rest i
  pub shortly : rest ≡ 0 → i ≡ 0
  pub stands : drop at file ≡ groups left rest ++ drop c.at file
  pub ends : c.at ≡ at + length (groups left rest)
  pub small : n < 2 ^ 32

pub data Outcome (left : ℕ) (file : List ℕ) (first at value i : ℕ) : Type 0 where
  refused : (q : Refusal) → Err q ≡ read_number file first
      → (q ≡ refusal Cause.EndsEarly (length file)) ⊎ (q ≡ refusal Cause.BadNumber first)
      → Outcome left file first at value i
  number : (n : ℕ) (c : Cursor) → Ok (n, c) ≡ read_number file first → Found left file at value i n c
      → Outcome left file first at value i

-- ---- from the reading to the spelling

-- a group that is not the first is not 0
positive : (i k : ℕ) → 0 < i → (k ≡ 0 → i ≡ 0) → 0 < k
positive i k p h = elim (dec_lt 0 k) [ yes q ↦ q | no q ↦ let e : k ≡ 0 = omega arith in omega (arith, h e) ]

here : (file : List ℕ) (at : ℕ) → at < length file → drop at file ≡ get_or file at 0 ∷ drop (at + 1) file
here file at h = rw (add-one, drop-cons file at 0)

module _ {file : List ℕ} {at value i : ℕ} (inside : at < length file) where
  -- the last group
  found_last : (left : ℕ) → i < 5 → value < 2 ^ (7 * i) → get_or file at 0 ≤ largest i → get_or file at 0 < 128
      → (get_or file at 0 ≡ 0 → i ≡ 0)
      → Found (suc left) file at value i (joined value (get_or file at 0) i) (record { at = at + 1 })
  found_last left limit v allowed final only =
      record {
        rest = get_or file at 0;
        sum = refl;
        shortly = only;
        stands = here file at inside ∙ rw (groups_last left _ final);
        ends = rw (groups_last left _ final);
        small = fits i limit v final (fifth_most i allowed);
      }

  -- one group more in front of what is found
  found_more : (left : ℕ) {n : ℕ} {c : Cursor} → get_or file at 0 ≤ largest i → 128 ≤ get_or file at 0
      → Found left file (at + 1) (joined value (get_or file at 0 % 128) i) (i + 1) n c → Found (suc left) file at value i n c
  found_more left allowed t f =
      let above : 0 < f.rest = positive (i + 1) f.rest (omega arith) f.shortly in
      let spelled = groups_join left (get_or file at 0) f.rest t (omega (arith, largest_most i)) above in
      record {
        rest = get_or file at 0 % 128 + f.rest * 128;
        sum = omega (arith, rw (next_power i) at f.sum);
        shortly = λ z. absurd (omega arith);
        stands = here file at inside ∙ rw spelled (ap (◌∷◌ (get_or file at 0)) f.stands);
        ends = rw spelled (omega (arith, f.ends));
        small = f.small;
      }

  also : {first left : ℕ} → get_or file at 0 ≤ largest i → 128 ≤ get_or file at 0
      → Outcome left file first (at + 1) (joined value (get_or file at 0 % 128) i) (i + 1)
      → Outcome (suc left) file first at value i
  also allowed t (refused q e which) = refused q e which
  also {left = left} allowed t (number n c e f) = number n c e (found_more left allowed t f)

pub outcome : (left : ℕ) {file : List ℕ} {first at value i : ℕ} → i + left ≡ 5 → Reading file first at value i
    → Outcome left file first at value i
outcome zero l r = refused _ (end r (omega arith)) (inr refl)
outcome (suc left) {file} {first} {at} {value} {i} l r =
    let limit : i < 5 = omega arith in
    elim (dec_lt at (length file)) [
      | no h ↦ refused _ (early r limit (omega arith)) (inl refl)
      | yes inside ↦
          elim (dec_le (get_or file at 0) (largest i)) [
            | no h ↦ refused _ (over r limit inside (omega arith)) (inr refl)
            | yes allowed ↦
                elim (dec_lt (get_or file at 0) 128) [
                  | no h ↦
                      let t : 128 ≤ get_or file at 0 = omega arith in
                      also inside allowed t (outcome left (omega arith) (more r limit inside allowed t))
                  | yes final ↦
                      elim (short_or_long i (get_or file at 0)) [
                        | inl only ↦
                            number _ _ (last r limit inside allowed final (short i _ only))
                            (found_last inside left limit r.small allowed final only)
                        | inr t ↦ refused _ (long r limit inside allowed final t) (inr refl)
                      ]
                ]
          ]
    ]

-- ---- from the spelling to the reading

-- what stands at the front of a part
front : (s : List ℕ) (at b : ℕ) (t : List ℕ) → drop at s ≡ b ∷ t
    → (at < length s) × (get_or s at 0 ≡ b) × (drop (at + 1) s ≡ t)
front s at b t e =
    let inside : at < length s = omega (arith, length-drop at s, ap length e) in
    let both : get_or s at 0 ∷ drop (at + 1) s ≡ b ∷ t = sym (here s at inside) ∙ e in
    (inside, cc, cc)

pub reads : (left : ℕ) {file : List ℕ} {first at value i n : ℕ} {c : Cursor} → i + left ≡ 5
    → Reading file first at value i → Found left file at value i n c → read_number file first ≡ Ok (n, c)
reads zero {value = value} {i = i} {n = n} l r f =
    let five : i ≡ 5 = omega arith in
    let s : n ≡ joined value f.rest 5 = rw five at f.sum in
    absurd (omega (arith, f.small, positive i f.rest (omega arith) f.shortly))
reads (suc left) {file} {first} {at} {value} {i} {n} {c} l r f =
    let limit : i < 5 = omega arith in
    elim (dec_lt f.rest 128) [
      | yes t ↦
          let (inside, is, behind) = front file at f.rest _ (rw (groups_last left _ t) at f.stands) in
          let ends : c.at ≡ at + 1 = rw (groups_last left _ t) at f.ends in
          let only : get_or file at 0 ≡ 0 → i ≡ 0 = λ z. f.shortly (sym is ∙ z) in
          sym (last r limit inside (allowed (omega arith) (λ h. omega arith)) (omega arith) (short i _ only))
          ∙ ap₂ (λ (v a : ℕ). Ok (v, record { at = a })) (rw is (sym f.sum)) (sym ends)
      | no t ↦
          let t' : 128 ≤ f.rest = omega arith in
          let (inside, is, behind) = front file at _ _ (rw (groups_more left _ t') at f.stands) in
          let low : get_or file at 0 % 128 ≡ f.rest % 128 = omega arith in
          let split = ap (λ (x : ℕ). x * 2 ^ (7 * i)) (div-add-mod' f.rest 128) in
          reads left (omega arith) (more r limit inside (allowed (omega arith) (λ h. omega arith)) (omega arith))
          (record {
            rest = f.rest / 128;
            sum = rw (low, next_power i) (omega (arith, f.sum, split));
            shortly = λ z. absurd (omega arith);
            stands = behind;
            ends = omega (arith, rw (groups_more left _ t') at f.ends);
            small = f.small;
          })
    ]
  where
    -- a fifth group has four bits
    allowed : get_or file at 0 ≤ 255 → (f.rest ≤ 15 → get_or file at 0 ≤ 15) → get_or file at 0 ≤ largest i
    allowed b h =
        may_stand i (omega arith) b
        (λ four.
        let s : n ≡ joined value f.rest 4 = rw four at f.sum in
        h (omega (arith, f.small)))
