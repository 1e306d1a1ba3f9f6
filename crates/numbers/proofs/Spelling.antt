-- How a number is spelled: its last group, a group that another follows, and how many there are.
use mathlib.Core.Path.{◌≡◌, sym, ap, ap₂, ◌∙◌}
use mathlib.Core.List.{List, [], ◌∷◌}
use Prim.Native.Nat.{ℕ, zero, suc, ◌+◌, ◌*◌, ◌/◌, ◌%◌, ◌^◌, ◌<◌, ◌≤◌}
use native.Mathlib.Decide.{dec_lt}
use native.Mathlib.Omega.{arith}
use lib.ListN.{length, get_or}
use borrow.Author.Tests.{lt-ltb, le-ltb}
use Rattle.numbers.specs.Number.{groups, spell, width}

-- ---- at most some groups

-- a number of one group is its own spelling
pub groups_last : (most n : ℕ) → n < 128 → groups (suc most) n ≡ n ∷ []
unfolding groups
groups_last most n h = simp (lt-ltb _ _ h, groups)

-- a longer one is its low group, with the top bit, and what is above it
pub groups_more : (most n : ℕ) → 128 ≤ n → groups (suc most) n ≡ (n % 128 + 128) ∷ groups most (n / 128)
unfolding groups
groups_more most n h = simp (le-ltb _ _ h, groups)

-- the same from the byte's side
pub groups_join : (most byte k : ℕ) → 128 ≤ byte → byte < 256 → 0 < k
    → groups (suc most) (byte % 128 + k * 128) ≡ byte ∷ groups most k
groups_join most byte k t b h =
    let n : ℕ = byte % 128 + k * 128 in
    let low : n % 128 + 128 ≡ byte = omega arith in
    let high : n / 128 ≡ k = omega arith in
    groups_more most n (omega arith) ∙ ap₂ (λ (x y : ℕ). x ∷ groups most y) low high

-- what holds of either holds of every spelling
either : (P : List ℕ → Type 0) (most n : ℕ) → (n < 128 → P (n ∷ []))
    → (128 ≤ n → P ((n % 128 + 128) ∷ groups most (n / 128))) → P (groups (suc most) n)
either P most n one more =
    elim (dec_lt n 128) [
      | yes t ↦ rw (groups_last most n t) (one t)
      | no t ↦ let t' : 128 ≤ n = omega arith in rw (groups_more most n t') (more t')
    ]

-- one group more than a number needs changes nothing
groups_enough : (most n : ℕ) → n < 128 ^ suc most → groups (suc most) n ≡ groups (suc (suc most)) n
groups_enough zero n h = groups_last 0 n h ∙ sym (groups_last 1 n h)
groups_enough (suc most) n h =
    either (λ bytes. bytes ≡ groups (suc (suc (suc most))) n) (suc most) n (λ t. sym (groups_last _ n t))
    (λ t. ap (◌∷◌ (n % 128 + 128)) (groups_enough most (n / 128) (omega arith)) ∙ sym (groups_more _ n t))

groups_most : (most n : ℕ) → length (groups most n) ≤ most
unfolding groups
groups_most zero n = omega arith
groups_most (suc most) n =
    either (λ bytes. length bytes ≤ suc most) most n (λ t. omega arith)
    (λ t. omega (arith, groups_most most (n / 128)))

groups_byte : (most n k : ℕ) → get_or (groups most n) k 0 < 256
unfolding groups
groups_byte zero n k = omega arith
groups_byte (suc most) n zero = either (λ bytes. get_or bytes 0 0 < 256) most n (λ t. omega arith) (λ t. omega arith)
groups_byte (suc most) n (suc k) =
    either (λ bytes. get_or bytes (suc k) 0 < 256) most n (λ t. omega arith) (λ t. groups_byte most (n / 128) k)

-- ---- the spelling

pub spell_last : (n : ℕ) → n < 128 → spell n ≡ n ∷ []
spell_last = groups_last 4

pub spell_more : (n : ℕ) → 128 ≤ n → n < 2 ^ 35 → spell n ≡ (n % 128 + 128) ∷ spell (n / 128)
spell_more n h b = groups_more 4 n h ∙ ap (◌∷◌ (n % 128 + 128)) (groups_enough 3 (n / 128) (omega arith))

-- what is written are bytes
pub spell_byte : (n k : ℕ) → get_or (spell n) k 0 < 256
spell_byte = groups_byte 5

pub width_last : (n : ℕ) → n < 128 → width n ≡ 1
width_last n h = ap length (spell_last n h)

pub width_more : (n : ℕ) → 128 ≤ n → n < 2 ^ 35 → width n ≡ suc (width (n / 128))
width_more n h b = ap length (spell_more n h b)

pub width_least : (n : ℕ) → 1 ≤ width n
width_least n = either (λ bytes. 1 ≤ length bytes) 4 n (λ t. omega arith) (λ t. omega arith)

pub width_most : (n : ℕ) → width n ≤ 5
width_most = groups_most 5
