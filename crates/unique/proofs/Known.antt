-- Of a reader whose bytes are known: two readings into buffers of one length take as many of them, the same ones, and
-- leave the same.
use Prim.Native.Nat.{ℕ, ◌+◌, ◌<◌, ◌≤◌}
use mathlib.Core.Path.{◌≡◌, sym, ◌∙◌, ap}
use mathlib.Core.List.{List, ◌++◌}
use native.Mathlib.Decide.{dec_lt}
use native.Mathlib.Omega.{arith}
use lib.ListN.{length, take, drop, length-append}
use lib.Seq.{length-take-le, take-append_seam, drop_at}
use Rattle.std.specs.Prelude.{Option, Some, None}
use Rattle.std.specs.Io.KnownBytes.{Consumes, IsAtEnd}

-- what a reading that succeeds is known to have done
pub record Took (xs : List ℕ) (n : ℕ) (left : Option (List ℕ)) (buffer : List ℕ) : Type 0 where
  pub fits : n ≤ length buffer
  pub lost : Consumes (Some xs) left (take n buffer)
  pub ends : n < length buffer → IsAtEnd left

-- the count is what there is of the bytes, or of the room
counted : (xs : List ℕ) {n : ℕ} {left : Option (List ℕ)} {buffer : List ℕ} → Took xs n left buffer
    → (n < length buffer → length xs ≡ n) × (n ≤ length xs)
counted xs {left = None} took = absurd took.lost
counted xs {n = n} {left = Some ys} {buffer = buffer} took =
    let long : length xs ≡ n + length ys =
    ap length took.lost ∙ length-append (take n buffer) ys ∙ ap (λ k. k + length ys) (length-take-le n buffer took.fits) in
    (λ h. let none : length ys ≡ 0 = ap length (took.ends h) in omega arith, omega arith)

pub same_count : (xs : List ℕ) {n m : ℕ} {left left' : Option (List ℕ)} {buffer buffer' : List ℕ} → length buffer ≡ length buffer'
    → Took xs n left buffer → Took xs m left' buffer' → n ≡ m
same_count xs {n} {m} {left} {left'} {buffer} {buffer'} long a b =
    elim (dec_lt n (length buffer)) [
      | yes h ↦
          elim (dec_lt m (length buffer')) [
            | yes k ↦ sym ((counted xs a).0 h) ∙ (counted xs b).0 k
            | no k ↦ let all = (counted xs a).0 h in omega (arith, a.fits, b.fits, (counted xs b).1)
          ]
      | no h ↦
          elim (dec_lt m (length buffer')) [
            | yes k ↦ let all = (counted xs b).0 k in omega (arith, a.fits, b.fits, (counted xs a).1)
            | no k ↦ omega (arith, a.fits, b.fits)
          ]
    ]

-- the bytes that were taken are the first of those that are known, and the others are left
pub first_and_rest : (xs : List ℕ) {n : ℕ} {left : Option (List ℕ)} {buffer : List ℕ} → Took xs n left buffer
    → (take n buffer ≡ take n xs) × (left ≡ Some (drop n xs))
first_and_rest xs {left = None} took = absurd took.lost
first_and_rest xs {n = n} {left = Some ys} {buffer = buffer} took =
    let front : List ℕ = take n buffer in
    let long : length front ≡ n = length-take-le n buffer took.fits in (
      sym (ap (take n) took.lost ∙ ap (λ k. take k (front ++ ys)) (sym long) ∙ take-append_seam front ys),
      ap (λ l. Some l) (sym (ap (drop n) took.lost ∙ drop_at front ys n long)),
    )
