-- A header that is put into memory, and a block that is handed out: what is read afterwards, and that
-- all else stays.
use Prim.Native.Nat.{ℕ, ◌+◌, ◌^◌, ◌<◌, ◌≤◌}
use native.Mathlib.Omega.{arith}
use mathlib.Core.Path.{◌≡◌, ◌∙◌}
use mathlib.Core.List.{List}
use lib.ListN.{length, get_or}
use Rattle.memory.specs.Memory.{bytes_of, number_at, put}
use Rattle.heap.specs.Heap.{put_header, hand_out}
use Rattle.memory.proofs.Memory.{length-put, put_outside, length-fill, fill_outside, length-bytes_of, number_at_same, number_at_put}

module _ (m : List ℕ) (header size mark : ℕ) where
  pub length-put_header : length (put_header m header size mark) ≡ length m
  unfolding put_header
  length-put_header = length-put (put m header (bytes_of 4 size)) (header + 4) (bytes_of 4 mark) ∙ length-put m header (bytes_of 4 size)

  pub put_header_outside : (k : ℕ) → (header ≤ k → k < header + 8 → ⊥) → get_or (put_header m header size mark) k 0 ≡ get_or m k 0
  unfolding put_header
  put_header_outside k out =
      put_outside (put m header (bytes_of 4 size)) (header + 4) (bytes_of 4 mark) k (λ x y. out (omega arith) (omega (arith, length-bytes_of 4 mark)))
      ∙ put_outside m header (bytes_of 4 size) k (λ x y. out (omega arith) (omega (arith, length-bytes_of 4 size)))

  pub header_size : size < 2 ^ 32 → header + 8 ≤ length m → number_at 4 (put_header m header size mark) header ≡ size
  unfolding put_header
  header_size small fits =
      let m₁ : List ℕ = put m header (bytes_of 4 size) in
      number_at_same 4 (put m₁ (header + 4) (bytes_of 4 mark)) m₁ header (λ k x y. put_outside m₁ (header + 4) (bytes_of 4 mark) k (λ z w. omega arith))
      ∙ number_at_put 4 m header size small (omega arith)

  pub header_mark : mark < 2 ^ 32 → header + 8 ≤ length m → number_at 4 (put_header m header size mark) (header + 4) ≡ mark
  unfolding put_header
  header_mark small fits =
      number_at_put 4 (put m header (bytes_of 4 size)) (header + 4) mark small (omega (arith, length-put m header (bytes_of 4 size)))

-- the header of a block and its body set to zero
module _ (m : List ℕ) (header size mark : ℕ) (fits : header + 8 + size ≤ length m) where
  abbrev headed : List ℕ
  headed = put_header m header size mark

  room : header + 8 + size ≤ length headed
  room = omega (arith, length-put_header m header size mark)

  pub length-hand_out : length (hand_out m header size mark) ≡ length m
  length-hand_out = length-fill headed (header + 8) size 0 room ∙ length-put_header m header size mark

  pub hand_out_outside : (k : ℕ) → (header ≤ k → k < header + 8 + size → ⊥) → get_or (hand_out m header size mark) k 0 ≡ get_or m k 0
  hand_out_outside k out =
      fill_outside headed (header + 8) size 0 room k (λ x y. out (omega arith) (omega arith))
      ∙ put_header_outside m header size mark k (λ x y. out (omega arith) (omega arith))

  pub hand_out_size : size < 2 ^ 32 → number_at 4 (hand_out m header size mark) header ≡ size
  hand_out_size small =
      number_at_same 4 (hand_out m header size mark) headed header (λ k x y. fill_outside headed (header + 8) size 0 room k (λ z w. omega arith))
      ∙ header_size m header size mark small (omega arith)

  pub hand_out_mark : mark < 2 ^ 32 → number_at 4 (hand_out m header size mark) (header + 4) ≡ mark
  hand_out_mark small =
      number_at_same 4 (hand_out m header size mark) headed (header + 4) (λ k x y. fill_outside headed (header + 8) size 0 room k (λ z w. omega arith))
      ∙ header_mark m header size mark small (omega arith)
