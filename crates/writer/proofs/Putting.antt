-- Bytes put into a room from a place on, one run after the other.
use mathlib.Core.Path.{◌≡◌, ap, ◌∙◌}
use mathlib.Core.List.{List, [], ◌∷◌, ◌++◌}
use Prim.Native.Nat.{ℕ, zero, suc, ◌+◌, ◌<◌, ◌≤◌}
use native.Mathlib.Omega.{arith}
use lib.ListN.{length, get_or, take, drop, length-append}
use lib.Seq.{sets, length-sets, sets-eq}
use Rattle.std.proofs.lemmas.Grind.{common_steps}
use Rattle.files.specs.Writing.{spell_all}
use Rattle.files.proofs.Filled.{sets_append}
use Rattle.writer.proofs.Lengths.{spelled_none, spelled_push}

module _ {A : Type 0} (spelling : A → List ℕ) where
  -- what is put so far and the next are no longer than all
  pub spelled_fits : (xs : List A) (i : ℕ) (d : A) → i < length xs
      → length (spell_all spelling (take i xs)) + length (spelling (get_or xs i d)) ≤ length (spell_all spelling xs)
  unfolding spell_all
  spelled_fits [] i d h = absurd (omega arith)
  spelled_fits (x ∷ xs) zero d h = rw length-append (omega arith)
  spelled_fits (x ∷ xs) (suc i) d h =
      let rest = spelled_fits xs i d (omega arith) in
      let so_far = length-append (spelling x) (spell_all spelling (take i xs)) in
      let all = length-append (spelling x) (spell_all spelling xs) in
      omega arith

-- what fits, put at the front of a room
pub front : (room bytes : List ℕ) → length bytes ≤ length room → sets room 0 bytes ≡ bytes ++ drop (length bytes) room
front room bytes h = sets-eq bytes room 0 (omega arith) ∙ ap (λ (k : ℕ). bytes ++ drop k room) (let e : 0 + length bytes ≡ length bytes = omega arith in e)

-- what the functions go by that put one thing after the other
pub ruleset puts = (common_steps, sets_append, length-sets, spelled_none, spelled_push, spelled_fits, front)
