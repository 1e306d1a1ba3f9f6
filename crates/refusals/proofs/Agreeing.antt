-- Two files that agree up to an end: the other is at least that long, and its first bytes are the same.
-- They agree up to any earlier end, and at each byte before it; a file agrees with what was cut off from
-- it or put behind it.
use Prim.Native.Nat.{ℕ, ◌<◌, ◌≤◌}
use mathlib.Core.Path.{◌≡◌, refl, sym, ap, ◌∙◌}
use mathlib.Core.List.{List, ◌++◌}
use native.Mathlib.Omega.{arith}
use lib.ListN.{length, get_or, take, length-append, length-take}
use lib.Seq.{take-take, get_or-take, length-take-le, take-append-le, take-append-add}
use Rattle.refusals.specs.Why.{Begins}

-- the same bytes in front of what begins and of what it begins with
pub begins_behind : (before bytes list : List ℕ) → Begins bytes list → Begins (before ++ bytes) (before ++ list)
begins_behind before bytes list begins =
    ap (λ (n : ℕ). take n (before ++ list)) (length-append before bytes) ∙ take-append-add before list (length bytes)
    ∙ ap (λ (l : List ℕ). before ++ l) begins

pub record Agrees (end : ℕ) (file other : List ℕ) : Type 0 where
  pub long : end ≤ length other
  pub same : take end file ≡ take end other

module _ (file : List ℕ) {end : ℕ} (within : end ≤ length file) where
  pub agrees_itself : Agrees end file file
  agrees_itself = record { long = within; same = refl }

  pub agrees_cut : Agrees end file (take end file)
  agrees_cut =
      record {
        long = omega (arith, length-take-le end file within);
        same = sym (take-take end end file (omega arith));
      }

  pub agrees_more : (behind : List ℕ) → Agrees end file (file ++ behind)
  agrees_more behind =
      record { long = omega (arith, length-append file behind); same = sym (take-append-le end file behind within) }

  -- what begins with the bytes up to the end
  pub agrees_begun : (other : List ℕ) → Begins (take end file) other → Agrees end file other
  agrees_begun other begun =
      let long : length (take end file) ≡ end = length-take-le end file within in
      let same : take end other ≡ take end file = rw long at begun in
      record { long = omega (arith, length-take end other, ap length same); same = sym same }

module _ {end : ℕ} {file other : List ℕ} (agrees : Agrees end file other) where
  pub agrees_earlier : (at : ℕ) → at ≤ end → Agrees at file other
  agrees_earlier at h =
      record {
        long = omega (arith, agrees.long);
        same = sym (take-take at end file h) ∙ ap (take at) agrees.same ∙ take-take at end other h;
      }

  pub agrees_byte : (at : ℕ) → at < end → get_or other at 0 ≡ get_or file at 0
  agrees_byte at h =
      sym (get_or-take end other at 0 h) ∙ ap (λ (l : List ℕ). get_or l at 0) (sym agrees.same) ∙ get_or-take end file at 0 h
