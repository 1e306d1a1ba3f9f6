-- A routine in its arrays: the arrays hold all of it, and the sets among them are in range.
use Prim.Native.Nat.{ℕ, zero, suc, ◌+◌, ◌-◌, ◌<◌, ◌≤◌}
use native.Mathlib.Omega.{arith}
use native.Mathlib.Numerals.{add-one}
use mathlib.Core.Path.{◌≡◌, refl, sym, ◌∙◌, ap}
use mathlib.Core.Logic.{⊎_elim}
use mathlib.Core.List.{List, [], ◌∷◌, ◌++◌, append_assoc}
use mathlib.Core.Bool.{true}
use lib.ListN.{length, get_or, replicate, length-append, get_or-append}
use lib.Seq.{get_or-append-add, take-append_seam, drop-append_seam}
use Rattle.std.specs.Prelude.{slice_range}
use Rattle.files.specs.Program.{Program}
use Rattle.files.specs.Held.{joined, ends_from, filled, sets_held, held_as}
use Rattle.files.proofs.Filled.{get_d_filled, take-filled}
use Rattle.files.proofs.RoundTrip.{Good}
use Rattle.coloring.specs.Class.{holds}
use Rattle.coloring.specs.Labels.{cut, listed, InRange, program_in}
use Rattle.coloring.proofs.Members.{holds_at}
use Rattle.coloring.proofs.Joining.{below_or}
use Rattle.coloring.proofs.Bounds.{sets_most, member_below, joined_most}

-- ---- what the arrays hold

-- one set, behind the members before it
cut_one : (before set after : List ℕ) → slice_range (before ++ (set ++ after)) (length before) (length before + length set) ≡ set
cut_one before set after =
    let n : length before + length set - length before ≡ length set = omega arith in
    rw (drop-append_seam before (set ++ after), n) (take-append_seam set after)

-- all sets, behind the members before them
cut_all : (before after : List ℕ) (sets : List (List ℕ)) → cut (length before) (ends_from (length before) sets) (before ++ (joined sets ++ after)) ≡ sets
unfolding cut ends_from joined
cut_all before after [] = refl
cut_all before after (set ∷ sets) =
    let rest : List ℕ = joined sets ++ after in
    let e : before ++ ((set ++ joined sets) ++ after) ≡ before ++ (set ++ rest) = rw append_assoc in
    let f : before ++ (set ++ rest) ≡ (before ++ set) ++ rest = sym (append_assoc before set rest) in
    let next : ℕ = length before + length set in
    ap (λ (m : List ℕ). slice_range m (length before) next ∷ cut next (ends_from next sets) m) e
    ∙ ap (λ (s : List ℕ). s ∷ cut next (ends_from next sets) (before ++ (set ++ rest))) (cut_one before set rest)
    ∙ ap (λ (m : List ℕ). set ∷ cut next (ends_from next sets) m) f
    ∙ ap (λ (k : ℕ). set ∷ cut k (ends_from k sets) ((before ++ set) ++ rest)) (sym (length-append before set))
    ∙ ap (λ (ss : List (List ℕ)). set ∷ ss) (cut_all (before ++ set) after sets)

length-ends_from : (from : ℕ) (sets : List (List ℕ)) → length (ends_from from sets) ≡ length sets
unfolding ends_from
length-ends_from from [] = refl
length-ends_from from (set ∷ sets) = ap suc (length-ends_from (from + length set) sets)

sets_listed : (sets : List (List ℕ)) → listed (sets_held sets) ≡ sets
unfolding filled
sets_listed sets =
    ap (λ (ends : List ℕ). cut 0 ends (filled 16384 0 (joined sets))) (take-filled 400 0 (ends_from 0 sets) (length sets) (sym (length-ends_from 0 sets)))
    ∙ cut_all [] (replicate (16384 - length (joined sets)) 0) sets

pub program_held : (p : Program) → program_in (held_as p) ≡ p
program_held p = rw (take-filled 400 _ p.objects (length p.objects) refl, sets_listed p.sets, take-filled 2000 _ p.code (length p.code) refl)

-- ---- ranges

ends_most : (ss : List (List ℕ)) (from k : ℕ) → get_or (ends_from from ss) k 0 ≤ from + length (joined ss)
unfolding ends_from joined
ends_most [] from k = omega arith
ends_most (t ∷ ss) from zero = omega (arith, length-append t (joined ss))
ends_most (t ∷ ss) from (suc k) = omega (arith, length-append t (joined ss), ends_most ss (from + length t) k)

ends_rising : (ss : List (List ℕ)) (from k : ℕ) → suc k < length ss → get_or (ends_from from ss) k 0 ≤ get_or (ends_from from ss) (suc k) 0
unfolding ends_from
ends_rising [] from k h = absurd (omega arith)
ends_rising (t ∷ []) from k h = absurd (omega arith)
ends_rising (t ∷ u ∷ ss) from zero h = omega arith
ends_rising (t ∷ u ∷ ss) from (suc k) h = ends_rising (u ∷ ss) (from + length t) k (omega arith)

members_below : (ss : List (List ℕ)) → ((k x : ℕ) → k < length ss → holds (get_or ss k []) x ≡ true → x < 400) → (i : ℕ) → get_or (joined ss) i 0 < 400
unfolding joined
members_below [] h i = omega arith
members_below (t ∷ ss) h i =
    ⊎_elim
    (λ b. rw (get_or-append t (joined ss) 0 i b) (h 0 (get_or t i 0) (omega arith) (holds_at t i b)))
    (λ b.
    let e : i ≡ length t + (i - length t) = omega arith in
    let q : get_or (t ++ joined ss) i 0 ≡ get_or (joined ss) (i - length t) 0 =
    ap (λ (n : ℕ). get_or (t ++ joined ss) n 0) e ∙ get_or-append-add t (joined ss) (i - length t) 0
    in
    rw q (members_below ss (λ k x m. h (suc k) x (omega arith)) (i - length t)))
    (below_or i (length t))

pub in_range : (p : Program) → Good 1 p → InRange (sets_held p.sets)
in_range p good =
    record {
      count = sets_most p good;
      rising = λ k h. rw (get_d_filled 400 0 (ends_from 0 p.sets) k, get_d_filled 400 0 (ends_from 0 p.sets) (k + 1), add-one) (ends_rising p.sets 0 k (omega (arith, h)));
      ends = λ s. rw (get_d_filled 400 0 (ends_from 0 p.sets) s) (omega (arith, ends_most p.sets 0 s, joined_most p good));
      members =
          λ i.
          rw (get_d_filled 16384 0 (joined p.sets) i)
          (members_below p.sets (λ k x h q. omega (arith, member_below p good k x h q, good.objects_most)) i);
    }
