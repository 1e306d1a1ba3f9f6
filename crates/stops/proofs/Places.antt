-- The place of a stop: the instructions that are no checks, counted.
use mathlib.Core.Path.{sym, ap, ◌∙◌}
use Prim.Native.Nat.{◌≤◌}
use native.Mathlib.Omega.{arith}
use lib.ListN.{take}
use lib.Seq.{take_all}
use Rattle.std.proofs.Common.{◌≡◌, ℕ, ◌+◌, List, [], ◌∷◌, ◌++◌, eqb, not, cond, refl, count_by, length}
use Rattle.std.proofs.lemmas.List.Recursion.{is_count_by}
use Rattle.opcodes.specs.declared.Instr.{Instr}
use Rattle.opcodes.specs.View.{View, act, jump, jump_if, store, check, view}
use Rattle.stops.specs.Stop.{counts, places_in, place_in}

-- one that is no check counts 1
one_or_none : (v : View) (n : ℕ) → counts v + n ≡ cond (not (eqb (counts v) 0)) (1 + n) n
one_or_none (act x) n = refl
one_or_none (jump p) n = refl
one_or_none (jump_if a p) n = refl
one_or_none (store aim b s) n = refl
one_or_none (check aim c) n = omega arith

pub places_counted : (code : List Instr) → places_in code ≡ count_by (λ i. not (eqb (counts (view i)) 0)) code
unfolding places_in
places_counted = is_count_by places_in (λ i. not (eqb (counts (view i)) 0)) refl (λ i code. one_or_none (view i) (places_in code))

-- the place behind one instruction more
pub places_more : (xs : List Instr) (x : Instr) → places_in (xs ++ x ∷ []) ≡ places_in xs + counts (view x)
unfolding places_in
places_more [] x = omega arith
places_more (y ∷ ys) x = omega (arith, places_more ys x)

-- at or behind the end of the code all of it is counted, however much of it was gone through
pub place_end : (code : List Instr) (at : ℕ) {place : ℕ} → length code ≤ at → place ≡ places_in code → place ≡ place_in code at
place_end code at h e = e ∙ ap places_in (sym (take_all at code h))

pub place_full : (code : List Instr) (at i : ℕ) {place : ℕ} → length code ≤ i → i ≤ at → place ≡ places_in (take i code) → place ≡ place_in code at
place_full code at i long h e = place_end code at (omega arith) (e ∙ ap places_in (take_all i code long))
