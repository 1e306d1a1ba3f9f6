-- A loop over things that are read one after the other: what is left to read from here answers what the whole
-- reading does, and the array holds what is done.
use mathlib.Core.Path.{◌≡◌, refl, sym, ap, subst, ◌∙◌}
use mathlib.Core.List.{List, [], ◌∷◌, ◌++◌}
use Prim.Native.Nat.{ℕ, suc, ◌+◌, ◌-◌, ◌<◌, ◌≤◌}
use native.Mathlib.Nat.{sub-zero}
use native.Mathlib.Omega.{arith}
use lib.ListN.{length, set, length-append}
use Rattle.std.specs.Prelude.{Result, Ok, Err}
use Rattle.numbers.specs.declared.Cursor.{Cursor}
use Rattle.numbers.specs.declared.refusal.Refusal.{Refusal}
use Rattle.files.specs.Held.{filled}
use Rattle.files.specs.Parsing.{Answer, then, several, hold, cursor}
use Rattle.files.specs.Inside.{Holds}
use Rattle.files.proofs.Filled.{filled_more}

-- one turn
module _ {A : Type 0} (one : ℕ → Answer A) (left at : ℕ) (done : List A) where
  abbrev turn : Answer A → Answer (List A)
  turn r = then r λ x next. several left one next.at (done ++ x ∷ [])

  pub one_more : {x : A} {next : Cursor} → one at ≡ Ok (x, next)
      → several (suc left) one at done ≡ several left one next.at (done ++ x ∷ [])
  unfolding several
  one_more e = ap turn e

  pub none_more : {q : Refusal} → one at ≡ Err q → several (suc left) one at done ≡ Err q
  unfolding several
  none_more e = ap turn e

-- i of them are done, and the next stands at `next`
pub record Progress {A : Type 0} (one : ℕ → Answer A) (count from next i : ℕ) (done : List A) : Type 0 where
  pub at_most : i ≤ count
  pub counted : i ≡ length done
  pub rest : several (count - i) one next done ≡ several count one from []

module _ {A : Type 0} {one : ℕ → Answer A} {count from : ℕ} where
  pub begin : Progress one count from from 0 []
  begin = record { at_most = omega arith; counted = refl; rest = rw sub-zero }

  module _ {next i : ℕ} {done : List A} (p : Progress one count from next i done) where
    here : i < count → several (suc (count - (i + 1))) one next done ≡ several count one from []
    here h =
        let turn_left : suc (count - (i + 1)) ≡ count - i = omega arith in
        ap (λ (n : ℕ). several n one next done) turn_left ∙ p.rest

    pub onward : i < count → {x : A} {past : Cursor} → one next ≡ Ok (x, past) → Progress one count from past.at (i + 1) (done ++ x ∷ [])
    onward h e =
        record {
          at_most = omega arith;
          counted = rw length-append (omega (arith, p.counted));
          rest = sym (one_more one (count - (i + 1)) next done e) ∙ here h;
        }

    pub stops : i < count → {q : Refusal} → one next ≡ Err q → several count one from [] ≡ Err q
    stops h e = sym (here h) ∙ none_more one (count - (i + 1)) next done e

    pub all_done : count ≤ i → count ≡ length done
    all_done h = omega (arith, p.counted, p.at_most)

    pub ends : count ≤ i → several count one from [] ≡ Ok (done, cursor next)
    unfolding several
    ends h =
        let none : 0 ≡ count - i = omega (arith, p.at_most) in
        sym p.rest ∙ ap (λ (n : ℕ). several n one next done) (sym none)

-- and the array holds them
pub record Filling {A : Type 0} (size : ℕ) (blank : A) (one : ℕ → Answer A) (count from : ℕ) (list : List A) (next i : ℕ) : Type 0 where
  pub done : List A
  pub read : Progress one count from next i done
  pub held : list ≡ filled size blank done

module _ {A : Type 0} {size : ℕ} {blank : A} {one : ℕ → Answer A} {count from : ℕ} where
  pub start : {list : List A} → list ≡ filled size blank [] → Filling size blank one count from list from 0
  start e = record { done = []; read = begin; held = e }

  module _ {list : List A} {next i : ℕ} (f : Filling size blank one count from list next i) where
    pub more : i < count → count ≤ size → {x : A} {past : Cursor} → one next ≡ Ok (x, past)
        → Filling size blank one count from (set list i x) past.at (i + 1)
    more h room {x} e =
        record {
          done = f.done ++ x ∷ [];
          read = onward f.read h e;
          held = ap (λ l. set l i x) f.held ∙ filled_more size blank f.done x i f.read.counted (omega arith);
        }

-- what a loop answers, held in some way
module _ {A B : Type 0} (how : List A → B) {one : ℕ → Answer A} {count from next i : ℕ} {done : List A}
    (p : Progress one count from next i done) where
  pub answered : {b : B} → count ≤ i → b ≡ how done → ◌≡◌ {A = Answer B} (Ok (b, cursor next)) (hold how (several count one from []))
  answered h e = ap (λ (x : B). Ok (x, cursor next)) e ∙ sym (ap (hold how) (ends p h))

  pub refused : {r : Answer A} {q : Refusal} → i < count → r ≡ one next → r ≡ Err q → hold how (several count one from []) ≡ Err q
  refused h e f = ap (hold how) (stops p h (sym e ∙ f))

  -- the same where it is held in what was lent
  module _ (answer : Result Cursor Refusal) (lent : B) where
    pub all_held : count ≤ i → answer ≡ Ok (cursor next) → lent ≡ how done → Holds how (several count one from []) answer lent
    all_held h e f = subst (λ r. Holds how r answer lent) (sym (ends p h)) (e, f)

    pub none_held : {r : Answer A} {q : Refusal} → i < count → r ≡ one next → r ≡ Err q → answer ≡ Err q
        → Holds how (several count one from []) answer lent
    none_held h e f g = subst (λ r. Holds how r answer lent) (sym (stops p h (sym e ∙ f))) g
