-- Answers that are equal, part by part, and what the answer of a part says of the reading that it stands for.
use mathlib.Core.Path.{◌≡◌, sym, ap, ◌∙◌}
use Rattle.std.specs.Prelude.{Result, Ok, Err}
use Rattle.numbers.specs.declared.Cursor.{Cursor}
use Rattle.numbers.specs.declared.refusal.Refusal.{Refusal}
use Rattle.files.specs.Parsing.{Answer, hold}
use Rattle.files.specs.Inside.{Holds}

module _ {A : Type 0} {a b : A} {c d : Cursor} (e : ◌≡◌ {A = Answer A} (Ok (a, c)) (Ok (b, d))) where
  both : ◌≡◌ {A = A × Cursor} (a, c) (b, d)
  both = cc

  pub same_thing : a ≡ b
  same_thing = ap (λ r. r.0) both

  pub same_cursor : c ≡ d
  same_cursor = ap (λ r. r.1) both

-- a part that was read: the thing, and how it is held
pub record Read {A B : Type 0} (how : A → B) (answer : Answer A) (held : B) (next : Cursor) : Type 0 where
  pub thing : A
  pub read : answer ≡ Ok (thing, next)
  pub held_as : held ≡ how thing

module _ {A B : Type 0} (how : A → B) where
  pub was_read : (answer : Answer A) {r : Answer B} {held : B} {next : Cursor} → r ≡ hold how answer → r ≡ Ok (held, next)
      → Read how answer held next
  was_read (Ok a) {r} {held} {next} e f =
      let same : ◌≡◌ {A = Answer B} (Ok (held, next)) (Ok (how a.0, a.1)) = sym f ∙ e in
      record { thing = a.0; read = ap (λ (c : Cursor). Ok (a.0, c)) (sym (same_cursor same)); held_as = same_thing same }
  was_read (Err q) {r} {held} {next} e f =
      let clash : ◌≡◌ {A = Answer B} (Ok (held, next)) (Err q) = sym f ∙ e in
      let none : ⊥ = cc in
      absurd none

  pub was_refused : (answer : Answer A) {r : Answer B} {q : Refusal} → r ≡ hold how answer → r ≡ Err q → answer ≡ Err q
  was_refused (Ok a) {r} {q} e f =
      let clash : ◌≡◌ {A = Answer B} (Err q) (Ok (how a.0, a.1)) = sym f ∙ e in
      let none : ⊥ = cc in
      absurd none
  was_refused (Err p) {r} {q} e f =
      let same : ◌≡◌ {A = Answer B} (Err q) (Err p) = sym f ∙ e in
      let reason : q ≡ p = cc in
      ap (λ (x : Refusal). Err x) (sym reason)

-- the same of a part that stands in what was lent
module _ {A B : Type 0} (how : A → B) where
  pub was_held : (answer : Answer A) {next : Cursor} {r : Result Cursor Refusal} {lent : B} → Holds how answer r lent → r ≡ Ok next → Read how answer lent next
  was_held (Ok a) {next} {r} {lent} h f =
      let same : ◌≡◌ {A = Result Cursor Refusal} (Ok next) (Ok a.1) = sym f ∙ h.0 in
      let there : a.1 ≡ next = cc in
      record { thing = a.0; read = ap (λ (c : Cursor). Ok (a.0, c)) there; held_as = h.1 }
  was_held (Err q) {next} {r} {lent} h f =
      let clash : ◌≡◌ {A = Result Cursor Refusal} (Ok next) (Err q) = sym f ∙ h in
      let none : ⊥ = cc in
      absurd none

  pub was_not_held : (answer : Answer A) (lent : B) {q : Refusal} {r : Result Cursor Refusal} → Holds how answer r lent → r ≡ Err q → answer ≡ Err q
  was_not_held (Ok a) lent {q} {r} h f =
      let clash : ◌≡◌ {A = Result Cursor Refusal} (Err q) (Ok a.1) = sym f ∙ h.0 in
      let none : ⊥ = cc in
      absurd none
  was_not_held (Err p) lent {q} {r} h f =
      let same : ◌≡◌ {A = Result Cursor Refusal} (Err q) (Err p) = sym f ∙ h in
      let reason : q ≡ p = cc in
      ap (λ (x : Refusal). Err x) (sym reason)
