-- What the functions inside the crate promise one another, where it is no sentence of 01.
use Rattle.std.specs.Prelude.{ℕ, ◌+◌, ◌≤◌, ◌≡◌, List, Result, Ok, Err, length}
use Rattle.std.proofs.lemmas.List.Edits.{sets}
use Rattle.opcodes.specs.declared.Scope.{Scope}
use Rattle.numbers.specs.declared.Cursor.{Cursor}
use Rattle.numbers.specs.declared.refusal.Refusal.{Refusal}
use Rattle.files.specs.Parsing.{Answer}

-- a scope whose names fit the fields of an instruction
pub record Small (scope : Scope) (kinds : List ℕ) : Type 0 where
  pub few_objects : length kinds ≤ 400
  pub few_sets : scope.sets ≤ 400
  pub few_lines : scope.lines ≤ 2000

-- the room for members is as long as the longest file of version 1, and filled no further than the file is read
pub record Roomy (file : List ℕ) (at objects : ℕ) (room : List ℕ) (start : ℕ) : Type 0 where
  pub short : length file ≤ length room
  pub most : length room ≡ 16384
  pub behind : start ≤ at
  pub inside : start ≤ 16384
  pub few : objects ≤ 400

-- a set's members stand in the room from a place on, and the answer is where they end there
pub record SetHeld (set : List ℕ) (answered end : Answer ℕ) (before : List ℕ) (from : ℕ) (after : List ℕ) : Type 0 where
  pub answer : answered ≡ end
  pub room : after ≡ sets before from set

abbrev pub SetIs : Answer (List ℕ) → (answer : Answer ℕ) → (before : List ℕ) → (from : ℕ) → (after : List ℕ) → Type 0
SetIs (Ok r) answer before from after = SetHeld r.0 answer (Ok (from + length r.0, r.1)) before from after
SetIs (Err q) answer before from after = answer ≡ Err q

-- what was read stands in what was lent, and the answer is the cursor behind it; of what is refused the answer is all that is
-- promised
abbrev pub Holds : {A B : Type 0} → (how : A → B) → Answer A → (answer : Result Cursor Refusal) → (lent : B) → Type 0
Holds how (Ok r) answer lent = (answer ≡ Ok r.1) × (lent ≡ how r.0)
Holds how (Err q) answer lent = answer ≡ Err q
