-- 01, "Safe stores, classes, colors": legal colorings, and 01's own.
use Rattle.std.specs.Prelude.{ℕ, zero, suc, ◌+◌, ◌<◌, ◌≤◌, ◌≡◌, List, [], true, false, length, get_or}
use Rattle.coloring.specs.Class.{holds, unsafe_object, same_class, Chain}

-- "A coloring is legal if safe objects have 0 and all objects of one unsafe instruction's set share a
-- number from 2 up"
pub record Legal (sets : List (List ℕ)) (number : ℕ → ℕ) : Type 0 where
  pub safe : (x : ℕ) → unsafe_object sets x ≡ false → number x ≡ 0
  pub high : (x : ℕ) → unsafe_object sets x ≡ true → 2 ≤ number x
  pub shared : (at x y : ℕ) → at < length sets → holds (get_or sets at []) x ≡ true → holds (get_or sets at []) y ≡ true → number x ≡ number y

-- "an instruction's class is that of its set": the number of the set's lowest object
abbrev pub color_of_set : (number : ℕ → ℕ) → (set : List ℕ) → ℕ
color_of_set number set = number (get_or set 0 0)

-- the lowest object of x's class, looked for from `from` on; x itself where there is none before it
unfoldable pub lowest_from : (left : ℕ) → (sets : List (List ℕ)) (x from : ℕ) → ℕ
lowest_from zero sets x from = from
lowest_from (suc left) sets x from =
    elim (same_class sets from x) [ true ↦ from | false ↦ lowest_from left sets x (from + 1) ]

abbrev pub lowest : (sets : List (List ℕ)) (x : ℕ) → ℕ
lowest sets x = lowest_from x sets x 0

-- 1 where x is the lowest object of a class
abbrev pub first : (sets : List (List ℕ)) (x : ℕ) → ℕ
first sets x =
    elim (unsafe_object sets x)
    [ true ↦ elim (lib.Dec.eqb (lowest sets x) x) [ true ↦ 1 | false ↦ 0 ] | false ↦ 0 ]

-- how many classes have their lowest object below n
unfoldable pub classes_below : (sets : List (List ℕ)) (n : ℕ) → ℕ
classes_below sets zero = 0
classes_below sets (suc n) = classes_below sets n + first sets n

-- "Safe objects have color 0. Classes get 2, 3, .. in the order of their lowest object number."
unfoldable pub color_of : (sets : List (List ℕ)) (x : ℕ) → ℕ
color_of sets x =
    elim (unsafe_object sets x) [ true ↦ 2 + classes_below sets (lowest sets x) | false ↦ 0 ]

-- ---- the same as plain facts: numbers that have them all are those of colorOf

pub record IsLowest (sets : List (List ℕ)) (x : ℕ) : Type 0 where
  pub unsafe : unsafe_object sets x ≡ true
  pub least : (y : ℕ) → Chain sets y x → x ≤ y

-- "Classes get 2, 3, .. in the order of their lowest object number": the lowest object of a class has
-- a number from 2 up, above all that stand below it, and every number from 2 up to it occurs at or
-- below it
pub record InOrder (sets : List (List ℕ)) (number : ℕ → ℕ) : Type 0 where
  pub high : (x : ℕ) → IsLowest sets x → 2 ≤ number x
  pub rising : (x y : ℕ) → IsLowest sets x → y < x → number y < number x
  pub gapless : (x n : ℕ) → IsLowest sets x → 2 ≤ n → n ≤ number x → (y : ℕ) × (y ≤ x) × (number y ≡ n)

-- "Safe objects have color 0", and two unsafe objects one number exactly when a chain joins them
pub record Keeps (sets : List (List ℕ)) (number : ℕ → ℕ) : Type 0 where
  pub safe : (x : ℕ) → unsafe_object sets x ≡ false → number x ≡ 0
  pub together : (x y : ℕ) → Chain sets x y → number x ≡ number y
  pub apart : (x y : ℕ) → unsafe_object sets x ≡ true → number x ≡ number y → Chain sets x y

-- 01's own numbers
pub record Numbering (sets : List (List ℕ)) (number : ℕ → ℕ) : Type 0 where
  pub keeps : Keeps sets number
  pub ordered : InOrder sets number
