-- 01, "Safe stores, classes, colors": unsafe objects and their classes, without colors. All here is
-- said of the list of the unsafe instructions' sets.
use Rattle.std.specs.Prelude.{ℕ, ◌<◌, ◌≡◌, List, [], ◌∷◌, ◌++◌, Bool, true, false, length, get_or, eqb}

-- whether a list of object numbers holds x
unfoldable pub holds : List ℕ → (x : ℕ) → Bool
holds [] x = false
holds (y ∷ ys) x = elim (eqb x y) [ true ↦ true | false ↦ holds ys x ]

-- whether one of the lists passes a test
unfoldable pub some : (List ℕ → Bool) → List (List ℕ) → Bool
some test [] = false
some test (s ∷ ss) = elim (test s) [ true ↦ true | false ↦ some test ss ]

abbrev pub holds_both : (x y : ℕ) → List ℕ → Bool
holds_both x y s = elim (holds s x) [ true ↦ holds s y | false ↦ false ]

-- "An object is unsafe if some unsafe instruction's set holds it"
abbrev pub unsafe_object : (sets : List (List ℕ)) (x : ℕ) → Bool
unsafe_object sets x = some (λ s. holds s x) sets

-- ---- the class as a relation

-- one unsafe instruction's set holds both
pub record Neighbours (sets : List (List ℕ)) (x y : ℕ) : Type 0 where
  pub at : ℕ
  pub inside : at < length sets
  pub left : holds (get_or sets at []) x ≡ true
  pub right : holds (get_or sets at []) y ≡ true

-- "Two unsafe objects are of one class exactly when a chain of unsafe instructions joins them,
-- neighbours in the chain sharing an object"
pub data Chain (sets : List (List ℕ)) : ℕ → ℕ → Type 0 where
  last : {x y : ℕ} → Neighbours sets x y → Chain sets x y
  link : {x y z : ℕ} → Neighbours sets x y → Chain sets y z → Chain sets x z

-- ---- the same as a computation: each set joins the classes that it meets

unfoldable pub meets : List ℕ → List ℕ → Bool
meets [] c = false
meets (x ∷ xs) c = elim (holds c x) [ true ↦ true | false ↦ meets xs c ]

unfoldable pub join : List ℕ → (classes : List (List ℕ)) → List (List ℕ)
join s [] = s ∷ []
join s (c ∷ cs) = elim (meets s c) [ true ↦ join (s ++ c) cs | false ↦ c ∷ join s cs ]

unfoldable pub classes_of : (sets : List (List ℕ)) → List (List ℕ)
classes_of [] = []
classes_of (s ∷ ss) = join s (classes_of ss)

-- whether a chain joins x and y
abbrev pub same_class : (sets : List (List ℕ)) (x y : ℕ) → Bool
same_class sets x y = some (holds_both x y) (classes_of sets)
