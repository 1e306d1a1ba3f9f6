-- The coloring while it is computed. The contracts inside the crate cite this; no promise to another crate does.
--
-- An object's label is the lowest object of its class so far, and 400 or more where it has no class.
use Rattle.std.specs.Prelude.{ℕ, ◌+◌, ◌≤◌, ◌<◌, ◌≡◌, ◌==◌, List, [], ◌∷◌, ◌++◌, Bool, true, false, Result, Ok, get_or, set, map, take, drop, replicate, slice_range, min, max, ltb, eqb, count_by}
use Rattle.std.specs.List.{fold, enumerate_from}
use Rattle.numbers.specs.declared.refusal.Refusal.{Refusal}
use Rattle.opcodes.specs.declared.Instr.{Instr}
use Rattle.opcodes.specs.View.{view}
use Rattle.files.specs.declared.arrays.Objects.{Objects}
use Rattle.files.specs.declared.arrays.Sets.{Sets}
use Rattle.files.specs.declared.arrays.Loaded.{Loaded}
use Rattle.files.specs.Program.{Program}
use Rattle.files.specs.Reading.{read_file}
use Rattle.files.specs.Held.{held}
use Rattle.safety.specs.declared.Nature.{Nature}
use Rattle.safety.specs.Unsafe.{size_of}
use Rattle.safety.specs.Nature.{nature_of}
use Rattle.coloring.specs.Colored.{tinted}

-- ---- joining classes

-- x has a class from now on
abbrev pub touched : List ℕ → (x : ℕ) → List ℕ
touched labels x = elim (ltb (get_or labels x 0) 400) [ true ↦ labels | false ↦ set labels x x ]

abbrev pub renamed : (from to label : ℕ) → ℕ
renamed from to label = elim (eqb label from) [ true ↦ to | false ↦ label ]

-- a and b are of one class, which keeps the lower label
abbrev pub united : List ℕ → (a b : ℕ) → List ℕ
united labels a b =
    map (renamed (max (get_or labels a 0) (get_or labels b 0)) (min (get_or labels a 0) (get_or labels b 0))) labels

-- x is of the class of `first`
abbrev pub joined_to : (first : ℕ) → List ℕ → (x : ℕ) → List ℕ
joined_to first labels x = united (touched labels x) first x

-- all of a set are of one class
abbrev pub set_joined : List ℕ → List ℕ → List ℕ
set_joined labels set = fold (joined_to (get_or set 0 0)) labels set

abbrev pub joined_if : (is_used : Bool) → List ℕ → (set : List ℕ) → List ℕ
joined_if true labels set = set_joined labels set
joined_if false labels set = labels

-- the sets in use, of which the first has the number s
unfoldable pub sets_joined : (used : List Bool) (s : ℕ) → List ℕ → List (List ℕ) → List ℕ
sets_joined used s labels [] = labels
sets_joined used s labels (set ∷ sets) = sets_joined used (s + 1) (joined_if (get_or used s false) labels set) sets

-- ---- what the instructions say

abbrev pub own_marked : List ℕ → Nature → List ℕ
own_marked labels Nature.Safe = labels
own_marked labels (Nature.Own g) = elim (ltb g 400) [ true ↦ touched labels g | false ↦ labels ]
own_marked labels (Nature.Listed s) = labels
own_marked labels (Nature.Jump p) = labels
own_marked labels Nature.Check = labels
own_marked labels Nature.Other = labels

abbrev pub use_marked : List Bool → Nature → List Bool
use_marked used Nature.Safe = used
use_marked used (Nature.Own g) = used
use_marked used (Nature.Listed s) = elim (ltb s 400) [ true ↦ set used s true | false ↦ used ]
use_marked used (Nature.Jump p) = used
use_marked used Nature.Check = used
use_marked used Nature.Other = used

abbrev pub owns_marked : (size : ℕ → ℕ) → List ℕ → List Instr → List ℕ
owns_marked size labels code = fold (λ l i. own_marked l (nature_of size (view i))) labels code

abbrev pub uses_marked : (size : ℕ → ℕ) → List Bool → List Instr → List Bool
uses_marked size used code = fold (λ u i. use_marked u (nature_of size (view i))) used code

-- the labels of a routine's objects
unfoldable pub labels_of : Program → List ℕ
labels_of p =
    sets_joined
    (uses_marked (size_of p.objects) (replicate 400 false) p.code)
    0
    (owns_marked (size_of p.objects) (replicate 400 400) p.code)
    p.sets

-- ---- numbering the classes

-- how many objects are their own label, the lowest of their class
unfoldable pub classes_in : (labels : List ℕ) → ℕ
classes_in labels = count_by (λ p. p.1 == p.0) (enumerate_from 0 labels)

-- the color of x: classes get 2, 3, .. in the order of their lowest objects
abbrev pub color_by : (labels : List ℕ) (x : ℕ) → ℕ
color_by labels x =
    elim (ltb (get_or labels x 0) 400) [ true ↦ 2 + classes_in (take (get_or labels x 0) labels) | false ↦ 0 ]

-- each label is the lowest object that has it
pub record Lowest (labels : List ℕ) : Type 0 where
  pub low : (x : ℕ) → x < 400 → get_or labels x 0 < 400 → get_or labels x 0 ≤ x
  pub self : (x : ℕ) → x < 400 → get_or labels x 0 < 400 → get_or labels (get_or labels x 0) 0 ≡ get_or labels x 0

-- ---- the arrays

-- the objects that count, with their colors
abbrev pub painted : (color : ℕ → ℕ) → Objects → Objects
painted color o = record { count = o.count; list = tinted color 0 (take o.count o.list) ++ drop o.count o.list }

-- sets that stand among the members one after the other, the first of them from `from` on
unfoldable pub cut : (from : ℕ) → (ends members : List ℕ) → List (List ℕ)
cut from [] members = []
cut from (end ∷ ends) members = slice_range members from end ∷ cut end ends members

abbrev pub listed : Sets → List (List ℕ)
listed s = cut 0 (take s.count s.ends) s.members

-- what the sets of every routine that was read have
pub record InRange (s : Sets) : Type 0 where
  pub count : s.count ≤ 400
  pub rising : (k : ℕ) → k + 1 < s.count → get_or s.ends k 0 ≤ get_or s.ends (k + 1) 0
  pub ends : (k : ℕ) → get_or s.ends k 0 ≤ 16384
  pub members : (i : ℕ) → get_or s.members i 0 < 400

-- the program that arrays hold
abbrev pub program_in : Loaded → Program
program_in l =
    record {
      objects = take l.objects.count l.objects.list;
      sets = listed l.sets;
      code = take l.code.count l.code.list;
    }

-- a routine that was read, whose arrays are so in range
pub record IsRead (l : Loaded) : Type 0 where
  pub file : List ℕ
  pub reading : ◌≡◌ {A = Result Loaded Refusal} (Ok l) (held (read_file 1 file))
  pub objects : l.objects.count ≤ 400
  pub sets : InRange l.sets
  pub code : l.code.count ≤ 2000
