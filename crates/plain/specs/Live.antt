-- The live objects that the history of calls gives: which bytes belong to which object.
use Rattle.std.specs.Prelude.{ℕ, ◌+◌, ◌*◌, List, [], ◌∷◌, Bool, true, false, length, ltb, leb, eqb}
use Rattle.heap.specs.Heap.{Made, Freed, Block, Walk, unsound, blocks, is_free, walk}

-- an object with the bytes that are its own
pub record Live : Type 0 where
  pub object : ℕ
  pub start : ℕ
  pub size : ℕ

abbrev pub owns : Live → (address : ℕ) → Bool
owns o address = elim (leb o.start address) [ true ↦ ltb address (o.start + o.size) | false ↦ false ]

-- whether one of the objects passes a test
unfoldable pub some_live : (Live → Bool) → List Live → Bool
some_live test [] = false
some_live test (o ∷ os) = elim (test o) [ true ↦ true | false ↦ some_live test os ]

-- the live bodies of the heap, in the order of their addresses: ALLOC adds one and FREE takes one away
unfoldable pub adding : Live → List Live → List Live
adding o [] = o ∷ []
adding o (x ∷ xs) = elim (ltb x.start o.start) [ true ↦ x ∷ adding o xs | false ↦ o ∷ x ∷ xs ]

unfoldable pub removing : (address : ℕ) → List Live → List Live
removing address [] = []
removing address (x ∷ xs) = elim (eqb x.start address) [ true ↦ xs | false ↦ x ∷ removing address xs ]

abbrev pub live_making : List Live → (site : ℕ) → Made → List Live
live_making live site k = adding (record { object = site; start = k.body; size = k.size }) live

abbrev pub live_freeing : List Live → (address : ℕ) → Freed → List Live
live_freeing live address f = removing address live

-- ---- the account: "the live bodies that the history of calls gives, the free bodies and eight for each
-- header make 28,664"

unfoldable pub live_bytes : List Live → ℕ
live_bytes [] = 0
live_bytes (o ∷ os) = o.size + live_bytes os

abbrev pub free_size : Block → ℕ
free_size b = elim (is_free b) [ true ↦ b.size | false ↦ 0 ]

unfoldable pub free_bytes : List Block → ℕ
free_bytes [] = 0
free_bytes (b ∷ bs) = free_size b + free_bytes bs

abbrev pub account_of : List Live → Walk → ℕ
account_of live unsound = 0
account_of live (blocks bs) = live_bytes live + free_bytes bs + 8 * length bs

abbrev pub account : List Live → (memory : List ℕ) → ℕ
account live memory = account_of live (walk memory)
