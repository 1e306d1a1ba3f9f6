-- Memory is a list of bytes and the table a list of colors.
use Rattle.std.specs.Prelude.{ℕ, zero, suc, ◌+◌, ◌*◌, ◌/◌, ◌%◌, List, [], ◌∷◌, ◌++◌, Bool, true, false, length, get_or, take, drop, replicate, ltb, leb, eqb}
use Rattle.std.proofs.lemmas.List.Edits.{sets}

-- "Memory is 57,344 bytes. The table has 7,168 bytes"
abbrev pub memory_size : ℕ
memory_size = 57344

abbrev pub table_size : ℕ
table_size = 7168

-- "11 | memory or table not of its exact length": both are
abbrev pub exact : (memory table : List ℕ) → Bool
exact m t = elim (eqb (length m) memory_size) [ true ↦ eqb (length t) table_size | false ↦ false ]

-- the bytes of a number, "low byte first"
unfoldable pub bytes_of : (count value : ℕ) → List ℕ
bytes_of zero value = []
bytes_of (suc count) value = (value % 256) ∷ bytes_of count (value / 256)

-- the number that stands in so many bytes from an address on
unfoldable pub number_at : (count : ℕ) → List ℕ → (address : ℕ) → ℕ
number_at zero m address = 0
number_at (suc count) m address = get_or m address 0 + 256 * number_at count m (address + 1)

-- bytes written from an address on
unfoldable pub put : List ℕ → (address : ℕ) → List ℕ → List ℕ
put m address vs = sets m address vs

-- n times one value from an index on, in memory or in the table
unfoldable pub fill : List ℕ → (from n value : ℕ) → List ℕ
fill l from n value = take from l ++ replicate n value ++ drop (from + n) l

-- "the color of an address stands at the address shifted right by three"
abbrev pub slot : (address : ℕ) → ℕ
slot address = address / 8

unfoldable pub color_at : (table : List ℕ) (address : ℕ) → ℕ
color_at table address = get_or table (slot address) 0

-- "A check stops with 36 if a byte it covers lies at or above 57,344 or in a slot of another color"
abbrev pub has_color : (table : List ℕ) (color address : ℕ) → Bool
has_color table color address =
    elim (ltb address memory_size) [ true ↦ eqb (color_at table address) color | false ↦ false ]

-- the slots of n bytes from an address on get a color; both are multiples of eight
abbrev pub paint : (table : List ℕ) (address n color : ℕ) → List ℕ
paint table address n color = fill table (slot address) (slot n) color

-- every byte of n from an address on passes a test; the first that fails decides
unfoldable pub every_byte : (n : ℕ) → (ℕ → Bool) → (address : ℕ) → Bool
every_byte zero test address = true
every_byte (suc n) test address = elim (test address) [ true ↦ every_byte n test (address + 1) | false ↦ false ]

-- n bytes from an address on lie inside memory; no byte lies outside where n is 0
abbrev pub inside : (address n : ℕ) → Bool
inside address n = elim (eqb n 0) [ true ↦ true | false ↦ leb (address + n) memory_size ]
