-- What loads, stores and painting answer for lent memory and table of any length, and what both hold
-- afterwards. At their exact lengths this reads as Memory says. These are words of contracts; no demand
-- cites them.
use Rattle.std.specs.Prelude.{ℕ, ◌+◌, List, Bool, true, false, Option, Some, None, length, leb, eqb}
use Rattle.memory.specs.Memory.{slot, bytes_of, number_at, put, paint}

-- "34 read outside memory", or the value that was read
abbrev pub load_for : (number value : ℕ) → Option ℕ
load_for number value = elim (eqb number 34) [ true ↦ None | false ↦ Some value ]

-- n bytes from an address on lie inside lent memory; at 57,344 bytes this is `inside`
abbrev pub within : (n : ℕ) → List ℕ → (address : ℕ) → Bool
within n m address = leb (address + n) (length m)

-- the number that stands in n bytes from an address on, 0 where one of them lies outside
abbrev pub number_within : (n : ℕ) → List ℕ → (address : ℕ) → ℕ
number_within n m address = elim (within n m address) [ true ↦ number_at n m address | false ↦ 0 ]

-- "read at address a, low byte first"
abbrev pub loaded : (n : ℕ) → List ℕ → (address : ℕ) → Option ℕ
loaded n m address = elim (within n m address) [ true ↦ load_for 0 (number_at n m address) | false ↦ load_for 34 0 ]

-- "write the low 1 or 4 bytes"
abbrev pub stored : (n : ℕ) → List ℕ → (address value : ℕ) → List ℕ
stored n m address value = elim (within n m address) [ true ↦ put m address (bytes_of n value) | false ↦ m ]

-- the slots of n bytes from an address on get a color, where the table has them
abbrev pub painted : (table : List ℕ) → (address n color : ℕ) → List ℕ
painted table address n color =
    elim (leb (slot address + slot n) (length table)) [ true ↦ paint table address n color | false ↦ table ]
