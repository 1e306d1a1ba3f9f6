-- How much of an array a case asks for.
use Rattle.std.specs.Prelude.{◌≡◌, ℕ, ◌≤◌, List, length, take}

-- `&xs[..n]` is in bounds and has n items. The second part follows from the first, and spares a caller a proof.
abbrev pub IsPrefixLen : {A : Type 0} → ℕ → List A → Type 0
IsPrefixLen n xs = (n ≤ length xs) × (n ≡ length (take n xs))
