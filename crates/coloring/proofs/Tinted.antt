-- The objects with other colors: sizes and count are the same.
use Rattle.std.specs.Prelude.{ℕ, zero, suc, ◌+◌, ◌<◌, ◌≡◌, List, [], ◌∷◌, map, length, get_or}
use Rattle.std.proofs.Common.{◌∙◌, refl, ap, arith, add-zero}
use Rattle.std.proofs.Math.ListN.{get_or-map}
use Rattle.opcodes.specs.declared.Object.{Object}
use Rattle.files.specs.Held.{blank}
use Rattle.safety.specs.Unsafe.{size_of}
use Rattle.coloring.specs.Colored.{tinted}

pub tinted_length : (color : ℕ → ℕ) (from : ℕ) (os : List Object) → length (tinted color from os) ≡ length os
unfolding tinted
tinted_length color from [] = refl
tinted_length color from (o ∷ os) = ap suc (tinted_length color (from + 1) os)

pub tinted_size : (color : ℕ → ℕ) (from : ℕ) (os : List Object) (g : ℕ) → size_of (tinted color from os) g ≡ size_of os g
unfolding tinted
tinted_size color from [] g = refl
tinted_size color from (o ∷ os) zero = refl
tinted_size color from (o ∷ os) (suc g) = tinted_size color (from + 1) os g

pub tinted_at : (color : ℕ → ℕ) (from : ℕ) (os : List Object) (i : ℕ) → i < length os → (get_or (tinted color from os) i blank).color ≡ color (from + i)
unfolding tinted
tinted_at color from [] i h = absurd (omega arith)
tinted_at color from (o ∷ os) zero h = rw add-zero
tinted_at color from (o ∷ os) (suc i) h =
    let z : from + 1 + i ≡ from + suc i = omega arith in
    tinted_at color (from + 1) os i (omega arith) ∙ ap color z

pub tinted_color : (color : ℕ → ℕ) (from : ℕ) (os : List Object) (i : ℕ) → i < length os → get_or (map (λ o. o.color) (tinted color from os)) i 0 ≡ color (from + i)
tinted_color color from os i h = get_or-map (λ o. o.color) (tinted color from os) i blank ∙ tinted_at color from os i h

-- two colors that agree on the objects
pub tinted_alike : (f g : ℕ → ℕ) (from : ℕ) (os : List Object) → ((i : ℕ) → i < length os → f (from + i) ≡ g (from + i)) → tinted f from os ≡ tinted g from os
unfolding tinted
tinted_alike f g from [] h = refl
tinted_alike f g from (o ∷ os) h =
    let z : from + 0 ≡ from = add-zero from in
    let rest : tinted f (from + 1) os ≡ tinted g (from + 1) os =
    tinted_alike f g (from + 1) os (λ i l. let e : from + 1 + i ≡ from + suc i = omega arith in rw e (h (suc i) (omega arith)))
    in
    ap (λ (c : ℕ). record { kind = o.kind; size = o.size; color = c } ∷ tinted f (from + 1) os) (rw z at (h 0 (omega arith)))
    ∙ ap (λ (l : List Object). record { kind = o.kind; size = o.size; color = g from } ∷ l) rest
