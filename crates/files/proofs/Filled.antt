-- Arrays that are filled from the front: laws for any length, so that no long list is ever computed.
use mathlib.Core.Path.{◌≡◌, refl, sym, ap, ◌∙◌}
use mathlib.Core.List.{List, [], ◌∷◌, ◌++◌, map, map-append, append_assoc, append-nil}
use Prim.Native.Nat.{ℕ, zero, suc, ◌+◌, ◌-◌, ◌<◌, ◌≤◌}
use native.Mathlib.Nat.{sub-zero, add-zero}
use native.Mathlib.Omega.{arith}
use lib.ListN.{length, take, set, replicate, get_or, length-append, length-replicate, length-map, get_or-map}
use lib.Seq.{sets, set-append_seam, take-append_seam}
use Rattle.opcodes.specs.declared.Instr.{Instr}
use Rattle.files.specs.declared.arrays.Sets.{Sets}
use Rattle.files.specs.declared.arrays.Code.{Code}
use Rattle.files.specs.Held.{filled, ends_from, joined, sets_held, code_held}

module _ {A : Type 0} (n : ℕ) (blank : A) where
  -- nothing is filled in yet
  pub filled_none : replicate n blank ≡ filled n blank []
  unfolding filled
  filled_none = rw sub-zero

  pub length-filled : (xs : List A) → length xs ≤ n → length (filled n blank xs) ≡ n
  unfolding filled
  length-filled xs h = rw (length-append, length-replicate) (omega arith)

  -- the next element
  pub filled_more : (xs : List A) (x : A) (i : ℕ) → i ≡ length xs → i < n → set (filled n blank xs) i x ≡ filled n blank (xs ++ x ∷ [])
  unfolding filled
  filled_more xs x i e h =
      let room : n - length xs ≡ suc (n - length (xs ++ x ∷ [])) = rw length-append (omega arith) in
      rw (e, room, set-append_seam, append_assoc)

  -- several elements
  pub filled_run : (ys xs : List A) (i : ℕ) → i ≡ length xs → i + length ys ≤ n → sets (filled n blank xs) i ys ≡ filled n blank (xs ++ ys)
  filled_run [] xs i e h = rw append-nil
  filled_run (y ∷ ys) xs i e h =
      let next : suc i ≡ length (xs ++ y ∷ []) = rw length-append (omega arith) in
      ap (λ (l : List A). sets l (suc i) ys) (filled_more xs y i e (omega arith))
      ∙ filled_run ys (xs ++ y ∷ []) (suc i) next (omega arith) ∙ rw append_assoc

  -- the elements that count
  pub take-filled : (xs : List A) (i : ℕ) → i ≡ length xs → take i (filled n blank xs) ≡ xs
  unfolding filled
  take-filled xs i e = rw (e, take-append_seam)

  -- an element, or the blank where there is none
  pub get_d_filled : (xs : List A) (i : ℕ) → get_or (filled n blank xs) i blank ≡ get_or xs i blank
  unfolding filled
  get_d_filled xs i = go (n - length xs) xs i
    where
      go : (k : ℕ) (xs : List A) (i : ℕ) → get_or (xs ++ replicate k blank) i blank ≡ get_or xs i blank
      go zero [] i = refl
      go (suc k) [] zero = refl
      go (suc k) [] (suc i) = go k [] i
      go k (x ∷ xs) zero = refl
      go k (x ∷ xs) (suc i) = go k xs i

-- what f gives for an element, where the blank is what it gives for none
pub get_d_filled_map : {A B : Type 0} (n : ℕ) (f : A → B) (none : A) (xs : List A) (i : ℕ) → get_or (filled n (f none) (map f xs)) i (f none) ≡ f (get_or xs i none)
get_d_filled_map n f none xs i = get_d_filled n (f none) (map f xs) i ∙ get_or-map f xs i none

-- a loop that stores what f gives for each element that is done
pub map_more : {A B : Type 0} (n : ℕ) (blank : B) (f : A → B) (done : List A) (x : A) {array : List B} {i : ℕ}
    → array ≡ filled n blank (map f done) → i ≡ length done → i < n → set array i (f x) ≡ filled n blank (map f (done ++ x ∷ []))
map_more n blank f done x {array} {i} held counted h =
    ap (λ (l : List _). set l i (f x)) held ∙ filled_more n blank (map f done) (f x) i (rw length-map counted) h
    ∙ ap (filled n blank) (sym (map-append f done (x ∷ [])))

-- a run of stores after another
pub sets_append : {A : Type 0} (l : List A) (i : ℕ) (xs ys : List A) → sets l i (xs ++ ys) ≡ sets (sets l i xs) (i + length xs) ys
sets_append l i [] ys = rw add-zero
sets_append l i (x ∷ xs) ys =
    let e : suc i + length xs ≡ i + suc (length xs) = omega arith in
    sets_append (set l i x) (suc i) xs ys ∙ ap (λ (k : ℕ). sets (sets (set l i x) (suc i) xs) k ys) e

-- what nothing is read into yet
pub blank_sets : ◌≡◌ {A = Sets} (record { count = 0; ends = replicate 400 0; members = replicate 16384 0 }) (sets_held [])
unfolding ends_from joined
blank_sets = λ i. record { count = 0; ends = filled_none 400 0 i; members = filled_none 16384 0 i }

pub blank_code : ◌≡◌ {A = Code} (record { count = 0; list = replicate 2000 Instr.End }) (code_held [])
blank_code = λ i. record { count = 0; list = filled_none 2000 Instr.End i }
