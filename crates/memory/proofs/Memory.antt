-- Laws of bytes in memory and colors in the table, for any list. Each kind of writing has three: the
-- length stays, what was written stands inside, and all else is as it was. "Inside" and "outside" are
-- said of the index, so that `omega` proves them.
use Prim.Native.Nat.{ℕ, zero, suc, ◌+◌, ◌-◌, ◌*◌, ◌/◌, ◌%◌, ◌^◌, ◌<◌, ◌≤◌}
use native.Mathlib.Nat.{not-suc-le-zero}
use native.Mathlib.Numerals.{add-one, lt_of_le_of_ne}
use native.Mathlib.Omega.{arith}
use mathlib.Core.Path.{◌≡◌, refl, sym, ◌∙◌, ap, subst}
use mathlib.Core.List.{List, [], ◌∷◌}
use mathlib.Core.Bool.{Bool, true, false, false≢true}
use lib.ListN.{length, get_or, set, replicate, length-set, length-replicate, get_or-replicate}
use lib.Dec.{eqb}
use borrow.Author.Tests.{eqb-true, eqb-false}
use lib.Seq.{sets, length-sets, sets-eq, get_or-set_same, get_or-set_other}
use Rattle.memory.specs.Memory.{bytes_of, number_at, put, fill, color_at, paint, every_byte}

-- ---- bytes written

pub length-put : (m : List ℕ) (a : ℕ) (vs : List ℕ) → length (put m a vs) ≡ length m
unfolding put
length-put m a vs = length-sets m a vs

sets_outside : (vs m : List ℕ) (a k : ℕ) → ((i : ℕ) → i < length vs → k ≡ a + i → ⊥) → get_or (sets m a vs) k 0 ≡ get_or m k 0
sets_outside [] m a k out = refl
sets_outside (v ∷ vs) m a k out =
    sets_outside vs (set m a v) (suc a) k (λ i h e. out (suc i) (omega arith) (omega arith))
    ∙ get_or-set_other m a k v 0 (λ e. out 0 (omega arith) (omega arith))

pub put_outside : (m : List ℕ) (a : ℕ) (vs : List ℕ) (k : ℕ) → (a ≤ k → k < a + length vs → ⊥)
    → get_or (put m a vs) k 0 ≡ get_or m k 0
unfolding put
put_outside m a vs k out = sets_outside vs m a k (λ i h e. out (omega arith) (omega arith))

sets_inside : (vs m : List ℕ) (a i : ℕ) → i < length vs → a + i < length m → get_or (sets m a vs) (a + i) 0 ≡ get_or vs i 0
sets_inside [] m a i h l = absurd (not-suc-le-zero h)
sets_inside (v ∷ vs) m a zero h l =
    let e : a + 0 ≡ a = omega arith in
    ap (λ k. get_or (sets (set m a v) (suc a) vs) k 0) e
    ∙ sets_outside vs (set m a v) (suc a) a (λ i h e. omega arith)
    ∙ get_or-set_same m a v 0 (omega arith)
sets_inside (v ∷ vs) m a (suc i) h l =
    let e : a + suc i ≡ suc a + i = omega arith in
    ap (λ k. get_or (sets (set m a v) (suc a) vs) k 0) e
    ∙ sets_inside vs (set m a v) (suc a) i (omega arith) (omega (arith, length-set m a v))

pub put_inside : (m : List ℕ) (a : ℕ) (vs : List ℕ) (i : ℕ) → i < length vs → a + i < length m
    → get_or (put m a vs) (a + i) 0 ≡ get_or vs i 0
unfolding put
put_inside m a vs i h l = sets_inside vs m a i h l

-- ---- one value filled in

fill_put : (l : List ℕ) (from n v : ℕ) → from + n ≤ length l → fill l from n v ≡ put l from (replicate n v)
unfolding fill put
fill_put l from n v h =
    sym (sets-eq (replicate n v) l from (omega (arith, length-replicate n v)) ∙ rw (length-replicate n v) refl)

module _ (l : List ℕ) (from n v : ℕ) (fits : from + n ≤ length l) where
  pub length-fill : length (fill l from n v) ≡ length l
  length-fill = rw (fill_put l from n v fits) (length-put l from (replicate n v))

  pub fill_outside : (k : ℕ) → (from ≤ k → k < from + n → ⊥) → get_or (fill l from n v) k 0 ≡ get_or l k 0
  fill_outside k out =
      rw (fill_put l from n v fits)
      (put_outside l from (replicate n v) k (λ x y. out x (omega (arith, length-replicate n v))))

  pub fill_inside : (k : ℕ) → from ≤ k → k < from + n → get_or (fill l from n v) k 0 ≡ v
  fill_inside k low high =
      let i : ℕ = k - from in
      let e : from + i ≡ k = omega arith in
      rw (fill_put l from n v fits)
      (subst (λ x. get_or (put l from (replicate n v)) x 0 ≡ v) e
      (put_inside l from (replicate n v) i (omega (arith, length-replicate n v)) (omega arith)
      ∙ get_or-replicate n i v 0 (omega arith)))

-- ---- numbers in memory

pub length-bytes_of : (n v : ℕ) → length (bytes_of n v) ≡ n
unfolding bytes_of
length-bytes_of zero v = refl
length-bytes_of (suc n) v = ap suc (length-bytes_of n (v / 256))

-- a number depends on its own bytes alone
pub number_at_same : (n : ℕ) (m m' : List ℕ) (a : ℕ) → ((k : ℕ) → a ≤ k → k < a + n → get_or m k 0 ≡ get_or m' k 0)
    → number_at n m a ≡ number_at n m' a
unfolding number_at
number_at_same zero m m' a same = refl
number_at_same (suc n) m m' a same =
    let here : get_or m a 0 ≡ get_or m' a 0 = same a (omega arith) (omega arith) in
    let rest : number_at n m (a + 1) ≡ number_at n m' (a + 1) = number_at_same n m m' (a + 1) (λ k x y. same k (omega arith) (omega arith)) in
    cc

-- what is written is read back
sets_number : (n : ℕ) (m : List ℕ) (a v : ℕ) → v < 256 ^ n → a + n ≤ length m → number_at n (sets m a (bytes_of n v)) a ≡ v
unfolding number_at bytes_of
sets_number zero m a v small fits = omega arith
sets_number (suc n) m a v small fits =
    let m₁ : List ℕ = set m a (v % 256) in
    let here : get_or (sets m₁ (suc a) (bytes_of n (v / 256))) a 0 ≡ v % 256 =
    sets_outside (bytes_of n (v / 256)) m₁ (suc a) a (λ i h e. omega arith) ∙ get_or-set_same m a (v % 256) 0 (omega arith) in
    let less : v / 256 < 256 ^ n = omega arith in
    let rest : number_at n (sets m₁ (suc a) (bytes_of n (v / 256))) (a + 1) ≡ v / 256 =
    rw (add-one a) (sets_number n m₁ (suc a) (v / 256) less (omega (arith, length-set m a (v % 256)))) in
    omega (arith, here, rest)

pub number_at_put : (n : ℕ) (m : List ℕ) (a v : ℕ) → v < 256 ^ n → a + n ≤ length m → number_at n (put m a (bytes_of n v)) a ≡ v
unfolding put
number_at_put n m a v small fits = sets_number n m a v small fits

-- ---- colors: an address and a length that are multiples of eight

module _ (table : List ℕ) (address n color : ℕ) (slots : address % 8 ≡ 0) (whole : n % 8 ≡ 0) (fits : address + n ≤ 8 * length table) where
  pub length-paint : length (paint table address n color) ≡ length table
  length-paint = length-fill table (address / 8) (n / 8) color (omega arith)

  pub paint_outside : (a : ℕ) → (address ≤ a → a < address + n → ⊥) → color_at (paint table address n color) a ≡ color_at table a
  unfolding color_at
  paint_outside a out =
      fill_outside table (address / 8) (n / 8) color (omega arith) (a / 8) (λ x y. out (omega arith) (omega arith))

  pub paint_inside : (a : ℕ) → address ≤ a → a < address + n → color_at (paint table address n color) a ≡ color
  unfolding color_at
  paint_inside a low high =
      fill_inside table (address / 8) (n / 8) color (omega arith) (a / 8) (omega arith) (omega arith)

-- ---- every byte in turn

first_passes : (b x : Bool) → elim b [ true ↦ x | false ↦ false ] ≡ true → (b ≡ true) × (x ≡ true)
first_passes true x e = (refl, e)
first_passes false x e = absurd (false≢true e)

pub every_byte_each : (n : ℕ) (test : ℕ → Bool) (a : ℕ) → every_byte n test a ≡ true → (k : ℕ) → a ≤ k → k < a + n → test k ≡ true
unfolding every_byte
every_byte_each zero test a e k low high = absurd (omega arith)
every_byte_each (suc n) test a e k low high = go (every_byte_each n test (a + 1)) (eqb a k) refl
  where
    both : (test a ≡ true) × (every_byte n test (a + 1) ≡ true)
    both = first_passes (test a) (every_byte n test (a + 1)) e

    go : (every_byte n test (a + 1) ≡ true → (k : ℕ) → a + 1 ≤ k → k < a + 1 + n → test k ≡ true) → (b : Bool) → eqb a k ≡ b → test k ≡ true
    go rest true q = subst (λ x. test x ≡ true) (eqb-true a k q) both.0
    go rest false q = rest both.1 k (omega (arith, lt_of_le_of_ne low (eqb-false a k q))) (omega arith)

pub every_byte_same : (n : ℕ) (test test' : ℕ → Bool) (a : ℕ) → ((k : ℕ) → a ≤ k → k < a + n → test k ≡ test' k)
    → every_byte n test a ≡ every_byte n test' a
unfolding every_byte
every_byte_same zero test test' a same = refl
every_byte_same (suc n) test test' a same =
    let here : test a ≡ test' a = same a (omega arith) (omega arith) in
    let rest : every_byte n test (a + 1) ≡ every_byte n test' (a + 1) = every_byte_same n test test' (a + 1) (λ k x y. same k (omega arith) (omega arith)) in
    cc
