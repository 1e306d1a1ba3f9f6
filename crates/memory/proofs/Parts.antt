-- Parts of memory or table that were lent on: what is read from them or written into them stands in the whole, and
-- they come back filled.
use Prim.Native.Nat.{ℕ, zero, suc, ◌+◌, ◌≤◌, ◌<◌}
use mathlib.Core.Path.{◌≡◌, refl, sym, ap, ◌∙◌}
use mathlib.Core.List.{List, [], ◌++◌, append_assoc, append-nil}
use native.Mathlib.Omega.{arith}
use lib.ListN.{length, get_or, take, drop, replicate, length-drop}
use Rattle.std.proofs.Common.{zero-add, add-zero, add_assoc}
use Rattle.std.proofs.lemmas.List.{get_or-take, get_or-drop}
use lib.Seq.{sets-eq, drop-length, length-take-le, drop-drop}
use mathlib.Core.Bool.{false}
use borrow.Author.Tests.{le-leb, lt-leb}
use Rattle.std.specs.Prelude.{Some, None}
use Rattle.memory.specs.Lent.{within, number_within, loaded, stored, painted}
use Rattle.memory.specs.Memory.{slot, number_at, bytes_of, put, fill, paint}
use Rattle.memory.proofs.Memory.{length-bytes_of}

-- a part that was lent on and came back filled: n elements from index a on
pub part_filled : (l : List ℕ) (a n v k : ℕ) (part : List ℕ) → k ≡ n → a + n ≤ length l → part ≡ replicate (length (take k (drop a l))) v
    → take a l ++ (part ++ drop k (drop a l)) ≡ fill l a n v
unfolding fill
part_filled l a n v k part e h filled =
    let long : length (take n (drop a l)) ≡ n = length-take-le n (drop a l) (rw length-drop (omega arith)) in
    rw (filled, e, long, drop-drop)
    (sym (append_assoc (take a l) (replicate n v) (drop (a + n) l)))

-- a number depends on its own bytes alone, wherever they stand
number_moved : (n : ℕ) (m m' : List ℕ) (a b : ℕ) → ((k : ℕ) → k < n → get_or m (a + k) 0 ≡ get_or m' (b + k) 0)
    → number_at n m a ≡ number_at n m' b
unfolding number_at
number_moved zero m m' a b same = refl
number_moved (suc n) m m' a b same =
    let here : get_or m a 0 ≡ get_or m' b 0 = simp add-zero at (same 0 (omega arith)) in
    let rest : number_at n m (a + 1) ≡ number_at n m' (b + 1) =
    number_moved n m m' (a + 1) (b + 1) (λ k h. rw (add_assoc a 1 k, add_assoc b 1 k) (same (1 + k) (omega arith))) in
    cc

module _ (n : ℕ) (m : List ℕ) (a v : ℕ) (fits : a + n ≤ length m) where
  load_inside : v ≡ number_at n m a → Some v ≡ loaded n m a
  load_inside e = rw (le-leb (a + n) (length m) fits, loaded, e) refl

  store_inside : (after : List ℕ) → after ≡ put m a (bytes_of n v) → after ≡ stored n m a v
  store_inside after e = rw (le-leb (a + n) (length m) fits, stored) e

-- as many bytes are written as a part has
written_over : (part bytes : List ℕ) → length part ≡ length bytes → put part 0 bytes ≡ bytes
unfolding put
written_over part bytes e =
    let none : drop (0 + length bytes) part ≡ [] = rw (zero-add, ← e) (drop-length part) in
    sets-eq bytes part 0 (omega arith) ∙ rw none (append-nil bytes)

-- k bytes from index a on, with k ≡ n
module _ (n : ℕ) (m : List ℕ) (a k : ℕ) (e : k ≡ n) (fits : a + n ≤ length m) where
  long : length (take k (drop a m)) ≡ n
  long = length-take-le k (drop a m) (rw length-drop (omega arith)) ∙ e

  pub part_loaded : (part : List ℕ) → part ≡ take k (drop a m) → loaded n part 0 ≡ loaded n m a
  part_loaded part is =
      let piece : List ℕ = take k (drop a m) in
      let same : number_at n piece 0 ≡ number_at n m a =
      number_moved n piece m 0 a (λ i h. rw zero-add (get_or-take k (drop a m) i 0 (omega arith) ∙ get_or-drop a m i 0)) in
      ap (λ x. loaded n x 0) is ∙ sym (load_inside n piece 0 _ (omega (arith, long)) (sym same)) ∙ load_inside n m a _ fits refl

  pub part_stored : (v : ℕ) (part : List ℕ) → part ≡ stored n (take k (drop a m)) 0 v
      → take a m ++ (part ++ drop k (drop a m)) ≡ stored n m a v
  unfolding put
  part_stored v part is =
      let piece : List ℕ = take k (drop a m) in
      let bytes : List ℕ = bytes_of n v in
      let count : length bytes ≡ n = length-bytes_of n v in
      let there : part ≡ bytes =
      is ∙ sym (store_inside n piece 0 v (omega (arith, long)) _ refl) ∙ written_over piece bytes (long ∙ sym count) in
      store_inside n m a v fits _
      (rw (there, e, drop-drop) (sym (append_assoc (take a m) bytes (drop (a + n) m)) ∙ sym (sets-eq bytes m a (omega arith) ∙ rw count refl)))

-- ---- where a number does not lie inside, and where a part is filled or painted whole

pub number_outside : (n : ℕ) (m : List ℕ) (a : ℕ) → length m < a + n → 0 ≡ number_within n m a
number_outside n m a h = rw (lt-leb (a + n) (length m) h, number_within) refl

module _ (n : ℕ) (m : List ℕ) (a v : ℕ) where
  pub load_outside : length m < a + n → None ≡ loaded n m a
  load_outside h = rw (lt-leb (a + n) (length m) h, loaded) refl

  pub store_outside : length m < a + n → (false ≡ within n m a) × (m ≡ stored n m a v)
  store_outside h = (sym (lt-leb (a + n) (length m) h), rw (lt-leb (a + n) (length m) h, stored) refl)

pub filled_whole : (part : List ℕ) (i v : ℕ) → length part ≡ i → replicate i v ++ drop i part ≡ replicate (length part) v
filled_whole part i v e = rw (← e) (ap (λ r. replicate (length part) v ++ r) (drop-length part) ∙ append-nil (replicate (length part) v))

pub painted_inside : (t : List ℕ) (a n color : ℕ) (after : List ℕ) → slot a + slot n ≤ length t → after ≡ paint t a n color → after ≡ painted t a n color
painted_inside t a n color after h e = rw (le-leb (slot a + slot n) (length t) h, painted) e
