-- The live bodies of a heap that is tied to its list of blocks: where they stand, what the table says of
-- their bytes, what their sizes make with the rest, and how ALLOC and FREE change them.
use Prim.Native.Nat.{ℕ, ◌+◌, ◌-◌, ◌*◌, ◌<◌, ◌≤◌}
use native.Mathlib.Omega.{arith}
use mathlib.Core.Path.{◌≡◌, refl, sym, ◌∙◌, ap, subst}
use mathlib.Core.List.{List, [], ◌∷◌, ◌++◌}
use mathlib.Core.Bool.{Bool, true, false, false≢true}
use lib.ListN.{length}
use lib.Dec.{eqb, ltb}
use borrow.Author.Tests.{eq-eqb, ne_eqb, lt-ltb, le-ltb, ltb-true, ltb-false}
use Rattle.memory.specs.Memory.{color_at}
use Rattle.heap.specs.Heap.{Block, is_free}
use Rattle.plain.proofs.HeapBlocks.{tint, Segment, segment_long}
use Rattle.plain.proofs.HeapAlloc.{AllFree}
use Rattle.plain.specs.Live.{Live, owns, adding, removing, live_bytes, free_size, free_bytes}
use Rattle.plain.proofs.Owners.{Each, each_map, owns_is, owns_inside}

-- the body of a live block: its mark is the site's number and 1
abbrev pub body_of_block : Block → Live
body_of_block b = record { object = b.mark - 1; start = b.header + 8; size = b.size }

unfoldable pub live_of : List Block → List Live
live_of [] = []
live_of (b ∷ bs) = elim (is_free b) [ true ↦ live_of bs | false ↦ body_of_block b ∷ live_of bs ]

pub live_free : (b : Block) (bs : List Block) → is_free b ≡ true → live_of (b ∷ bs) ≡ live_of bs
unfolding live_of
live_free b bs e = rw (e, live_of)

pub live_used : (b : Block) (bs : List Block) → is_free b ≡ false → live_of (b ∷ bs) ≡ body_of_block b ∷ live_of bs
unfolding live_of
live_used b bs e = rw (e, live_of)

pub live_append : (xs ys : List Block) → live_of (xs ++ ys) ≡ live_of xs ++ live_of ys
unfolding live_of
live_append [] ys = refl
live_append (x ∷ xs) ys = go (live_append xs ys) (is_free x) refl
  where
    go : live_of (xs ++ ys) ≡ live_of xs ++ live_of ys → (b : Bool) → is_free x ≡ b → live_of (x ∷ (xs ++ ys)) ≡ live_of (x ∷ xs) ++ live_of ys
    go later true e = live_free x (xs ++ ys) e ∙ later ∙ ap (λ l. l ++ live_of ys) (sym (live_free x xs e))
    go later false e = live_used x (xs ++ ys) e ∙ ap (λ l. body_of_block x ∷ l) later ∙ ap (λ l. l ++ live_of ys) (sym (live_used x xs e))

pub live_none : (xs : List Block) → AllFree xs → live_of xs ≡ []
unfolding live_of
live_none [] f = refl
live_none (x ∷ xs) f = live_free x xs f.0 ∙ live_none xs f.1

-- free blocks in front or behind add nothing
pub live_behind : (xs ys : List Block) → AllFree ys → live_of (xs ++ ys) ≡ live_of xs ++ []
live_behind xs ys f = live_append xs ys ∙ ap (λ l. live_of xs ++ l) (live_none ys f)

pub live_before : (xs ys : List Block) → AllFree xs → live_of (xs ++ ys) ≡ live_of ys
live_before xs ys f = live_append xs ys ∙ ap (λ l. l ++ live_of ys) (live_none xs f)

-- ---- what a segment says of them

-- what is proved of the block and of those behind it
by_block : (P : Live → Type 0) (b : Block) (bs : List Block) → (is_free b ≡ false → P (body_of_block b)) → Each P (live_of bs) → Each P (live_of (b ∷ bs))
by_block P b bs here later = go (is_free b) refl
  where
    go : (t : Bool) → is_free b ≡ t → Each P (live_of (b ∷ bs))
    go true e = subst (Each P) (sym (live_free b bs e)) later
    go false e = subst (Each P) (sym (live_used b bs e)) (here e, later)

module _ (color : ℕ → ℕ) (m table : List ℕ) where
  pub live_stands : (bs : List Block) (from to : ℕ) → Segment color m table from to bs
      → Each (λ o. (from + 8 ≤ o.start) × (o.start + o.size ≤ to)) (live_of bs)
  unfolding live_of
  live_stands [] from to s = tt
  live_stands (b ∷ bs) from to s =
      let long : from + 8 + b.size + 16 * length bs ≤ to = segment_long color m table bs (from + 8 + b.size) to s.1 in
      by_block (λ o. (from + 8 ≤ o.start) × (o.start + o.size ≤ to)) b bs
      (λ e. (omega (arith, s.0.header), omega (arith, s.0.header)))
      (each_map (λ o. (from + 8 + b.size + 8 ≤ o.start) × (o.start + o.size ≤ to)) _ (λ o h. (omega arith, h.1)) (live_of bs) (live_stands bs (from + 8 + b.size) to s.1))

  pub live_owned : (bs : List Block) (from to a : ℕ) → Segment color m table from to bs
      → Each (λ o. owns o a ≡ true → color_at table a ≡ color o.object) (live_of bs)
  unfolding live_of
  live_owned [] from to a s = tt
  live_owned (b ∷ bs) from to a s =
      by_block (λ o. owns o a ≡ true → color_at table a ≡ color o.object) b bs
      (λ e h.
      let is : (b.header + 8 ≤ a) × (a < b.header + 8 + b.size) = owns_is (body_of_block b) a h in
      s.0.body a (omega (arith, s.0.header)) (omega (arith, s.0.header)) ∙ rw (e, tint))
      (live_owned bs (from + 8 + b.size) to a s.1)

  -- a byte of the heap that no live body owns is a header's or free
  pub live_clear : (bs : List Block) (from to a : ℕ) → Segment color m table from to bs → from ≤ a → a < to
      → Each (λ o. owns o a ≡ false) (live_of bs) → color_at table a ≤ 1
  unfolding live_of
  live_clear [] from to a s low high none = absurd (omega (arith, s))
  live_clear (b ∷ bs) from to a s low high none =
      go (λ from'. live_clear bs (from + 8 + b.size) to a s.1 from' high) (is_free b) refl (ltb a (from + 8)) refl (ltb a (from + 8 + b.size)) refl
    where
      go : (from + 8 + b.size ≤ a → Each (λ o. owns o a ≡ false) (live_of bs) → color_at table a ≤ 1)
          → (f : Bool) → is_free b ≡ f → (h : Bool) → ltb a (from + 8) ≡ h → (i : Bool) → ltb a (from + 8 + b.size) ≡ i → color_at table a ≤ 1
      go later f e true e' i e'' = omega (arith, s.0.head a low (ltb-true a (from + 8) e'))
      go later true e false e' true e'' =
          let clear : tint color b ≡ 0 = rw (e, tint) in
          omega (arith, clear, s.0.body a (ltb-false a (from + 8) e') (ltb-true a (from + 8 + b.size) e''))
      go later false e false e' true e'' =
          let low : from + 8 ≤ a = ltb-false a (from + 8) e' in
          let high : a < from + 8 + b.size = ltb-true a (from + 8 + b.size) e'' in
          let here : owns (body_of_block b) a ≡ false = (subst (Each (λ o. owns o a ≡ false)) (live_used b bs e) none).0 in
          absurd (false≢true (sym here ∙ owns_inside (body_of_block b) a (omega (arith, s.0.header)) (omega (arith, s.0.header))))
      go later true e false e' false e'' =
          later (ltb-false a (from + 8 + b.size) e'') (subst (Each (λ o. owns o a ≡ false)) (live_free b bs e) none)
      go later false e false e' false e'' =
          later (ltb-false a (from + 8 + b.size) e'') (subst (Each (λ o. owns o a ≡ false)) (live_used b bs e) none).1

  -- live bodies, free bodies and eight for each header make the whole segment
  pub live_account : (bs : List Block) (from to : ℕ) → Segment color m table from to bs
      → from + (live_bytes (live_of bs) + free_bytes bs + 8 * length bs) ≡ to
  unfolding live_of live_bytes free_bytes
  live_account [] from to s = omega (arith, s)
  live_account (b ∷ bs) from to s = go (live_account bs (from + 8 + b.size) to s.1) (is_free b) refl
    where
      go : from + 8 + b.size + (live_bytes (live_of bs) + free_bytes bs + 8 * length bs) ≡ to → (f : Bool) → is_free b ≡ f
          → from + (live_bytes (live_of (b ∷ bs)) + free_bytes (b ∷ bs) + 8 * length (b ∷ bs)) ≡ to
      go later true e =
          let size : free_size b ≡ b.size = rw (e, free_size) in
          let live : live_bytes (live_of (b ∷ bs)) ≡ live_bytes (live_of bs) = ap live_bytes (live_free b bs e) in
          omega (arith, size, live, later)
      go later false e =
          let size : free_size b ≡ 0 = rw (e, free_size) in
          let live : live_bytes (live_of (b ∷ bs)) ≡ b.size + live_bytes (live_of bs) = ap live_bytes (live_used b bs e) in
          omega (arith, size, live, later)

-- ---- one more and one less, in the order of their addresses

pub adding_between : (o : Live) (xs ys : List Live) → Each (λ x. x.start < o.start) xs → Each (λ y. o.start ≤ y.start) ys
    → adding o (xs ++ ys) ≡ xs ++ (o ∷ ys)
unfolding adding
adding_between o [] [] f g = refl
adding_between o [] (y ∷ ys) f g =
    let e : ltb y.start o.start ≡ false = le-ltb y.start o.start g.0 in
    rw (e, adding)
adding_between o (x ∷ xs) ys f g =
    let e : ltb x.start o.start ≡ true = lt-ltb x.start o.start f.0 in
    rw (e, adding) (ap (λ l. x ∷ l) (adding_between o xs ys f.1 g))

pub removing_between : (address : ℕ) (xs : List Live) (o : Live) (ys : List Live) → Each (λ x. x.start < address) xs → o.start ≡ address
    → removing address (xs ++ (o ∷ ys)) ≡ xs ++ ys
unfolding removing
removing_between address [] o ys f g =
    let e : eqb o.start address ≡ true = eq-eqb o.start address g in
    rw (e, removing)
removing_between address (x ∷ xs) o ys f g =
    let e : eqb x.start address ≡ false = ne_eqb x.start address (λ q. omega (arith, f.0)) in
    rw (e, removing) (ap (λ l. x ∷ l) (removing_between address xs o ys f.1 g))
