-- What a check tests, slot by slot: four bytes touch at most two slots, those of the first and of the
-- last byte.
use Prim.Native.Nat.{ℕ, zero, suc, ◌+◌, ◌-◌, ◌≤◌, ◌<◌}
use mathlib.Core.Path.{◌≡◌, refl, sym, ap, ◌∙◌}
use mathlib.Core.Bool.{Bool, true, false}
use mathlib.Core.List.{List}
use native.Mathlib.Nat.{not-suc-le-zero, le_of_suc-le-suc}
use native.Mathlib.Omega.{arith}
use lib.ListN.{get_or}
use lib.Dec.{eqb}
use borrow.Author.Tests.{lt-ltb, le-ltb, eq-eqb, ne_eqb, eqb-true, eqb-false}
use Rattle.memory.specs.Memory.{memory_size, slot, color_at, has_color, every_byte}

-- a byte that fails decides
pub every_fails : (n : ℕ) (test : ℕ → Bool) (a k : ℕ) → k < n → test (a + k) ≡ false → every_byte n test a ≡ false
unfolding every_byte
every_fails zero test a k h e = absurd (not-suc-le-zero h)
every_fails (suc n) test a zero h e =
    let start : a + 0 ≡ a = omega arith in
    rw (ap test (sym start) ∙ e, every_byte) refl
every_fails (suc n) test a (suc k) h e =
    go (test a) refl (every_fails n test (a + 1) k (le_of_suc-le-suc h) (ap test (omega arith) ∙ e))
  where
    go : (b : Bool) → test a ≡ b → every_byte n test (a + 1) ≡ false → every_byte (suc n) test a ≡ false
    go true t later = rw (t, every_byte) later
    go false t later = rw (t, every_byte) refl

-- every byte passes
pub every_passes : (n : ℕ) (test : ℕ → Bool) (a : ℕ) → ((k : ℕ) → k < n → test (a + k) ≡ true) → every_byte n test a ≡ true
unfolding every_byte
every_passes zero test a h = refl
every_passes (suc n) test a h =
    let start : test a ≡ true = ap test (omega arith) ∙ h zero (omega arith) in
    rw (start, every_byte) (every_passes n test (a + 1) (λ k l. ap test (omega arith) ∙ h (suc k) (omega arith)))

module _ (t : List ℕ) (color : ℕ) where
  pub outside : (a : ℕ) → memory_size ≤ a → has_color t color a ≡ false
  outside a h = rw (le-ltb a memory_size h, has_color) refl

  pub inside_slot : (a : ℕ) → a < memory_size → has_color t color a ≡ eqb (color_at t a) color
  inside_slot a h = rw (lt-ltb a memory_size h, has_color) refl

  same_slot : (a b : ℕ) → slot a ≡ slot b → color_at t a ≡ color_at t b
  unfolding color_at
  same_slot a b e = ap (λ s. get_or t s 0) e

  -- the bytes of a check, from a on up to the last
  module _ (n a last : ℕ) (some : 1 ≤ n) (few : n ≤ 4) (ends : last ≡ a + n - 1) where
    pub check_outside : memory_size ≤ last → false ≡ every_byte n (has_color t color) a
    check_outside h =
        let at : a + (n - 1) ≡ last = omega arith in
        sym (every_fails n (has_color t color) a (n - 1) (omega arith) (ap (has_color t color) at ∙ outside last h))

    module _ (inside : last < memory_size) (first : ℕ) (is_first : first ≡ color_at t a) where
      pub check_first : (first ≡ color → ⊥) → false ≡ every_byte n (has_color t color) a
      check_first differs =
          let at : a + 0 ≡ a = omega arith in
          sym
          (every_fails n (has_color t color) a 0 (omega arith)
          (ap (has_color t color) at ∙ inside_slot a (omega arith) ∙ ne_eqb (color_at t a) color (λ q. differs (is_first ∙ q))))

      -- the slot of a byte between is that of the first or that of the last
      between : (k : ℕ) → k < n → color_at t a ≡ color → color_at t last ≡ color → color_at t (a + k) ≡ color
      between k h e₁ e₂ = go (eqb (slot (a + k)) (slot a)) refl
        where
          go : (b : Bool) → eqb (slot (a + k)) (slot a) ≡ b → color_at t (a + k) ≡ color
          go true e = same_slot (a + k) a (eqb-true _ _ e) ∙ e₁
          go false e =
              let differ : (slot (a + k) ≡ slot a → ⊥) = eqb-false _ _ e in
              same_slot (a + k) last (omega arith) ∙ e₂

      pub check_last : first ≡ color → (found : ℕ) → found ≡ color_at t last → eqb found color ≡ every_byte n (has_color t color) a
      check_last e₁ found e = go (eqb (color_at t last) color) refl
        where
          at : a + (n - 1) ≡ last
          at = omega arith

          go : (b : Bool) → eqb (color_at t last) color ≡ b → eqb found color ≡ every_byte n (has_color t color) a
          go true q =
              ap (λ x. eqb x color) e ∙ q
              ∙ sym
              (every_passes n (has_color t color) a
              (λ k l. inside_slot (a + k) (omega arith) ∙ eq-eqb (color_at t (a + k)) color (between k l (sym is_first ∙ e₁) (eqb-true _ _ q))))
          go false q =
              ap (λ x. eqb x color) e ∙ q
              ∙ sym (every_fails n (has_color t color) a (n - 1) (omega arith) (ap (has_color t color) at ∙ inside_slot last inside ∙ q))
