-- Where an instruction stands in version 2, and its check: two laws about the whole code carry all.
-- Version 2 of code in two parts is version 2 of each part, and its length is the span; so the version
-- 2 of what stands before an instruction is exactly as long as the instruction's new place.
use Prim.Native.Nat.{ℕ, suc, ◌+◌, ◌<◌, ◌≤◌}
use native.Mathlib.Numerals.{add-one}
use native.Mathlib.Omega.{arith}
use mathlib.Core.Path.{◌≡◌, refl, sym, ◌∙◌, ap, ap₂}
use mathlib.Core.List.{List, [], ◌∷◌, ◌++◌}
use lib.ListN.{length, get_or, take, drop, length-append}
use lib.Seq.{take_all, take-suc, split_at, get_or_at, get_or-append-add}
use Rattle.opcodes.specs.declared.Instr.{Instr}
use Rattle.opcodes.specs.declared.Instr.TheVariants.{End}
use Rattle.files.specs.Program.{Program}
use Rattle.opcodes.specs.View.{one, four, Aim, in_global, at_temp, check, view, check_instr}
use Rattle.instructions.specs.Moved.{moved}
use Rattle.instrumenter.specs.Instrumented.{checks_of, check_of, guarded, span_of, new_place}
use Rattle.instrumenter.proofs.Spans.{span_append, guarded_append, length-guarded}

pub view_check : (aim : Aim) (c : ℕ) → view (check_instr aim c) ≡ check aim c
view_check (in_global g k one) c = refl
view_check (in_global g k four) c = refl
view_check (at_temp a one) c = refl
view_check (at_temp a four) c = refl

module _ (color : ℕ → ℕ) (p : Program) where
  -- ---- version 2's code

  abbrev pub code₂ : List Instr
  code₂ = guarded (checks_of color p) (new_place color p) p.code

  abbrev pub before₂ : (k : ℕ) → List Instr
  before₂ k = guarded (checks_of color p) (new_place color p) (take k p.code)

  pub length-before₂ : (k : ℕ) → length (before₂ k) ≡ new_place color p k
  unfolding new_place
  length-before₂ k = length-guarded (checks_of color p) (new_place color p) (take k p.code)

  pub place_past : (k : ℕ) → length p.code ≤ k → length code₂ ≡ new_place color p k
  place_past k past =
      ap (λ l. length (guarded (checks_of color p) (new_place color p) l)) (sym (take_all k p.code past)) ∙ length-before₂ k

  module _ (k : ℕ) (inside : k < length p.code) where
    abbrev instr : Instr
    instr = get_or p.code k End

    -- version 2 cut at the new place of instruction k
    pub parts₂ : code₂ ≡ before₂ k ++ (check_of color p (view instr) ++ (moved (new_place color p) instr ∷ guarded (checks_of color p) (new_place color p) (drop (suc k) p.code)))
    unfolding guarded
    parts₂ =
        ap (guarded (checks_of color p) (new_place color p)) (split_at p.code k End inside)
        ∙ guarded_append (checks_of color p) (new_place color p) (take k p.code) (instr ∷ drop (suc k) p.code)

    pub place_next : new_place color p (k + 1) ≡ new_place color p k + length (check_of color p (view instr)) + 1
    unfolding new_place span_of
    place_next =
        ap (λ n. span_of (checks_of color p) (take n p.code)) (add-one k)
        ∙ ap (span_of (checks_of color p)) (take-suc p.code k End inside)
        ∙ span_append (checks_of color p) (take k p.code) (instr ∷ [])
        ∙ omega arith

    length-parts : length code₂ ≡ new_place color p k + (length (check_of color p (view instr)) + suc (length (guarded (checks_of color p) (new_place color p) (drop (suc k) p.code))))
    length-parts =
        ap length parts₂
        ∙ length-append (before₂ k) _
        ∙ ap₂ ◌+◌ (length-before₂ k) (length-append (check_of color p (view instr)) _)

    -- an instruction with no check stands at its new place
    pub record Alone : Type 0 where
      pub inside₂ : new_place color p k < length code₂
      pub here : get_or code₂ (new_place color p k) End ≡ moved (new_place color p) instr
      pub follows : new_place color p (k + 1) ≡ new_place color p k + 1

    pub alone : check_of color p (view instr) ≡ [] → Alone
    alone e =
        record {
          inside₂ = omega (arith, length-parts);
          here =
              ap (λ l. get_or l (new_place color p k) End) (parts₂ ∙ ap (λ c. before₂ k ++ (c ++ (moved (new_place color p) instr ∷ guarded (checks_of color p) (new_place color p) (drop (suc k) p.code)))) e)
              ∙ get_or_at (before₂ k) (moved (new_place color p) instr) _ End (new_place color p k) (length-before₂ k);
          follows = place_next ∙ ap (λ c. new_place color p k + length c + 1) e ∙ omega arith;
        }

    -- an instruction with a check stands directly behind it
    pub record Checked (c : Instr) : Type 0 where
      pub inside₂ : new_place color p k + 1 < length code₂
      pub here : get_or code₂ (new_place color p k) End ≡ c
      pub behind : get_or code₂ (new_place color p k + 1) End ≡ moved (new_place color p) instr
      pub follows : new_place color p (k + 1) ≡ new_place color p k + 1 + 1

    pub checked : (c : Instr) → check_of color p (view instr) ≡ c ∷ [] → Checked c
    checked c e =
        let rest : List Instr = guarded (checks_of color p) (new_place color p) (drop (suc k) p.code) in
        let is : code₂ ≡ before₂ k ++ (c ∷ (moved (new_place color p) instr ∷ rest)) = parts₂ ∙ ap (λ l. before₂ k ++ (l ++ (moved (new_place color p) instr ∷ rest))) e in
        record {
          inside₂ = omega (arith, ap length e, length-parts);
          here = ap (λ l. get_or l (new_place color p k) End) is ∙ get_or_at (before₂ k) c _ End (new_place color p k) (length-before₂ k);
          behind =
              ap (λ l. get_or l (new_place color p k + 1) End) is
              ∙ ap (λ n. get_or (before₂ k ++ (c ∷ (moved (new_place color p) instr ∷ rest))) (n + 1) End) (sym (length-before₂ k))
              ∙ get_or-append-add (before₂ k) (c ∷ (moved (new_place color p) instr ∷ rest)) 1 End;
          follows = place_next ∙ ap (λ l. new_place color p k + length l + 1) e ∙ omega arith;
        }
