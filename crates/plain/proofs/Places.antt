-- "A place counts the instructions before it that are not checks": so an instruction's place is the same
-- in version 2 as in the routine.
use Prim.Native.Nat.{ℕ, zero, suc, ◌+◌, ◌<◌, ◌≤◌}
use native.Mathlib.Numerals.{add-one}
use native.Mathlib.Omega.{arith}
use mathlib.Core.Path.{◌≡◌, refl, sym, ◌∙◌, ap}
use mathlib.Core.List.{List}
use mathlib.Core.Bool.{Bool, true, false}
use lib.ListN.{length, get_or, take}
use lib.Dec.{ltb}
use lib.Seq.{take-suc, take_all}
use borrow.Author.Tests.{ltb-true, ltb-false}
use Rattle.opcodes.specs.declared.Instr.{Instr}
use Rattle.files.specs.Program.{Program}
use Rattle.opcodes.specs.View.{View, act, jump, jump_if, store, check, view}
use Rattle.instructions.proofs.Moving.{moved_view, view_moved}
use Rattle.instrumenter.proofs.Guarded.{view_check}
use Rattle.stops.specs.Stop.{counts, places_in, place_in}
use Rattle.stops.proofs.Places.{places_more}
use Rattle.plain.specs.Guards.{instr_at, Stands, Guards}
use Rattle.coloring.specs.Color.{color_of_set}
use Rattle.instructions.specs.Moved.{moved}

-- the place behind an instruction
place_behind : (code : List Instr) (n : ℕ) → n < length code → place_in code (n + 1) ≡ place_in code n + counts (view (get_or code n Instr.End))
place_behind code n inside =
    ap (place_in code) (add-one n) ∙ ap places_in (take-suc code n Instr.End inside) ∙ places_more (take n code) (get_or code n Instr.End)

place_past : (code : List Instr) (n : ℕ) → length code ≤ n → place_in code n ≡ places_in code
place_past code n past = ap places_in (take_all n code past)

-- what is moved counts as it did
moved_count : (target : ℕ → ℕ) (i : Instr) → counts (view (moved target i)) ≡ counts (view i)
moved_count target i = ap counts (view_moved target i) ∙ go (view i)
  where
    go : (v : View) → counts (moved_view target v) ≡ counts v
    go (act x) = refl
    go (jump t) = refl
    go (jump_if a t) = refl
    go (store aim b s) = refl
    go (check aim c) = refl

module _ (p q : Program) (guards : Guards p q) where
  abbrev place : ℕ → ℕ
  place = guards.place

  -- an instruction and its check together count as the instruction
  stands_count : (k : ℕ) → Stands p q guards.color place guards.target k
      → place_in q.code (place (k + 1)) ≡ place_in q.code (place k) + counts (view (instr_at p k))
  stands_count k (Stands.alone none inside is next) =
      ap (place_in q.code) next
      ∙ place_behind q.code (place k) inside
      ∙ ap (λ i. place_in q.code (place k) + counts (view i)) is
      ∙ ap (λ n. place_in q.code (place k) + n) (moved_count guards.target (instr_at p k))
  stands_count k (Stands.behind u e inside guard is next) =
      let two : place (k + 1) ≡ place k + 1 + 1 = omega (arith, next) in
      let its : ℕ = color_of_set guards.color u.set in
      let nothing : counts (view (instr_at q (place k))) ≡ 0 = ap (λ i. counts (view i)) guard ∙ ap counts (view_check u.aim its) in
      let copy : counts (view (instr_at q (place k + 1))) ≡ counts (view (instr_at p k)) = ap (λ i. counts (view i)) is ∙ moved_count guards.target (instr_at p k) in
      ap (place_in q.code) two
      ∙ omega (arith, place_behind q.code (place k + 1) inside, place_behind q.code (place k) (omega arith), nothing, copy)

  pub place_same : (k : ℕ) → place_in q.code (place k) ≡ place_in p.code k
  unfolding places_in
  place_same zero = ap (place_in q.code) guards.first
  place_same (suc k) = go (ltb k (length p.code)) refl (place_same k)
    where
      go : (b : Bool) → ltb k (length p.code) ≡ b → place_in q.code (place k) ≡ place_in p.code k
          → place_in q.code (place (suc k)) ≡ place_in p.code (suc k)
      go true e same =
          let inside : k < length p.code = ltb-true k (length p.code) e in
          ap (λ n. place_in q.code (place n)) (sym (add-one k))
          ∙ stands_count k (guards.stands k inside)
          ∙ ap (λ n. n + counts (view (instr_at p k))) same
          ∙ sym (place_behind p.code k inside)
          ∙ ap (place_in p.code) (add-one k)
      go false e same =
          let past : length p.code ≤ k = ltb-false k (length p.code) e in
          ap (place_in q.code) (guards.last (suc k) (omega arith) ∙ sym (guards.last k past))
          ∙ same
          ∙ place_past p.code k past
          ∙ sym (place_past p.code (suc k) (omega arith))
