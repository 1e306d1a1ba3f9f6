-- The two passes, one instruction at a time.
use Prim.Native.Nat.{ℕ, ◌+◌, ◌*◌, ◌<◌, ◌≤◌}
use native.Mathlib.Omega.{arith}
use native.Mathlib.Numerals.{add-one}
use native.Mathlib.Decide.{dec_lt}
use mathlib.Core.Path.{◌≡◌, refl, sym, ◌∙◌, ap}
use mathlib.Core.List.{List, [], ◌∷◌, ◌++◌, append_assoc, append-nil}
use lib.ListN.{length, get_or, take, set, length-set, length-append}
use lib.Seq.{take-suc, get_or-set_same, get_or-set_other}
use Rattle.opcodes.specs.declared.Instr.{Instr}
use Rattle.files.specs.Held.{filled}
use Rattle.files.proofs.Filled.{filled_more}
use Rattle.instructions.specs.Moved.{moved}
use Rattle.instrumenter.specs.Instrumented.{guarded, span_of}
use Rattle.instrumenter.proofs.Spans.{span_append, guarded_append}

-- the new places of the first `at` instructions, and that of the next one
pub record Placing (checks : Instr → List Instr) (code : List Instr) (at place : ℕ) (places : List ℕ) : Type 0 where
  pub place_is : place ≡ span_of checks (take at code)
  pub place_most : place ≤ 2 * at
  pub long : length places ≡ 1000
  pub upto : (t : ℕ) → t < at → get_or places t 0 ≡ span_of checks (take t code)

pub placing_none : (checks : Instr → List Instr) (code : List Instr) {places : List ℕ} → length places ≡ 1000 → Placing checks code 0 0 places
unfolding span_of
placing_none checks code l =
    record { place_is = refl; place_most = omega arith; long = l; upto = λ t h. absurd (omega arith) }

-- version 2 of the first `at` instructions
pub record Guarding (checks : Instr → List Instr) (target : ℕ → ℕ) (code : List Instr) (at count : ℕ) (list : List Instr) : Type 0 where
  pub count_is : count ≡ length (guarded checks target (take at code))
  pub count_most : count ≤ 2 * at
  pub list_is : list ≡ filled 2000 Instr.End (guarded checks target (take at code))

pub guarding_none : (checks : Instr → List Instr) (target : ℕ → ℕ) (code : List Instr) {list : List Instr} → list ≡ filled 2000 Instr.End [] → Guarding checks target code 0 0 list
unfolding guarded
guarding_none checks target code e = record { count_is = refl; count_most = omega arith; list_is = e }

-- one instruction more
module _ (checks : Instr → List Instr) (code : List Instr) {at : ℕ} (inside : at < length code) (few : length code ≤ 1000)
    {before : List Instr} (is : before ≡ checks (get_or code at Instr.End)) where
  next : take (at + 1) code ≡ take at code ++ get_or code at Instr.End ∷ []
  next = ap (λ n. take n code) (add-one at) ∙ take-suc code at Instr.End inside

  span_next : span_of checks (take (at + 1) code) ≡ span_of checks (take at code) + (length before + 1)
  unfolding span_of
  span_next = rw (next, span_append, ← is) (omega arith)

  pub placing_more : {place span : ℕ} {places : List ℕ} → Placing checks code at place places → span ≡ length before + 1 → span ≤ 2
      → Placing checks code (at + 1) (place + span) (set places at place)
  placing_more {place} {span} {places} p sp two =
      record {
        place_is = omega (arith, span_next, p.place_is);
        place_most = omega (arith, p.place_most);
        long = length-set places at place ∙ p.long;
        upto = λ t h. here t h (dec_lt t at);
      }
    where
      here : (t : ℕ) → t < at + 1 → Dec (t < at) → get_or (set places at place) t 0 ≡ span_of checks (take t code)
      here t h (yes k) = get_or-set_other places at t place 0 (λ (e : t ≡ at). omega arith) ∙ p.upto t k
      here t h (no k) =
          let e : t ≡ at = omega arith in
          rw e (get_or-set_same places at place 0 (omega (arith, p.long)) ∙ p.place_is)

  module _ (target : ℕ → ℕ) where
    abbrev done : List Instr
    done = guarded checks target (take at code)

    guarded_next : guarded checks target (take (at + 1) code) ≡ (done ++ before) ++ moved target (get_or code at Instr.End) ∷ []
    unfolding guarded
    guarded_next =
        ap (guarded checks target) next ∙ guarded_append checks target (take at code) (get_or code at Instr.End ∷ [])
        ∙ ap (λ l. done ++ (l ++ moved target (get_or code at Instr.End) ∷ [])) (sym is) ∙ sym (append_assoc done before _)

    -- behind its check, if it has one, stands its copy
    module _ {count : ℕ} {list : List Instr} (s : Guarding checks target code at count list) where
      guarding_more : {behind : ℕ} {past : List Instr} {copy : Instr} → length before ≤ 1 → behind ≡ count + length before → past ≡ filled 2000 Instr.End (done ++ before)
          → copy ≡ moved target (get_or code at Instr.End) → Guarding checks target code (at + 1) (behind + 1) (set past behind copy)
      guarding_more {behind} {past} {copy} one b p e =
          let long : behind ≡ length (done ++ before) = rw length-append (omega (arith, s.count_is)) in
          let all : (done ++ before) ++ copy ∷ [] ≡ guarded checks target (take (at + 1) code) = ap (λ i. (done ++ before) ++ i ∷ []) e ∙ sym guarded_next in
          record {
            count_is = rw (← all, length-append) (omega arith);
            count_most = omega (arith, s.count_most);
            list_is =
                ap (λ l. set l behind copy) p ∙ filled_more 2000 Instr.End (done ++ before) copy behind long (omega (arith, s.count_most))
                ∙ ap (filled 2000 Instr.End) all;
          }

      pub guarding_checked : {check : Instr} → before ≡ check ∷ [] → {copy : Instr} → copy ≡ moved target (get_or code at Instr.End)
          → Guarding checks target code (at + 1) (count + 1 + 1) (set (set list count check) (count + 1) copy)
      guarding_checked {check} c e =
          let one : length before ≡ 1 = ap length c in
          guarding_more (omega arith) (omega arith)
          (ap (λ l. set l count check) s.list_is ∙ filled_more 2000 Instr.End done check count s.count_is (omega (arith, s.count_most)) ∙ ap (λ l. filled 2000 Instr.End (done ++ l)) (sym c))
          e

      pub guarding_alone : before ≡ [] → {copy : Instr} → copy ≡ moved target (get_or code at Instr.End)
          → Guarding checks target code (at + 1) (count + 1) (set list count copy)
      guarding_alone c e =
          let none : length before ≡ 0 = ap length c in
          guarding_more (omega arith) (omega arith) (s.list_is ∙ ap (filled 2000 Instr.End) (sym (append-nil done) ∙ ap (λ l. done ++ l) (sym c))) e
