-- The loop over sets: what is left to read from here answers what the whole reading does, and the arrays hold what
-- is done. All members together are no more than the bytes read.
use mathlib.Core.Path.{◌≡◌, refl, sym, ap, ◌∙◌}
use mathlib.Core.List.{List, [], ◌∷◌, ◌++◌, append_assoc, append-nil}
use Prim.Native.Nat.{ℕ, suc, ◌+◌, ◌<◌, ◌≤◌}
use native.Mathlib.Omega.{arith}
use lib.ListN.{length, set, length-append}
use lib.Seq.{sets}
use Rattle.std.specs.Prelude.{Ok, Err}
use Rattle.numbers.specs.declared.refusal.Refusal.{Refusal}
use Rattle.numbers.specs.declared.Cursor.{Cursor}
use Rattle.files.specs.declared.arrays.Sets.{Sets}
use Rattle.files.specs.Held.{filled, ends_from, joined, sets_held}
use Rattle.files.proofs.Filled.{filled_more, filled_run, length-filled}
use Rattle.files.specs.Inside.{SetIs}
use Rattle.files.proofs.Answered.{same_thing, same_cursor}
use Rattle.files.proofs.MemberLoop.{set_bounds}
use Rattle.files.proofs.Loop.{Progress, begin, onward}
use Rattle.files.specs.Parsing.{Answer, read_set}

-- ---- one set: what its reading's answer says

pub record ASet (answer : Answer (List ℕ)) (end : ℕ) (next : Cursor) (before : List ℕ) (from : ℕ) (after : List ℕ) : Type 0 where
  pub set : List ℕ
  pub read : answer ≡ Ok (set, next)
  pub last : end ≡ from + length set
  pub room : after ≡ sets before from set

pub a_set : (answer : Answer (List ℕ)) {r : Answer ℕ} {before : List ℕ} {from : ℕ} {after : List ℕ} {end : ℕ} {next : Cursor}
    → SetIs answer r before from after → r ≡ Ok (end, next) → ASet answer end next before from after
a_set (Ok s) {r} {before} {from} {after} {end} {next} h e =
    let same : ◌≡◌ {A = Answer ℕ} (Ok (end, next)) (Ok (from + length s.0, s.1)) = sym e ∙ h.answer in
    record { set = s.0; read = ap (λ (c : Cursor). Ok (s.0, c)) (sym (same_cursor same)); last = same_thing same; room = h.room }
a_set (Err q) {r} {before} {from} {after} {end} {next} h e =
    let clash : ◌≡◌ {A = Answer ℕ} (Ok (end, next)) (Err q) = sym e ∙ h in
    let none : ⊥ = cc in
    absurd none

pub no_set : (answer : Answer (List ℕ)) (before : List ℕ) (from : ℕ) (after : List ℕ) {r : Answer ℕ} {q : Refusal}
    → SetIs answer r before from after → r ≡ Err q → answer ≡ Err q
no_set (Ok s) before from after {r} {q} h e =
    let clash : ◌≡◌ {A = Answer ℕ} (Err q) (Ok (from + length s.0, s.1)) = sym e ∙ h.answer in
    let none : ⊥ = cc in
    absurd none
no_set (Err p) before from after {r} {q} h e =
    let same : ◌≡◌ {A = Answer ℕ} (Err q) (Err p) = sym e ∙ h in
    let reason : p ≡ q = cc in
    ap (λ (x : Refusal). Err x) reason

-- ---- one set more

pub joined_more : (done : List (List ℕ)) (s : List ℕ) → joined (done ++ s ∷ []) ≡ joined done ++ s
unfolding joined
joined_more [] s = append-nil s
joined_more (d ∷ done) s = ap (λ (l : List ℕ). d ++ l) (joined_more done s) ∙ sym (append_assoc d (joined done) s)

pub ends_more : (from : ℕ) (done : List (List ℕ)) (s : List ℕ)
    → ends_from from (done ++ s ∷ []) ≡ ends_from from done ++ (from + length (joined done) + length s) ∷ []
unfolding ends_from joined
ends_more from [] s = let e : from + length s ≡ from + 0 + length s = omega arith in ap (λ (n : ℕ). n ∷ []) e
ends_more from (d ∷ done) s =
    let e : from + length d + length (joined done) + length s ≡ from + length (d ++ joined done) + length s = rw length-append (omega arith) in
    ap (λ (l : List ℕ). (from + length d) ∷ l)
    (ends_more (from + length d) done s ∙ ap (λ (n : ℕ). ends_from (from + length d) done ++ n ∷ []) e)

pub ends_length : (from : ℕ) (done : List (List ℕ)) → length (ends_from from done) ≡ length done
unfolding ends_from
ends_length from [] = refl
ends_length from (d ∷ done) = ap suc (ends_length (from + length d) done)

-- ---- the loop

pub record Gathering (objects count : ℕ) (file : List ℕ) (from : ℕ) (ends members : List ℕ) (place next i : ℕ) : Type 0 where
  pub done : List (List ℕ)
  pub read : Progress (read_set objects file) count from next i done
  pub held_ends : ends ≡ filled 400 0 (ends_from 0 done)
  pub held_members : members ≡ filled 16384 0 (joined done)
  pub placed : place ≡ length (joined done)
  pub behind : place ≤ next
  pub fits : place ≤ 16384

pub start : (objects count : ℕ) (file : List ℕ) (from : ℕ) {ends members : List ℕ} → ends ≡ filled 400 0 [] → members ≡ filled 16384 0 []
    → Gathering objects count file from ends members 0 from 0
unfolding ends_from joined
start objects count file from e m =
    record
    { done = []; read = begin; held_ends = e; held_members = m; placed = refl; behind = omega arith; fits = omega arith }

pub start_blank : (objects count : ℕ) (file : List ℕ) (from : ℕ) {s : Sets} → s ≡ sets_held [] → Gathering objects count file from s.ends s.members 0 from 0
unfolding ends_from joined
start_blank objects count file from e = start objects count file from (ap (λ (s : Sets). s.ends) e) (ap (λ (s : Sets). s.members) e)

module _ {objects count : ℕ} {file : List ℕ} {from : ℕ} {ends members : List ℕ} {place next i : ℕ}
    (g : Gathering objects count file from ends members place next i) where
  pub more : i < count → count ≤ 400 → length file ≤ 16384 → {s : List ℕ} {past : Cursor} {after : List ℕ} {end : ℕ}
      → read_set objects file next ≡ Ok (s, past) → after ≡ sets members place s → end ≡ place + length s
      → Gathering objects count file from (set ends i end) after end past.at (i + 1)
  more h few short {s} {past} {after} e room last =
      let b = set_bounds objects file next e in
      let fits : place + length s ≤ 16384 = omega (arith, b.0, b.1, g.behind) in
      let first : i ≡ length (ends_from 0 g.done) = g.read.counted ∙ sym (ends_length 0 g.done) in
      let total : place + length s ≡ 0 + length (joined g.done) + length s = omega (arith, g.placed) in
      rw last
      (record {
        done = g.done ++ s ∷ [];
        read = onward g.read h e;
        held_ends =
            ap (λ (l : List ℕ). set l i (place + length s)) g.held_ends
            ∙ filled_more 400 0 (ends_from 0 g.done) (place + length s) i first (omega arith)
            ∙ ap (λ (n : ℕ). filled 400 0 (ends_from 0 g.done ++ n ∷ [])) total
            ∙ ap (filled 400 0) (sym (ends_more 0 g.done s));
        held_members =
            room ∙ ap (λ (l : List ℕ). sets l place s) g.held_members
            ∙ filled_run 16384 0 s (joined g.done) place g.placed fits ∙ ap (filled 16384 0) (sym (joined_more g.done s));
        placed = rw (joined_more, length-append) (omega (arith, g.placed));
        behind = omega (arith, b.0, g.behind);
        fits = fits;
      })

  -- the room for members keeps its length
  pub roomy : length members ≡ 16384
  roomy = ap length g.held_members ∙ length-filled 16384 0 (joined g.done) (omega (arith, g.placed, g.fits))
