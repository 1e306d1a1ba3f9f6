-- The loop over a set's members: what is left to read from here answers what the whole reading does, and the room
-- holds what is done. A member takes a byte of the file at least.
use mathlib.Core.Path.{◌≡◌, refl, sym, ap, ◌∙◌}
use mathlib.Core.List.{List, [], ◌∷◌, ◌++◌}
use mathlib.Core.Bool.{Bool, true, false}
use Prim.Native.Nat.{ℕ, zero, suc, ◌+◌, ◌-◌, ◌<◌, ◌≤◌}
use native.Mathlib.Omega.{arith}
use lib.ListN.{length, set, length-append}
use lib.Seq.{sets, length-sets}
use lib.Dec.{leb, ltb}
use borrow.Author.Tests.{leb-true, ltb-true}
use Rattle.std.specs.Prelude.{Ok, Err}
use Rattle.numbers.specs.declared.refusal.Cause.{Cause}
use Rattle.numbers.specs.declared.Cursor.{Cursor}
use Rattle.numbers.specs.declared.refusal.Refusal.{Refusal}
use Rattle.numbers.specs.Number.{Read}
use Rattle.numbers.proofs.Laws.{read_bounds}
use Rattle.opcodes.specs.Ranges.{within}
use Rattle.files.specs.Reading.{judged, is_member}
use Rattle.files.proofs.Filled.{sets_append}
use Rattle.files.proofs.Judging.{good}
use Rattle.files.proofs.Answered.{same_thing, same_cursor}
use Rattle.files.specs.Parsing.{Answer, then, cursor, member_at, members_from, read_set}

-- one turn
module _ (left objects : ℕ) (file : List ℕ) (at low : ℕ) (done : List ℕ) where
  abbrev turn : Read → Answer (List ℕ)
  turn r = then r λ n next. members_from left objects file next.at (n + 1) (done ++ n ∷ [])

  pub member_more : {n : ℕ} {next : Cursor} → member_at objects low file at ≡ Ok (n, next)
      → members_from (suc left) objects file at low done ≡ members_from left objects file next.at (n + 1) (done ++ n ∷ [])
  unfolding members_from
  member_more e = ap turn e

  pub member_stops : {q : Refusal} → member_at objects low file at ≡ Err q → members_from (suc left) objects file at low done ≡ Err q
  unfolding members_from
  member_stops e = ap turn e

-- ---- a member is an object's number, and stands in the file

pub record Member (objects : ℕ) (file : List ℕ) (at low n next : ℕ) : Type 0 where
  pub rises : low ≤ n
  pub known : n < objects
  pub behind : at < next
  pub inside : next ≤ length file

member_right : (objects low n : ℕ) → is_member objects low n ≡ true → (low ≤ n) × (n < objects)
member_right objects low n e = go (leb low n) refl (ltb n objects) refl
  where
    go : (a : Bool) → leb low n ≡ a → (b : Bool) → ltb n objects ≡ b → (low ≤ n) × (n < objects)
    go true p true q = (leb-true low n p, ltb-true n objects q)
    go true p false q = let z : false ≡ true = sym (simp (p, q, is_member)) ∙ e in let w : ◌≡◌ {A = ℕ} 0 1 = cc in absurd (omega arith)
    go false p b q = let z : false ≡ true = sym (simp (p, is_member)) ∙ e in let w : ◌≡◌ {A = ℕ} 0 1 = cc in absurd (omega arith)

pub member : (objects : ℕ) (file : List ℕ) (at low : ℕ) {n : ℕ} {next : Cursor} → member_at objects low file at ≡ Ok (n, next)
    → Member objects file at low n next.at
member objects file at low {n} e =
    let g = good Cause.Field (is_member objects low) file at e in
    let r = member_right objects low n g.right in
    let b = read_bounds file at g.read in
    record { rises = r.0; known = r.1; behind = b.0; inside = b.1 }

-- so many members take as many bytes at least
pub members_bounds : (left objects : ℕ) (file : List ℕ) (at low : ℕ) (done : List ℕ) {all : List ℕ} {next : Cursor} → at ≤ length file
    → members_from left objects file at low done ≡ Ok (all, next) → (at + length all ≤ next.at + length done) × (next.at ≤ length file)
unfolding members_from
members_bounds zero objects file at low done {all} {next} h e =
    let same : done ≡ all = same_thing e in
    let there : at ≡ next.at = ap (λ (c : Cursor). c.at) (same_cursor e) in
    let l : length done ≡ length all = ap length same in
    (omega arith, omega arith)
members_bounds (suc left) objects file at low done {all} {next} h e =
    go (member_at objects low file at) refl (λ c n h e. members_bounds left objects file c (n + 1) (done ++ n ∷ []) h e)
  where
    go : (r : Read) → member_at objects low file at ≡ r
        → ((c n : ℕ) → c ≤ length file → members_from left objects file c (n + 1) (done ++ n ∷ []) ≡ Ok (all, next)
        → (c + length all ≤ next.at + length (done ++ n ∷ [])) × (next.at ≤ length file))
        → (at + length all ≤ next.at + length done) × (next.at ≤ length file)
    go (Ok (n, c)) r ih =
        let m = member objects file at low r in
        let i = ih c.at n m.inside (sym (member_more left objects file at low done r) ∙ e) in
        let l : length (done ++ n ∷ []) ≡ length done + 1 = length-append done (n ∷ []) in
        (omega (arith, i.0, m.behind), i.1)
    go (Err q) r ih =
        let clash : ◌≡◌ {A = Answer (List ℕ)} (Err q) (Ok (all, next)) = sym (member_stops left objects file at low done r) ∙ e in
        let w : ◌≡◌ {A = ℕ} 0 1 = cc in
        absurd (omega arith)

pub set_bounds : (objects : ℕ) (file : List ℕ) (at : ℕ) {set : List ℕ} {next : Cursor} → read_set objects file at ≡ Ok (set, next)
    → (at + length set ≤ next.at) × (next.at ≤ length file)
set_bounds objects file at {set} {next} e = go (judged Cause.Count (within 1 objects) file at) refl
  where
    members : Read → Answer (List ℕ)
    members r = then r λ n past. members_from n objects file past.at 0 []

    go : (r : Read) → judged Cause.Count (within 1 objects) file at ≡ r → (at + length set ≤ next.at) × (next.at ≤ length file)
    go (Ok (n, c)) r =
        let b = read_bounds file at (good Cause.Count (within 1 objects) file at r).read in
        let m = members_bounds n objects file c.at 0 [] b.1 (sym (ap members r) ∙ e) in
        (omega (arith, m.0, b.0), m.1)
    go (Err q) r =
        let clash : ◌≡◌ {A = Answer (List ℕ)} (Err q) (Ok (set, next)) = sym (ap members r) ∙ e in
        let w : ◌≡◌ {A = ℕ} 0 1 = cc in
        absurd (omega arith)

-- ---- the loop

pub record Taking (objects count : ℕ) (file : List ℕ) (from : ℕ) (before : List ℕ) (start : ℕ) (members : List ℕ) (next low place : ℕ) : Type 0 where
  pub done : List ℕ
  pub at_most : place ≤ start + count
  pub counted : place ≡ start + length done
  pub rest : members_from (start + count - place) objects file next low done ≡ members_from count objects file from 0 []
  pub room : members ≡ sets before start done
  pub behind : place ≤ next

pub begin : (objects count : ℕ) (file : List ℕ) (from : ℕ) (before : List ℕ) (start : ℕ) → start ≤ from
    → Taking objects count file from before start before from 0 start
begin objects count file from before start h =
    let all : count ≡ start + count - start = omega arith in
    record {
      done = [];
      at_most = omega arith;
      counted = omega arith;
      rest = ap (λ (n : ℕ). members_from n objects file from 0 []) (sym all);
      room = refl;
      behind = h;
    }

module _ {objects count : ℕ} {file : List ℕ} {from : ℕ} {before : List ℕ} {start : ℕ} {members : List ℕ} {next low place : ℕ}
    (t : Taking objects count file from before start members next low place) where
  here : place < start + count → members_from (suc (start + count - (place + 1))) objects file next low t.done ≡ members_from count objects file from 0 []
  here h =
      let one : suc (start + count - (place + 1)) ≡ start + count - place = omega arith in
      ap (λ (n : ℕ). members_from n objects file next low t.done) one ∙ t.rest

  pub as_long : length members ≡ length before
  as_long = ap length t.room ∙ length-sets before start t.done

  pub more : place < start + count → {n : ℕ} {c : Cursor} → member_at objects low file next ≡ Ok (n, c)
      → Taking objects count file from before start (set members place n) c.at (n + 1) (place + 1)
  more h {n} {c} e =
      record {
        done = t.done ++ n ∷ [];
        at_most = omega arith;
        counted = rw length-append (omega (arith, t.counted));
        rest = sym (member_more (start + count - (place + 1)) objects file next low t.done e) ∙ here h;
        room = ap (λ (l : List ℕ). set l place n) t.room ∙ ap (λ (p : ℕ). set (sets before start t.done) p n) t.counted
            ∙ sym (sets_append before start t.done (n ∷ []));
        behind = omega (arith, t.behind, (member objects file next low e).behind);
      }

  pub stops : place < start + count → {q : Refusal} → member_at objects low file next ≡ Err q → members_from count objects file from 0 [] ≡ Err q
  stops h e = sym (here h) ∙ member_stops (start + count - (place + 1)) objects file next low t.done e

  pub ends : start + count ≤ place → members_from count objects file from 0 [] ≡ Ok (t.done, cursor next)
  unfolding members_from
  ends h =
      let none : 0 ≡ start + count - place = omega arith in
      sym t.rest ∙ ap (λ (n : ℕ). members_from n objects file next low t.done) (sym none)
