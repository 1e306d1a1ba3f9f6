-- Several things one after the other: what is read is what is spelled there. The law is one for objects, sets and
-- instructions; a set's members have a law of their own, since each bounds the next.
use Prim.Native.Nat.{ℕ, zero, suc, ◌+◌, ◌^◌, ◌<◌}
use mathlib.Core.Path.{◌≡◌, refl, sym, ap, ◌∙◌}
use mathlib.Core.List.{List, [], ◌∷◌, ◌++◌, append_assoc, append-nil}
use mathlib.Core.Bool.{Bool, true, false}
use native.Mathlib.Omega.{arith}
use lib.ListN.{length}
use lib.Dec.{leb, ltb}
use borrow.Author.Tests.{ltb-true}
use Rattle.std.specs.Prelude.{Ok, Err}
use Rattle.numbers.specs.declared.Cursor.{Cursor}
use Rattle.numbers.specs.declared.refusal.Cause.{Cause}
use Rattle.numbers.specs.Number.{Read}
use Rattle.numbers.specs.Number.{spell}
use Rattle.opcodes.specs.declared.Object.{Object}
use Rattle.opcodes.specs.declared.Instr.{Instr}
use Rattle.opcodes.specs.Ranges.{Scope, within}
use Rattle.files.specs.Reading.{judged, is_member}
use Rattle.files.proofs.Answered.{same_thing, same_cursor}
use Rattle.files.proofs.Loop.{one_more}
use Rattle.files.proofs.MemberLoop.{member_more}
use Rattle.files.specs.Writing.{spell_all, spell_object, spell_set, spell_instr, every, good_object, good_set, good_instr, rising, both}
use Rattle.files.proofs.SpelledNumbers.{Stands, stands_nil, stands_append, stands_split, judged_of_read, read_of_judged}
use Rattle.opcodes.proofs.Bounds.{within_bounds}
use Rattle.files.proofs.Tests.{both_true, both_left, both_right, both_is, every_head, every_tail, every_cons}
use Rattle.files.proofs.SpelledObjects.{object_of_read, read_of_object}
use Rattle.files.proofs.SpelledInstructions.{Bounded, instr_of_read, read_of_instr}
use Rattle.files.specs.Parsing.{Answer, then, several, cursor, read_object, member_at, members_from, read_set, read_instr}

-- what k things that were read are: so many, good, and spelled there
pub record Several {A : Type 0} (spelling : A → List ℕ) (good : A → Bool) (file : List ℕ) (at left : ℕ) (done all : List A) (next : ℕ) : Type 0 where
  pub things : List A
  pub whole : all ≡ done ++ things
  pub number : length things ≡ left
  pub stood : Stands file at (spell_all spelling things) next
  pub passes : every good things ≡ true

module _ {A : Type 0} (one : ℕ → Answer A) (spelling : A → List ℕ) (good : A → Bool) (file : List ℕ) where
  module _ (down : (at : ℕ) (a : A) (c : Cursor) → one at ≡ Ok (a, c) → Stands file at (spelling a) c.at × (good a ≡ true)) where
    pub several_of_read : (left at : ℕ) (done all : List A) (c : Cursor) → several left one at done ≡ Ok (all, c) → Several spelling good file at left done all c.at
    unfolding several spell_all every
    several_of_read zero at done all c e =
        let same : done ≡ all = same_thing e in
        let here : cursor at ≡ c = same_cursor e in
        record { things = []; whole = sym same ∙ sym (append-nil done); number = refl; stood = rw (← here) (stands_nil file at); passes = refl }
    several_of_read (suc left) at done all c e = go (λ a mid. several_of_read left mid (done ++ a ∷ []) all c) (one at) refl e
      where
        go : ((a : A) (mid : ℕ) → several left one mid (done ++ a ∷ []) ≡ Ok (all, c) → Several spelling good file mid left (done ++ a ∷ []) all c.at)
            → (r : Answer A) → one at ≡ r → then r (λ a mid. several left one mid.at (done ++ a ∷ [])) ≡ Ok (all, c)
            → Several spelling good file at (suc left) done all c.at
        go ih (Ok r) f e =
            let s = ih r.0 r.1.at e in
            let d = down at r.0 r.1 f in
            record {
              things = r.0 ∷ s.things;
              whole = s.whole ∙ append_assoc done (r.0 ∷ []) s.things;
              number = ap suc s.number;
              stood = stands_append (spelling r.0) (spell_all spelling s.things) d.0 s.stood;
              passes = every_cons good r.0 s.things d.1 s.passes;
            }
        go ih (Err q) f e =
            let clash : ◌≡◌ {A = Answer (List A)} (Err q) (Ok (all, c)) = e in
            let none : ⊥ = cc in
            absurd none

  module _ (up : (at next : ℕ) (a : A) → Stands file at (spelling a) next → good a ≡ true → one at ≡ Ok (a, cursor next)) where
    pub read_of_several : (at next : ℕ) (done things : List A) → Stands file at (spell_all spelling things) next → every good things ≡ true
        → several (length things) one at done ≡ Ok (done ++ things, cursor next)
    unfolding several spell_all every
    read_of_several at next done [] s g =
        let here : next ≡ at = omega (arith, s.ends) in
        rw (here, append-nil)
    read_of_several at next done (a ∷ things) s g =
        let mid : ℕ = at + length (spelling a) in
        let (first, rest) = stands_split (spelling a) (spell_all spelling things) s in
        let read : one at ≡ Ok (a, cursor mid) = up at mid a first (every_head good a things g) in
        one_more one (length things) at done read
        ∙ read_of_several mid next (done ++ a ∷ []) things rest (every_tail good a things g)
        ∙ ap (λ (l : List A). Ok (l, cursor next)) (append_assoc done (a ∷ []) things)

-- ---- a set

record Members (objects : ℕ) (file : List ℕ) (at left low : ℕ) (done all : List ℕ) (next : ℕ) : Type 0 where
  things : List ℕ
  whole : all ≡ done ++ things
  number : length things ≡ left
  stood : Stands file at (spell_all spell things) next
  passes : rising objects low things ≡ true

members_of_read : (left objects : ℕ) (file : List ℕ) (at low : ℕ) (done all : List ℕ) (c : Cursor)
    → members_from left objects file at low done ≡ Ok (all, c) → Members objects file at left low done all c.at
unfolding members_from spell_all rising
members_of_read zero objects file at low done all c e =
    let same : done ≡ all = same_thing e in
    let here : cursor at ≡ c = same_cursor e in
    record { things = []; whole = sym same ∙ sym (append-nil done); number = refl; stood = rw (← here) (stands_nil file at); passes = refl }
members_of_read (suc left) objects file at low done all c e =
    go (λ n mid. members_of_read left objects file mid (n + 1) (done ++ n ∷ []) all c) (member_at objects low file at) refl e
  where
    go : ((n mid : ℕ) → members_from left objects file mid (n + 1) (done ++ n ∷ []) ≡ Ok (all, c) → Members objects file mid left (n + 1) (done ++ n ∷ []) all c.at)
        → (r : Read) → member_at objects low file at ≡ r
        → then r (λ n mid. members_from left objects file mid.at (n + 1) (done ++ n ∷ [])) ≡ Ok (all, c)
        → Members objects file at (suc left) low done all c.at
    go ih (Ok (n, d)) r e =
        let s = ih n d.at e in
        let j = judged_of_read Cause.Field (is_member objects low) file at r in
        record {
          things = n ∷ s.things;
          whole = s.whole ∙ append_assoc done (n ∷ []) s.things;
          number = ap suc s.number;
          stood = stands_append (spell n) (spell_all spell s.things) j.stood s.stood;
          passes = simp (both_is, j.passes, rising) s.passes;
        }
    go ih (Err q) r e =
        let clash : ◌≡◌ {A = Answer (List ℕ)} (Err q) (Ok (all, c)) = e in
        let none : ⊥ = cc in
        absurd none

read_of_members : (objects : ℕ) → objects < 2 ^ 32 → (file : List ℕ) (at low next : ℕ) (done things : List ℕ)
    → Stands file at (spell_all spell things) next → rising objects low things ≡ true
    → members_from (length things) objects file at low done ≡ Ok (done ++ things, cursor next)
unfolding members_from spell_all rising
read_of_members objects few file at low next done [] s g =
    let here : next ≡ at = omega (arith, s.ends) in
    rw (here, append-nil)
read_of_members objects few file at low next done (n ∷ things) s g =
    go (both (leb low n) (ltb n objects)) refl g
    (λ g'. read_of_members objects few file (at + length (spell n)) (n + 1) next (done ++ n ∷ []) things split.1 g')
  where
    split : Stands file at (spell n) (at + length (spell n)) × Stands file (at + length (spell n)) (spell_all spell things) next
    split = stands_split (spell n) (spell_all spell things) s

    go : (b : Bool) → both (leb low n) (ltb n objects) ≡ b → elim b as (λ _. Bool) [ true ↦ rising objects (n + 1) things | false ↦ false ] ≡ true
        → (rising objects (n + 1) things ≡ true → members_from (length things) objects file (at + length (spell n)) (n + 1) (done ++ n ∷ []) ≡ Ok ((done ++ n ∷ []) ++ things, cursor next))
        → members_from (suc (length things)) objects file at low done ≡ Ok (done ++ n ∷ things, cursor next)
    go true p g ih =
        let read : member_at objects low file at ≡ Ok (n, cursor (at + length (spell n))) =
        read_of_judged Cause.Field (is_member objects low) file at
        (record { stood = split.0; passes = sym (both_is (leb low n) (ltb n objects)) ∙ p; small = omega (arith, ltb-true n objects (both_right (leb low n) (ltb n objects) p)) }) in
        member_more (length things) objects file at low done read ∙ ih g ∙ ap (λ (l : List ℕ). Ok (l, cursor next)) (append_assoc done (n ∷ []) things)
    go false p g ih = let z : ◌≡◌ {A = ℕ} 0 1 = cc in absurd (omega arith)

-- what is left to read behind a set's count
abbrev after_count : (objects : ℕ) → List ℕ → Read → Answer (List ℕ)
after_count objects file r = then r λ n past. members_from n objects file past.at 0 []

set_of_read : (objects : ℕ) (file : List ℕ) (at : ℕ) (s : List ℕ) (c : Cursor) → read_set objects file at ≡ Ok (s, c)
    → Stands file at (spell_set s) c.at × (good_set objects s ≡ true)
set_of_read objects file at s c e = go (judged Cause.Count (within 1 objects) file at) refl e
  where
    go : (r : Read) → judged Cause.Count (within 1 objects) file at ≡ r → after_count objects file r ≡ Ok (s, c)
        → Stands file at (spell_set s) c.at × (good_set objects s ≡ true)
    go (Ok (n, d)) r e =
        let j = judged_of_read Cause.Count (within 1 objects) file at r in
        let m = members_of_read n objects file d.at 0 [] s c e in
        let same : s ≡ m.things = m.whole in
        let long : length s ≡ n = ap length same ∙ m.number in (
          stands_append {mid = d.at} (spell (length s)) (spell_all spell s) (rw long j.stood) (rw same m.stood),
          both_true (within 1 objects (length s)) (rising objects 0 s) (rw long j.passes) (rw same m.passes),
        )
    go (Err q) r e =
        let clash : ◌≡◌ {A = Answer (List ℕ)} (Err q) (Ok (s, c)) = e in
        let none : ⊥ = cc in
        absurd none

read_of_set : (objects : ℕ) → objects < 2 ^ 32 → (file : List ℕ) (at next : ℕ) (s : List ℕ)
    → Stands file at (spell_set s) next → good_set objects s ≡ true → read_set objects file at ≡ Ok (s, cursor next)
read_of_set objects few file at next s p g =
    let (first, rest) = stands_split (spell (length s)) (spell_all spell s) p in
    let counted = both_left (within 1 objects (length s)) (rising objects 0 s) g in
    ap (after_count objects file)
    (read_of_judged Cause.Count (within 1 objects) file at
    (record { stood = first; passes = counted; small = omega (arith, (within_bounds 1 objects (length s) counted).1) }))
    ∙ read_of_members objects few file _ 0 next [] s rest (both_right (within 1 objects (length s)) (rising objects 0 s) g)

-- ---- the three lists of a file

pub objects_of_read : (left version : ℕ) (file : List ℕ) (at : ℕ) (os : List Object) (c : Cursor) → several left (read_object version file) at [] ≡ Ok (os, c)
    → Several (spell_object version) (good_object version) file at left [] os c.at
objects_of_read left version file at os c e =
    several_of_read (read_object version file) (spell_object version) (good_object version) file (λ at o c e. object_of_read version file at e) left at [] os c e

pub read_of_objects : (version : ℕ) (file : List ℕ) (at next : ℕ) (os : List Object) → Stands file at (spell_all (spell_object version) os) next → every (good_object version) os ≡ true
    → several (length os) (read_object version file) at [] ≡ Ok (os, cursor next)
read_of_objects version file at next os s g =
    read_of_several (read_object version file) (spell_object version) (good_object version) file
    (λ at next o s g. read_of_object version file at next o s g) at next [] os s g

pub code_of_read : (left : ℕ) (scope : Scope) (file : List ℕ) (at : ℕ) (is : List Instr) (c : Cursor) → several left (read_instr scope file) at [] ≡ Ok (is, c)
    → Several (spell_instr scope.version) (good_instr scope) file at left [] is c.at
code_of_read left scope file at is c e =
    several_of_read (read_instr scope file) (spell_instr scope.version) (good_instr scope) file (λ at i c e. instr_of_read scope file at e) left at [] is c e

pub read_of_code : (scope : Scope) → Bounded scope → (file : List ℕ) (at next : ℕ) (is : List Instr) → Stands file at (spell_all (spell_instr scope.version) is) next → every (good_instr scope) is ≡ true
    → several (length is) (read_instr scope file) at [] ≡ Ok (is, cursor next)
read_of_code scope bounded file at next is s g =
    read_of_several (read_instr scope file) (spell_instr scope.version) (good_instr scope) file
    (λ at next i s g. read_of_instr scope file at bounded i next s g) at next [] is s g

pub sets_of_read : (left objects : ℕ) (file : List ℕ) (at : ℕ) (ss : List (List ℕ)) (c : Cursor) → several left (read_set objects file) at [] ≡ Ok (ss, c)
    → Several spell_set (good_set objects) file at left [] ss c.at
sets_of_read left objects file at ss c e =
    several_of_read (read_set objects file) spell_set (good_set objects) file (λ at s c e. set_of_read objects file at s c e) left at [] ss c e

pub read_of_sets : (objects : ℕ) → objects < 2 ^ 32 → (file : List ℕ) (at next : ℕ) (ss : List (List ℕ)) → Stands file at (spell_all spell_set ss) next → every (good_set objects) ss ≡ true
    → several (length ss) (read_set objects file) at [] ≡ Ok (ss, cursor next)
read_of_sets objects few file at next ss s g =
    read_of_several (read_set objects file) spell_set (good_set objects) file (λ at next s p g. read_of_set objects few file at next s p g) at next [] ss s g
