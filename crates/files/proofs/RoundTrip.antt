-- What is written is read back as exactly that program, and what is read is byte for byte what is
-- written for it: one spelling for each program, in both versions by one law over the version.
--
-- The file is cut into its six pieces (version, count and objects, sets, count and instructions). Each
-- piece has its two laws in SpelledNumbers, SpelledObjects, SpelledInstructions and SpelledLists; here they are put side by side, in
-- the order of `read_file`'s stages.
use Prim.Native.Nat.{ℕ, ◌^◌, ◌<◌, ◌≤◌}
use mathlib.Core.Path.{◌≡◌, refl, sym, ap, ◌∙◌, subst, subst₂}
use mathlib.Core.List.{List, [], ◌∷◌, ◌++◌, append-nil}
use mathlib.Core.Bool.{Bool, true, false}
use native.Mathlib.Omega.{arith}
use lib.ListN.{length, get_or, length-map}
use lib.Seq.{drop-length}
use lib.Dec.{eqb, leb}
use borrow.Author.Tests.{eqb-true, leb-true, le-leb, eq-eqb}
use Rattle.std.specs.Prelude.{Ok, Err}
use Rattle.numbers.specs.Refusals.{refusal}
use Rattle.numbers.specs.declared.refusal.Cause.{Cause}
use Rattle.numbers.specs.Number.{Read}
use Rattle.numbers.specs.Number.{spell}
use Rattle.opcodes.specs.declared.Object.{Object}
use Rattle.opcodes.specs.declared.Instr.{Instr}
use Rattle.opcodes.specs.Ranges.{Scope, has_sets, within}
use Rattle.files.specs.Program.{Program, most_code, longest}
use Rattle.opcodes.specs.Ranges.{kinds_of}
use Rattle.files.specs.Reading.{Reading, whole, judged, read_file}
use Rattle.files.specs.Writing.{spell_file, spell_all, spell_object, spell_set, spell_sets, spell_instr, every, good_object, rising, good_set, good_sets, good_instr, good_program, scope_of, both, Says}
use Rattle.files.proofs.Following.{read_by_parts}
use Rattle.files.proofs.SpelledNumbers.{Stands, stands_nil, stands_append, stands_split, Judged, judged_of_read, read_of_judged}
use Rattle.opcodes.proofs.Bounds.{within_bounds, within_true}
use Rattle.files.proofs.Tests.{both_true, both_left, both_right, every_at}
use Rattle.files.proofs.SpelledInstructions.{Bounded}
use Rattle.files.proofs.SpelledLists.{objects_of_read, read_of_objects, sets_of_read, read_of_sets, code_of_read, read_of_code}
use Rattle.files.specs.Parsing.{Answer, then, several, cursor, read_object, read_set, read_instr, ends_there, behind}

-- ---- what is left to read, stage by stage

module _ (version : ℕ) (file : List ℕ) where
  abbrev after_code : List Object → List (List ℕ) → Answer (List Instr) → Reading
  after_code os ss r = behind r λ code next. ends_there file (record { objects = os; sets = ss; code = code }) next

  abbrev after_code_count : List Object → List (List ℕ) → Read → Reading
  after_code_count os ss r =
      after_code os ss
      (then r λ n next. several n (read_instr (record { version = version; kinds = kinds_of os; sets = length ss; code = n }) file) next.at [])

  abbrev after_sets : List Object → Answer (List (List ℕ)) → Reading
  after_sets os r = behind r λ ss past. after_code_count os ss (judged Cause.Count (within 1 (most_code version)) file past.at)

  abbrev after_set_count : List Object → Read → Reading
  after_set_count os r = after_sets os (then r λ n next. several n (read_set (length os) file) next.at [])

  abbrev listing_of : Bool → List Object → (at : ℕ) → Answer (List (List ℕ))
  listing_of listed os at =
      elim listed [
        | true ↦ then (judged Cause.Count (within 0 400) file at) λ n next. several n (read_set (length os) file) next.at []
        | false ↦ Ok ([], cursor at)
      ]

  abbrev after_objects : Answer (List Object) → Reading
  after_objects r = behind r λ os past. after_sets os (listing_of (has_sets version) os past.at)

  abbrev after_object_count : Read → Reading
  after_object_count r = after_objects (then r λ n next. several n (read_object version file) next.at [])

  abbrev after_version : Read → Reading
  after_version r =
      after_objects (then r λ this past. then (judged Cause.Count (within 0 400) file past.at) λ n next. several n (read_object version file) next.at [])

-- ---- what a good program says, piece by piece

pub record Good (version : ℕ) (p : Program) : Type 0 where
  pub objects_most : length p.objects ≤ 400
  pub objects : every (good_object version) p.objects ≡ true
  pub sets : good_sets (has_sets version) (length p.objects) p.sets ≡ true
  pub code_most : within 1 (most_code version) (length p.code) ≡ true
  pub code : every (good_instr (scope_of version p)) p.code ≡ true
  pub short : length (spell_file version p) ≤ longest version

module _ (version : ℕ) (p : Program) where
  abbrev os : Bool
  os = every (good_object version) p.objects

  abbrev ss : Bool
  ss = good_sets (has_sets version) (length p.objects) p.sets

  abbrev cs : Bool
  cs = within 1 (most_code version) (length p.code)

  abbrev is : Bool
  is = every (good_instr (scope_of version p)) p.code

  abbrev ls : Bool
  ls = leb (length (spell_file version p)) (longest version)

  abbrev fs : Bool
  fs = leb (length p.objects) 400

  pub good_of : good_program version p ≡ true → Good version p
  unfolding good_program
  good_of g =
      let g₁ : both os (both ss (both cs (both is ls))) ≡ true = both_right fs (both os (both ss (both cs (both is ls)))) g in
      let g₂ : both ss (both cs (both is ls)) ≡ true = both_right os (both ss (both cs (both is ls))) g₁ in
      let g₃ : both cs (both is ls) ≡ true = both_right ss (both cs (both is ls)) g₂ in
      let g₄ : both is ls ≡ true = both_right cs (both is ls) g₃ in
      record {
        objects_most = leb-true (length p.objects) 400 (both_left fs (both os (both ss (both cs (both is ls)))) g);
        objects = both_left os (both ss (both cs (both is ls))) g₁;
        sets = both_left ss (both cs (both is ls)) g₂;
        code_most = both_left cs (both is ls) g₃;
        code = both_left is ls g₄;
        short = leb-true (length (spell_file version p)) (longest version) (both_right is ls g₄);
      }

  pub good_from : Good version p → good_program version p ≡ true
  unfolding good_program
  good_from g =
      both_true fs _ (le-leb (length p.objects) 400 g.objects_most)
      (both_true os _ g.objects
      (both_true ss _ g.sets
      (both_true cs _ g.code_most
      (both_true is ls g.code (le-leb (length (spell_file version p)) (longest version) g.short)))))

-- the code and the sets of a good program of version 1
module _ (p : Program) (good : Good 1 p) where
  pub lines_bounds : (1 ≤ length p.code) × (length p.code ≤ 1000)
  lines_bounds = within_bounds 1 1000 (length p.code) good.code_most

  pub set_good : (s : ℕ) → s < length p.sets → good_set (length p.objects) (get_or p.sets s []) ≡ true
  set_good s l =
      every_at (good_set (length p.objects)) p.sets [] s
      (both_right (leb (length p.sets) 400) (every (good_set (length p.objects)) p.sets) good.sets) l

  pub set_some : (s : ℕ) → s < length p.sets → 1 ≤ length (get_or p.sets s [])
  set_some s l =
      let set : List ℕ = get_or p.sets s [] in
      (within_bounds 1 (length p.objects) (length set)
      (both_left (within 1 (length p.objects) (length set)) (rising (length p.objects) 0 set) (set_good s l))).0

-- ---- what is read is what is spelled

-- the pieces of a file that was read, each where it stands
record Pieces (version : ℕ) (file : List ℕ) (p : Program) : Type 0 where
  a : ℕ
  b : ℕ
  c : ℕ
  d : ℕ
  e : ℕ
  versioned : Stands file 0 (spell version) a
  counted : Stands file a (spell (length p.objects)) b
  objects : Stands file b (spell_all (spell_object version) p.objects) c
  sets : Stands file c (spell_sets (has_sets version) p.sets) d
  lines : Stands file d (spell (length p.code)) e
  code : Stands file e (spell_all (spell_instr version) p.code) (length file)

spelled : (version : ℕ) (file : List ℕ) (p : Program) → Pieces version file p → spell_file version p ≡ file
unfolding spell_file
spelled version file p s =
    let all = stands_append _ _ s.versioned (stands_append _ _ s.counted (stands_append _ _ s.objects (stands_append _ _ s.sets (stands_append _ _ s.lines s.code)))) in
    sym (append-nil (spell_file version p)) ∙ ap (λ (l : List ℕ). spell_file version p ++ l) (sym (drop-length file)) ∙ sym all.stands

module _ (version : ℕ) (file : List ℕ) (p : Program) (fits : length file ≤ longest version) where
  Right : Type 0
  Right = Says version file p

  abbrev scope_for : List Object → List (List ℕ) → ℕ → Scope
  scope_for objects sets n = record { version = version; kinds = kinds_of objects; sets = length sets; code = n }

  -- the stages from the last to the first, each with what stands before it
  record Before (objects : List Object) (sets : List (List ℕ)) (d : ℕ) : Type 0 where
    a : ℕ
    b : ℕ
    c : ℕ
    versioned : Stands file 0 (spell version) a
    counted : Stands file a (spell (length objects)) b
    stood : Stands file b (spell_all (spell_object version) objects) c
    listed : Stands file c (spell_sets (has_sets version) sets) d
    few : length objects ≤ 400
    fine : every (good_object version) objects ≡ true
    fine_sets : good_sets (has_sets version) (length objects) sets ≡ true

  ended : (objects : List Object) (sets : List (List ℕ)) (d e n : ℕ) → Before objects sets d
      → Judged file d (within 1 (most_code version)) n e
      → (r : Answer (List Instr)) → several n (read_instr (scope_for objects sets n) file) e [] ≡ r
      → after_code version file objects sets r ≡ whole p → Right
  unfolding Right
  ended objects sets d e n before j (Ok (code, next)) r w = go (eqb next.at (length file)) refl w
    where
      go : (t : Bool) → eqb next.at (length file) ≡ t
          → elim t as (λ _. Reading) [ true ↦ whole (record { objects = objects; sets = sets; code = code }) | false ↦ Reading.refused (refusal Cause.Surplus next.at) ] ≡ whole p
          → Says version file p
      go true q w =
          let made : record { objects = objects; sets = sets; code = code } ≡ p = cc in
          let last : next.at ≡ length file = eqb-true next.at (length file) q in
          let s = code_of_read n (scope_for objects sets n) file e code next r in
          let long : length code ≡ n = ap length s.whole ∙ s.number in
          let pieces : Pieces version file (record { objects = objects; sets = sets; code = code }) =
          record {
            a = before.a;
            b = before.b;
            c = before.c;
            d = d;
            e = e;
            versioned = before.versioned;
            counted = before.counted;
            objects = before.stood;
            sets = before.listed;
            lines = rw long j.stood;
            code = subst₂ (λ (l : List Instr) (m : ℕ). Stands file e (spell_all (spell_instr version) l) m) (sym s.whole) last s.stood;
          } in
          let bytes : spell_file version (record { objects = objects; sets = sets; code = code }) ≡ file = spelled version file _ pieces in
          subst (λ (x : Program). Says version file x) made
          (record {
            good =
                good_from version (record { objects = objects; sets = sets; code = code })
                (record {
                  objects_most = before.few;
                  objects = before.fine;
                  sets = before.fine_sets;
                  code_most = rw long j.passes;
                  code = subst₂ (λ (l : List Instr) (m : ℕ). every (good_instr (scope_for objects sets m)) l ≡ true) (sym s.whole) (sym long) s.passes;
                  short = rw bytes fits;
                });
            bytes = bytes;
          })
      go false q w = let z : ◌≡◌ {A = ℕ} 0 1 = cc in absurd (omega arith)
  ended objects sets d e n before j (Err q) r w = let z : ◌≡◌ {A = ℕ} 0 1 = cc in absurd (omega arith)

  coded : (objects : List Object) (sets : List (List ℕ)) (d : ℕ) → Before objects sets d
      → (r : Read) → judged Cause.Count (within 1 (most_code version)) file d ≡ r → after_code_count version file objects sets r ≡ whole p → Right
  coded objects sets d before (Ok (n, c)) r w =
      ended objects sets d c.at n before (judged_of_read Cause.Count _ file d r) (several n (read_instr (scope_for objects sets n) file) c.at []) refl w
  coded objects sets d before (Err q) r w = let z : ◌≡◌ {A = ℕ} 0 1 = cc in absurd (omega arith)

  record Early (objects : List Object) (c : ℕ) : Type 0 where
    a : ℕ
    b : ℕ
    versioned : Stands file 0 (spell version) a
    counted : Stands file a (spell (length objects)) b
    stood : Stands file b (spell_all (spell_object version) objects) c
    few : length objects ≤ 400
    fine : every (good_object version) objects ≡ true

  with_sets : (objects : List Object) (c : ℕ) → has_sets version ≡ true → Early objects c
      → (r : Read) → judged Cause.Count (within 0 400) file c ≡ r → after_set_count version file objects r ≡ whole p → Right
  with_sets objects c has early (Ok (n, k)) r w = go (several n (read_set (length objects) file) k.at []) refl w
    where
      go : (s : Answer (List (List ℕ))) → several n (read_set (length objects) file) k.at [] ≡ s → after_sets version file objects s ≡ whole p → Right
      go (Ok (sets, next)) s w =
          let j = judged_of_read Cause.Count (within 0 400) file c r in
          let m = sets_of_read n (length objects) file k.at sets next s in
          let long : length sets ≡ n = ap length m.whole ∙ m.number in
          let listed : Stands file c (spell (length sets) ++ spell_all spell_set sets) next.at =
          stands_append {mid = k.at} (spell (length sets)) (spell_all spell_set sets) (rw long j.stood) (subst (λ (l : List (List ℕ)). Stands file k.at (spell_all spell_set l) next.at) (sym m.whole) m.stood) in
          let fine_sets : both (leb (length sets) 400) (every (good_set (length objects)) sets) ≡ true =
          both_true _ _ (le-leb (length sets) 400 (omega (arith, (within_bounds 0 400 n j.passes).1)))
          (subst (λ (l : List (List ℕ)). every (good_set (length objects)) l ≡ true) (sym m.whole) m.passes) in
          coded objects sets next.at
          (record {
            a = early.a;
            b = early.b;
            c = c;
            versioned = early.versioned;
            counted = early.counted;
            stood = early.stood;
            listed = subst (λ (t : Bool). Stands file c (spell_sets t sets) next.at) (sym has) listed;
            few = early.few;
            fine = early.fine;
            fine_sets = subst (λ (t : Bool). good_sets t (length objects) sets ≡ true) (sym has) fine_sets;
          }) (judged Cause.Count (within 1 (most_code version)) file next.at) refl w
      go (Err q) s w = let z : ◌≡◌ {A = ℕ} 0 1 = cc in absurd (omega arith)
  with_sets objects c has early (Err q) r w = let z : ◌≡◌ {A = ℕ} 0 1 = cc in absurd (omega arith)

  no_sets_lem : (objects : List Object) (c : ℕ) → has_sets version ≡ false → Early objects c
      → after_sets version file objects (Ok ([], cursor c)) ≡ whole p → Right
  no_sets_lem objects c has early w =
      coded objects [] c
      (record {
        a = early.a;
        b = early.b;
        c = c;
        versioned = early.versioned;
        counted = early.counted;
        stood = early.stood;
        listed = subst (λ (t : Bool). Stands file c (spell_sets t []) c) (sym has) (stands_nil file c);
        few = early.few;
        fine = early.fine;
        fine_sets = subst (λ (t : Bool). good_sets t (length objects) [] ≡ true) (sym has) refl;
      }) (judged Cause.Count (within 1 (most_code version)) file c) refl w

  listed : (objects : List Object) (c : ℕ) → Early objects c → (t : Bool) → has_sets version ≡ t
      → after_sets version file objects (listing_of version file t objects c) ≡ whole p → Right
  listed objects c early true has w = with_sets objects c has early (judged Cause.Count (within 0 400) file c) refl w
  listed objects c early false has w = no_sets_lem objects c has early w

  told : (a b n : ℕ) → Stands file 0 (spell version) a → Judged file a (within 0 400) n b
      → (r : Answer (List Object)) → several n (read_object version file) b [] ≡ r → after_objects version file r ≡ whole p → Right
  told a b n v j (Ok (objects, past)) r w =
      let c : ℕ = past.at in
      let s = objects_of_read n version file b objects past r in
      let long : length objects ≡ n = ap length s.whole ∙ s.number in
      listed objects c
      (record {
        a = a;
        b = b;
        versioned = v;
        counted = rw long j.stood;
        stood = subst (λ (l : List Object). Stands file b (spell_all (spell_object version) l) c) (sym s.whole) s.stood;
        few = omega (arith, (within_bounds 0 400 n j.passes).1);
        fine = subst (λ (l : List Object). every (good_object version) l ≡ true) (sym s.whole) s.passes;
      }) (has_sets version) refl w
  told a b n v j (Err q) r w = let z : ◌≡◌ {A = ℕ} 0 1 = cc in absurd (omega arith)

  counted : (a : ℕ) → Stands file 0 (spell version) a → (r : Read) → judged Cause.Count (within 0 400) file a ≡ r → after_object_count version file r ≡ whole p → Right
  counted a v (Ok (n, k)) r w = told a k.at n v (judged_of_read Cause.Count (within 0 400) file a r) (several n (read_object version file) k.at []) refl w
  counted a v (Err q) r w = let z : ◌≡◌ {A = ℕ} 0 1 = cc in absurd (omega arith)

  versioned : (r : Read) → judged Cause.Version (within version version) file 0 ≡ r → after_version version file r ≡ whole p → Right
  versioned (Ok (n, k)) r w =
      let j = judged_of_read Cause.Version (within version version) file 0 r in
      let (low, high) = within_bounds version version n j.passes in
      let same : n ≡ version = omega arith in
      counted k.at (rw same at j.stood) (judged Cause.Count (within 0 400) file k.at) refl w
  versioned (Err q) r w = let z : ◌≡◌ {A = ℕ} 0 1 = cc in absurd (omega arith)

-- what is read is a good program, and the file is byte for byte its spelling
pub one_spelling : (version : ℕ) (file : List ℕ) (p : Program) → read_file version file ≡ whole p → Says version file p
unfolding read_file Right
one_spelling version file p e = go (leb (length file) (longest version)) refl
  where
    go : (t : Bool) → leb (length file) (longest version) ≡ t → Says version file p
    go true q =
        let fits : length file ≤ longest version = leb-true (length file) (longest version) q in
        versioned version file p fits (judged Cause.Version (within version version) file 0) refl (sym (read_by_parts file version fits) ∙ e)
    go false q =
        let long : read_file version file ≡ Reading.refused (refusal Cause.TooLong 0) = rw (q, read_file) in
        let z : ◌≡◌ {A = ℕ} 0 1 = cc in
        absurd (omega arith)

-- ---- what is spelled is read

scope_bounded : (version : ℕ) (p : Program) → Good version p → Bounded (scope_of version p)
scope_bounded version p g =
    record {
      kinds = rw (length-map p.objects (λ o. o.kind)) (omega (arith, g.objects_most));
      sets = few_sets (has_sets version) g.sets;
      code = omega (arith, (within_bounds 1 (most_code version) (length p.code) g.code_most).1, code_few (eqb version 1));
    }
  where
    few_sets : (t : Bool) → good_sets t (length p.objects) p.sets ≡ true → length p.sets < 2 ^ 32
    few_sets true e = omega (arith, leb-true (length p.sets) 400 (both_left (leb (length p.sets) 400) (every (good_set (length p.objects)) p.sets) e))
    few_sets false e = omega (arith, eqb-true (length p.sets) 0 e)

    code_few : (t : Bool) → elim t as (λ _. ℕ) [ true ↦ 1000 | false ↦ 2000 ] ≤ 2000
    code_few true = omega arith
    code_few false = omega arith

module _ (version : ℕ) (small : version < 2 ^ 32) (file : List ℕ) (p : Program) (g : Good version p) (s : Pieces version file p) where
  read_end : after_code version file p.objects p.sets (Ok (p.code, cursor (length file))) ≡ whole p
  read_end = simp (eq-eqb (length file) (length file) refl, ends_there)

  read_code : after_sets version file p.objects (Ok (p.sets, cursor s.d)) ≡ whole p
  read_code =
      ap (after_code_count version file p.objects p.sets)
      (read_of_judged Cause.Count (within 1 (most_code version)) file s.d
      (record { stood = s.lines; passes = g.code_most; small = (scope_bounded version p g).code }))
      ∙ ap (after_code version file p.objects p.sets)
      (read_of_code (scope_of version p) (scope_bounded version p g) file s.e (length file) p.code s.code g.code)
      ∙ read_end

  read_sets : (t : Bool) → Stands file s.c (spell_sets t p.sets) s.d → good_sets t (length p.objects) p.sets ≡ true
      → ◌≡◌ {A = Reading}
      (after_sets version file p.objects (listing_of version file t p.objects s.c))
      (whole p)
  read_sets true stood good =
      let few : length p.sets ≤ 400 = leb-true (length p.sets) 400 (both_left (leb (length p.sets) 400) (every (good_set (length p.objects)) p.sets) good) in
      let (first, rest) = stands_split (spell (length p.sets)) (spell_all spell_set p.sets) stood in
      ap (after_set_count version file p.objects)
      (read_of_judged Cause.Count (within 0 400) file s.c
      (record { stood = first; passes = within_true 0 400 (length p.sets) (omega arith) few; small = omega arith }))
      ∙ ap (after_sets version file p.objects)
      (read_of_sets (length p.objects) (omega (arith, g.objects_most)) file _ s.d p.sets rest
      (both_right (leb (length p.sets) 400) (every (good_set (length p.objects)) p.sets) good))
      ∙ read_code
  read_sets false stood good =
      let none : p.sets ≡ [] = no_sets_of p.sets (eqb-true (length p.sets) 0 good) in
      let here : s.c ≡ s.d = sym (omega (arith, stood.ends)) in
      ap (λ (l : List (List ℕ)). after_sets version file p.objects (Ok (l, cursor s.c))) (sym none)
      ∙ ap (λ (n : ℕ). after_sets version file p.objects (Ok (p.sets, cursor n))) here ∙ read_code
    where
      no_sets_of : (l : List (List ℕ)) → length l ≡ 0 → l ≡ []
      no_sets_of [] e = refl
      no_sets_of (x ∷ xs) e = absurd (omega arith)

  read_of_pieces : after_version version file (judged Cause.Version (within version version) file 0) ≡ whole p
  read_of_pieces =
      ap (after_version version file)
      (read_of_judged Cause.Version (within version version) file 0
      (record { stood = s.versioned; passes = within_true version version version (omega arith) (omega arith); small = small }))
      ∙ ap (after_object_count version file)
      (read_of_judged Cause.Count (within 0 400) file s.a
      (record { stood = s.counted; passes = within_true 0 400 (length p.objects) (omega arith) g.objects_most; small = omega (arith, g.objects_most) }))
      ∙ ap (after_objects version file) (read_of_objects version file s.b s.c p.objects s.objects g.objects)
      ∙ read_sets (has_sets version) s.sets g.sets

-- the pieces of a spelled program
pieces_of : (version : ℕ) (p : Program) → Pieces version (spell_file version p) p
unfolding spell_file
pieces_of version p =
    let v = spell version in
    let n = spell (length p.objects) in
    let o = spell_all (spell_object version) p.objects in
    let t = spell_sets (has_sets version) p.sets in
    let l = spell (length p.code) in
    let i = spell_all (spell_instr version) p.code in
    let file = v ++ (n ++ (o ++ (t ++ (l ++ i)))) in
    let all : Stands file 0 (v ++ (n ++ (o ++ (t ++ (l ++ i))))) (length file) =
    record { stands = sym (ap (λ (x : List ℕ). file ++ x) (drop-length file) ∙ append-nil file); ends = omega arith } in
    let (s₁, r₁) = stands_split v (n ++ (o ++ (t ++ (l ++ i)))) all in
    let (s₂, r₂) = stands_split n (o ++ (t ++ (l ++ i))) r₁ in
    let (s₃, r₃) = stands_split o (t ++ (l ++ i)) r₂ in
    let (s₄, r₄) = stands_split t (l ++ i) r₃ in
    let (s₅, s₆) = stands_split l i r₄ in
    record { versioned = s₁; counted = s₂; objects = s₃; sets = s₄; lines = s₅; code = s₆; a = _; b = _; c = _; d = _; e = _ }

-- what is written for a good program is read back as exactly that program
pub reads_back : (version : ℕ) → version < 2 ^ 32 → (p : Program) → good_program version p ≡ true → read_file version (spell_file version p) ≡ whole p
reads_back version small p e =
    let g : Good version p = good_of version p e in
    read_by_parts (spell_file version p) version g.short
    ∙ read_of_pieces version small (spell_file version p) p g (pieces_of version p)

-- ---- for those who hold what was read

pub good_read : (version : ℕ) (file : List ℕ) (p : Program) → read_file version file ≡ whole p → Good version p
good_read version file p e = good_of version p (one_spelling version file p e).good
