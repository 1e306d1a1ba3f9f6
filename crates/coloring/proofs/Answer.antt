-- From reading to coloring: a routine that was read is a good one, which its arrays hold; and a refusal stays.
use Prim.Native.Nat.{ℕ, ◌-◌, ◌<◌, ◌≤◌}
use native.Mathlib.Omega.{arith}
use mathlib.Core.Path.{◌≡◌, refl, sym, ◌∙◌, ap}
use mathlib.Core.List.{List}
use mathlib.Core.Bool.{Bool, true, false}
use lib.ListN.{length, take, replicate}
use lib.Seq.{take-append_seam, drop-append_seam}
use Rattle.std.specs.Prelude.{Result, Ok, Err}
use borrow.Author.Tests.{le-leb, lt-leb}
use Rattle.numbers.specs.declared.refusal.Refusal.{Refusal}
use Rattle.numbers.specs.declared.refusal.Cause.{Cause}
use Rattle.numbers.specs.Refusals.{refusal}
use Rattle.files.specs.declared.arrays.Objects.{Objects}
use Rattle.files.specs.declared.arrays.Loaded.{Loaded}
use Rattle.files.specs.Program.{Program}
use Rattle.files.specs.Reading.{Reading, whole, read_file, on_whole}
use Rattle.files.specs.Held.{blank, filled, objects_held, held, held_as}
use Rattle.files.proofs.RoundTrip.{Good, good_read, lines_bounds}
use Rattle.coloring.specs.Colored.{tinted, with_colors, color_in, class_count, colored}
use Rattle.coloring.specs.Labels.{IsRead, program_in, labels_of, classes_in, color_by, Lowest, painted}
use Rattle.coloring.proofs.Tinted.{tinted_length}
use Rattle.coloring.proofs.Arrays.{program_held, in_range}
use Rattle.coloring.proofs.Agrees.{lowest_labels, counted, colors}

-- ---- what was read

-- a good program, which is held
record Sound (l : Loaded) : Type 0 where
  p : Program
  good : Good 1 p
  held_so : l ≡ held_as p
  said : program_in l ≡ p

module _ (file : List ℕ) (l : Loaded) (e : ◌≡◌ {A = Result Loaded Refusal} (Ok l) (held (read_file 1 file))) where
  sound : Sound l × (read_file 1 file ≡ whole (program_in l))
  sound = go (read_file 1 file) refl e
    where
      go : (q : Reading) → read_file 1 file ≡ q → ◌≡◌ {A = Result Loaded Refusal} (Ok l) (held q) → Sound l × (read_file 1 file ≡ whole (program_in l))
      go (whole p) f g =
          let h : l ≡ held_as p = cc in
          let s : program_in l ≡ p = ap program_in h ∙ program_held p in
          (record { p = p; good = good_read 1 file p f; held_so = h; said = s }, f ∙ ap whole (sym s))
      go (Reading.refused q) f g = cc

  pub is_read : IsRead l
  is_read =
      let s : Sound l = sound.0 in
      rw s.held_so
      (record {
        file = file;
        reading = rw s.held_so at e;
        objects = s.good.objects_most;
        sets = in_range s.p s.good;
        code = omega (arith, (lines_bounds s.p s.good).1);
      })

  pub few_objects : l.objects.count ≤ 400
  few_objects = is_read.objects

  pub read_colored : held (colored (read_file 1 file)) ≡ held (colored (whole (program_in l)))
  read_colored = ap (λ (r : Reading). held (colored r)) sound.1

pub read_refused : (file : List ℕ) (q : Refusal) → ◌≡◌ {A = Result Loaded Refusal} (Err q) (held (read_file 1 file)) → ◌≡◌ {A = Result Loaded Refusal} (Err q) (held (colored (read_file 1 file)))
unfolding colored
read_refused file q e = go (read_file 1 file) e
  where
    go : (r : Reading) → ◌≡◌ {A = Result Loaded Refusal} (Err q) (held r) → ◌≡◌ {A = Result Loaded Refusal} (Err q) (held (colored r))
    go (whole p) g = cc
    go (Reading.refused a) g = g

-- ---- what is answered for it

module _ (p : Program) (good : Good 1 p) where
  abbrev pick : Bool → Result Loaded Refusal
  pick few = held (on_whole (λ p. whole (with_colors (color_in p) p)) (elim few [ true ↦ whole p | false ↦ Reading.refused (refusal Cause.ManyClasses 0) ]))

  many_held : 254 < classes_in (take (length p.objects) (labels_of p)) → ◌≡◌ {A = Result Loaded Refusal} (Err (refusal Cause.ManyClasses 0)) (held (colored (whole p)))
  unfolding colored
  many_held h = sym (ap pick (lt-leb (class_count p) 254 (omega (arith, counted p good))))

  -- the objects with their colors are held, and so are the blank ones behind them
  objects_painted : painted (color_by (labels_of p)) (objects_held p.objects) ≡ objects_held (tinted (color_in p) 0 p.objects)
  unfolding filled
  objects_painted =
      rw (
        take-append_seam p.objects (replicate (400 - length p.objects) blank),
        drop-append_seam p.objects (replicate (400 - length p.objects) blank),
        tinted_length (color_in p) 0 p.objects,
        colors p good,
      )

  few_held : classes_in (take (length p.objects) (labels_of p)) ≤ 254
      → ◌≡◌ {A = Result Loaded Refusal} (Ok (record (held_as p) { objects = painted (color_by (labels_of p)) (objects_held p.objects) })) (held (colored (whole p)))
  unfolding colored
  few_held h =
      ap (λ (o : Objects). Ok (record (held_as p) { objects = o })) objects_painted
      ∙ sym (ap pick (le-leb (class_count p) 254 (omega (arith, counted p good))))

-- of what is read, where its program is known
module _ (l : Loaded) (read : IsRead l) where
  s : Sound l
  s = (sound read.file l read.reading).0

  pub labels_lowest : Lowest (labels_of (program_in l))
  labels_lowest = rw s.said (lowest_labels s.p s.good)

  pub many_classes : 254 < classes_in (take l.objects.count (labels_of (program_in l)))
      → ◌≡◌ {A = Result Loaded Refusal} (Err (refusal Cause.ManyClasses 0)) (held (colored (whole (program_in l))))
  many_classes = go s.p s.good s.held_so
    where
      go : (p : Program) → Good 1 p → l ≡ held_as p → 254 < classes_in (take l.objects.count (labels_of (program_in l)))
          → ◌≡◌ {A = Result Loaded Refusal} (Err (refusal Cause.ManyClasses 0)) (held (colored (whole (program_in l))))
      go p good e = rw (e, program_held p) (many_held p good)

  pub few_classes : classes_in (take l.objects.count (labels_of (program_in l))) ≤ 254
      → ◌≡◌ {A = Result Loaded Refusal}
      (Ok (record l { objects = painted (color_by (labels_of (program_in l))) l.objects }))
      (held (colored (whole (program_in l))))
  few_classes = go s.p s.good s.held_so
    where
      go : (p : Program) → Good 1 p → l ≡ held_as p → classes_in (take l.objects.count (labels_of (program_in l))) ≤ 254
          → ◌≡◌ {A = Result Loaded Refusal} (Ok (record l { objects = painted (color_by (labels_of (program_in l))) l.objects })) (held (colored (whole (program_in l))))
      go p good e = rw (e, program_held p) (few_held p good)

-- of the file that was read
module _ (file : List ℕ) (l : Loaded) (e : ◌≡◌ {A = Result Loaded Refusal} (Ok l) (held (read_file 1 file))) where
  pub file_labels_lowest : Lowest (labels_of (program_in l))
  file_labels_lowest = labels_lowest l (is_read file l e)

  pub file_many_classes : 254 < classes_in (take l.objects.count (labels_of (program_in l)))
      → ◌≡◌ {A = Result Loaded Refusal} (Err (refusal Cause.ManyClasses 0)) (held (colored (read_file 1 file)))
  file_many_classes many = many_classes l (is_read file l e) many ∙ sym (read_colored file l e)

  pub file_few_classes : classes_in (take l.objects.count (labels_of (program_in l))) ≤ 254
      → ◌≡◌ {A = Result Loaded Refusal}
      (Ok (record l { objects = painted (color_by (labels_of (program_in l))) l.objects }))
      (held (colored (read_file 1 file)))
  file_few_classes few = few_classes l (is_read file l e) few ∙ sym (read_colored file l e)
