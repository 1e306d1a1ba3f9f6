-- What the instrumenter writes reads back as exactly version 2 of the routine that it was given: what is
-- written is the spelling of a program that a file can say, and such a spelling reads back.
use Prim.Native.Nat.{ℕ, ◌≤◌}
use native.Mathlib.Omega.{arith}
use mathlib.Core.Path.{◌≡◌, refl, subst, ◌∙◌}
use mathlib.Core.List.{List}
use mathlib.Core.Bool.{true}
use lib.ListN.{length}
use Rattle.files.specs.Program.{Program}
use Rattle.files.specs.Reading.{whole, read_file}
use Rattle.coloring.specs.Colored.{color_in}
use Rattle.layout.specs.Layout.{pieces_of, fits}
use Rattle.routines.specs.Accepted.{Accepted}
use Rattle.routines.proofs.Layouts.{own_fit}
use Rattle.instrumenter.specs.Instrumented.{instrumented}
use Rattle.instrumenter.specs.Answer.{FileAnswer, file, new_file, instrument}
use Rattle.files.proofs.RoundTrip.{one_spelling, reads_back}
use Rattle.instrumenter.proofs.Instrumenting.{instrumented_good}
use Rattle.instrumenter.proofs.Answers.{Because, unread, crowded, overfull, cramped, written, answered_because}

-- version 2 of an accepted routine reads back, and its globals fit: never 9 again
module _ (p : Program) (accepted : Accepted p) where
  pub new_file_reads : read_file 2 (new_file p) ≡ whole (instrumented (color_in p) p)
  new_file_reads = reads_back 2 (omega arith) (instrumented (color_in p) p) (instrumented_good p accepted.good accepted.classes)

  pub fits_again : fits (pieces_of (instrumented (color_in p) p).objects) ≡ true
  unfolding instrumented
  fits_again = own_fit p ∙ accepted.fitting

-- what stands behind a file that was written
pub record Wrote (bytes : List ℕ) (room : ℕ) (out : List ℕ) : Type 0 where
  pub routine : Program
  pub read : read_file 1 bytes ≡ whole routine
  pub accepted : Accepted routine
  pub spelled : new_file routine ≡ out
  pub short : length out ≤ room

pub wrote : (bytes : List ℕ) (room : ℕ) (out : List ℕ) → instrument bytes room ≡ file out → Wrote bytes room out
wrote bytes room out e = go (file out) (rw e at (answered_because bytes room)) refl
  where
    go : (a : FileAnswer) → Because bytes room a → a ≡ file out → Wrote bytes room out
    go a (unread r) s = cc
    go a (crowded r c) s = cc
    go a (overfull r c f) s = cc
    go a (cramped r c f l) s = cc
    go a (written {p} r c f l) s =
        let same : new_file p ≡ out = cc in
        record {
          routine = p;
          read = r;
          accepted = record { good = (one_spelling 1 bytes p r).good; classes = c; fitting = f };
          spelled = same;
          short = subst (λ (x : List ℕ). length x ≤ room) same l;
        }
