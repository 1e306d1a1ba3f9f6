-- The two rules of demand 3, written out, and that they are alike: they start globals at the same
-- places, and ALLOC and FREE keep the tie.
use Prim.Native.Nat.{ℕ, ◌<◌}
use native.Mathlib.Omega.{arith}
use mathlib.Core.Path.{◌≡◌, refl, sym, ◌∙◌, ap, subst}
use mathlib.Core.List.{List}
use mathlib.Core.Bool.{true}
use lib.ListN.{length, get_or-map}
use Rattle.opcodes.specs.declared.Object.{Object}
use Rattle.files.specs.Program.{Program}
use Rattle.safety.specs.Unsafe.{unsafe_sets}
use Rattle.coloring.specs.Colored.{tinted}
use Rattle.coloring.proofs.Tinted.{tinted_color}
use Rattle.layout.specs.Layout.{pieces_of, start_of, fits}
use Rattle.plain.specs.Guards.{Guards}
use Rattle.heap.specs.Heap.{Made, Freed, Alloc, Free, alloc, free, paint_made, paint_freed}
use Rattle.plain.proofs.HeapAlloc.{AllocFacts, alloc_facts}
use Rattle.plain.proofs.HeapFree.{FreeFacts, free_facts}
use Rattle.machine.specs.State.{Rule}
use Rattle.machine.specs.Colors.{table_allows, color_of_object, table_rule}
use Rattle.machine.proofs.Effects.{Calm, Alike}
use Rattle.plain.specs.Live.{Live, live_making, live_freeing}
use Rattle.plain.specs.Plain.{plain_allows, plain_rule, globals}
use Rattle.plain.specs.Demands.{recording}
use Rattle.plain.proofs.Good.{Good}
use Rattle.plain.proofs.Owners.{Each}
use Rattle.plain.proofs.Painting.{Whole}
use Rattle.routines.proofs.Layouts.{pieces_same}
use Rattle.plain.proofs.Globals.{globals_whole}
use Rattle.plain.proofs.Holding.{Holds, holds_made, holds_freed}
use Rattle.routines.specs.Accepted.{plain_pieces}

abbrev pub rule₁ : Program → Rule (List Live)
rule₁ p = record { code = p.code; start = start_of (plain_pieces p); allows = plain_allows p; making = live_making; freeing = live_freeing }

-- with the live bodies that the run records
abbrev pub rule₂ : Program → Rule (List ℕ × List Live)
rule₂ q =
    record {
      code = q.code;
      start = start_of (pieces_of q.objects);
      allows = λ own v span. table_allows own.0 v span;
      making = λ own site k. (paint_made own.0 (color_of_object q.objects site) k, live_making own.1 site k);
      freeing = λ own address f. (paint_freed own.0 f, live_freeing own.1 address f);
    }

pub rule₁_is : (p : Program) → plain_rule p ≡ rule₁ p
unfolding plain_rule
rule₁_is p = refl

pub rule₂_is : (q : Program) → recording (table_rule q) ≡ rule₂ q
unfolding table_rule
rule₂_is q = refl

module _ (p q : Program) (guards : Guards p q) where
  abbrev color : ℕ → ℕ
  color = guards.color

  pub start_same : start_of (pieces_of q.objects) ≡ start_of (plain_pieces p)
  start_same = ap (λ (os : List Object). start_of (pieces_of os)) guards.objects ∙ ap start_of (pieces_same (unsafe_sets p) color guards.exact.safe guards.exact.low p.objects 0)

  site_color : (g : ℕ) → g < length p.objects → color_of_object q.objects g ≡ color g
  site_color g site =
      ap (λ (os : List Object). color_of_object os g) guards.objects
      ∙ sym (get_or-map (λ (o : Object). o.color) (tinted color 0 p.objects) g (record { kind = 0; size = 0; color = 0 }))
      ∙ tinted_color color 0 p.objects g site ∙ ap color (omega arith)

  module _ (good : Good p) (fitting : fits (plain_pieces p) ≡ true) where
    whole : Each Whole (globals p)
    whole = globals_whole p fitting

    module _ (live : List Live) (own : List ℕ × List Live) (m : List ℕ) (h : Holds p color live own m) where
      alloc_says : (size g : ℕ) → g < length p.objects → AllocFacts color m own.0 h.blocks g (alloc m size g)
      alloc_says size g site = alloc_facts color m own.0 h.blocks size g h.tied (omega (arith, good.few))

      free_says : (address : ℕ) → FreeFacts color m own.0 h.blocks address (free m address)
      free_says address = free_facts color m own.0 h.blocks address h.tied

      made_keeps : (size g : ℕ) (k : Made) → g < length p.objects → alloc m size g ≡ Alloc.made k
          → Holds p color (live_making live g k) ((rule₂ q).making own g k) k.memory
      made_keeps size g k site e =
          subst (λ c. Holds p color (live_making live g k) (paint_made own.0 c k, live_making own.1 g k) k.memory)
          (sym (site_color g site))
          (holds_made p color whole live own m h g k (subst (AllocFacts color m own.0 h.blocks g) e (alloc_says size g site)))

      freed_keeps : (address : ℕ) (f : Freed) → free m address ≡ Free.freed f
          → Holds p color (live_freeing live address f) ((rule₂ q).freeing own address f) f.memory
      freed_keeps address f e =
          holds_freed p color whole live own m h address f (subst (FreeFacts color m own.0 h.blocks address) e (free_says address))

    pub alike : Alike (Holds p color) Calm (rule₁ p) (rule₂ q) (λ g. g < length p.objects)
    alike =
        record {
          starts = λ g. ap (λ f. f g) start_same;
          calm = λ x c. c;
          made = λ live own m size g k h site e. made_keeps live own m h size g k site e;
          broken = λ live own m size g h site e. subst (AllocFacts color m own.0 h.blocks g) e (alloc_says live own m h size g site);
          freed = λ live own m address f h e. freed_keeps live own m h address f e;
          broken' = λ live own m address h e. subst (FreeFacts color m own.0 h.blocks address) e (free_says live own m h address);
        }
