-- The labels that are computed give 01's coloring of the routine.
--
-- The computation goes: no labels; the objects of unsafe PUTs get theirs; then each used set's objects
-- are united. Each step is sound for the complete list of the unsafe instructions' sets, and whatever a
-- step put together stays together. So in the end labels and chains agree (`labels_chains`), and
-- `Labelled` turns labels into colors.
use Prim.Native.Nat.{ℕ, ◌+◌, ◌<◌}
use native.Mathlib.Omega.{arith}
use mathlib.Core.Path.{◌≡◌}
use mathlib.Core.Logic.{⊎_elim}
use mathlib.Core.List.{List, []}
use mathlib.Core.Bool.{Bool, true, false}
use lib.ListN.{length, get_or, take, replicate, length-replicate, get_or-replicate}
use Rattle.files.specs.Program.{Program}
use Rattle.files.proofs.RoundTrip.{Good}
use Rattle.safety.specs.declared.Nature.TheVariants.{Listed}
use Rattle.coloring.specs.Class.{holds, Neighbours, Chain, last, link}
use Rattle.safety.specs.Unsafe.{unsafe_sets}
use Rattle.coloring.specs.Colored.{tinted, color_in, class_count}
use Rattle.coloring.specs.Labels.{Lowest, classes_in, color_by, sets_joined, owns_marked, uses_marked, labels_of}
use Rattle.files.proofs.Tests.{no_test}
use Rattle.coloring.proofs.Members.{holds_here, holds_nil, holds_cases}
use Rattle.coloring.proofs.Tinted.{tinted_alike}
use Rattle.coloring.proofs.Joining.{Sound, Together, together_trans}
use Rattle.coloring.proofs.Spans.{AllJoined, sets_joined_lem}
use Rattle.coloring.proofs.Marking.{Named, sizes, place_in, in_chain, own_in, listed_in, From, own, listed, set_from, OwnsMarked, owns_marked_lem, uses_only, uses_named}
use Rattle.coloring.proofs.Labelled.{classes_are, colors_are}
use Rattle.coloring.proofs.Bounds.{sets_most, own_below, listed_below, member_below, unsafe_below}

unlabelled : (sets : List (List ℕ)) → Sound sets (replicate 400 400)
unlabelled sets =
    record {
      wide = length-replicate {A = ℕ} 400 400;
      lowest =
          record {
            low = λ x h b. absurd (omega (arith, get_or-replicate {A = ℕ} 400 x 400 0 h, b));
            self = λ x h b. absurd (omega (arith, get_or-replicate {A = ℕ} 400 x 400 0 h, b));
          };
      chained = λ x y h k b. absurd (omega (arith, get_or-replicate {A = ℕ} 400 x 400 0 h, b));
    }

unused : (s : ℕ) → s < 400 → get_or (replicate 400 false) s false ≡ false
unused s h = get_or-replicate 400 s false false h

module _ (p : Program) (good : Good 1 p) where
  abbrev full : List (List ℕ)
  full = unsafe_sets p

  abbrev marks : List ℕ
  marks = owns_marked (sizes p) (replicate 400 400) p.code

  abbrev used : List Bool
  used = uses_marked (sizes p) (replicate 400 false) p.code

  abbrev labels : List ℕ
  labels = sets_joined used 0 marks p.sets

  object_most : (x : ℕ) → x < length p.objects → x < 400
  object_most x h = omega (arith, h, good.objects_most)

  marked : OwnsMarked full (sizes p) p.code (replicate 400 400) marks
  marked =
      owns_marked_lem full (sizes p) p.code (replicate 400 400) (unlabelled full)
      (λ g h. (object_most g (own_below p good g h), in_chain (own_in p h) g g (holds_here g []) (holds_here g [])))

  -- a set that is used is named by an instruction
  used_named : (s : ℕ) → s < length p.sets → get_or used s false ≡ true → Named (sizes p) (Listed s) p.code
  used_named s h u =
      ⊎_elim
      (λ k. no_test k (unused s (omega (arith, sets_most p good, h))))
      (λ n. n)
      (uses_only (sizes p) p.code (replicate 400 false) s u)

  all_joined : AllJoined full used 0 p.sets marks labels
  all_joined =
      sets_joined_lem full used p.sets 0 marks marked.step.sound
      (λ k h u.
      let z : 0 + k ≡ k = omega arith in
      let n : Named (sizes p) (Listed k) p.code = used_named k h (rw z at u) in
      (λ x q. object_most x (member_below p good k x h q), λ x y q r. in_chain (listed_in p n) x y q r))

  -- one set's objects are together
  from_together : (t : List ℕ) → From p p.code t → (x y : ℕ) → holds t x ≡ true → holds t y ≡ true → Together labels x y
  from_together t (own {g} n) x y hx hy =
      let ex : x ≡ g = ⊎_elim (λ e. e) (λ q. holds_nil x q) (holds_cases x g [] hx) in
      let ey : y ≡ g = ⊎_elim (λ e. e) (λ q. holds_nil y q) (holds_cases y g [] hy) in
      let b : g < 400 = object_most g (own_below p good g n) in
      let both : Together labels g g = all_joined.step.kept g g b b (marked.inside g n) in
      rw (ex, ey) both
  from_together t (listed {s} n) x y hx hy =
      let h : s < length p.sets = listed_below p good s n in
      let b : s < 400 = omega (arith, sets_most p good, h) in
      let u : get_or used s false ≡ true = uses_named (sizes p) p.code (replicate 400 false) s (length-replicate 400 false) b n in
      let z : 0 + s ≡ s = omega arith in
      all_joined.inside s h (rw z u) x y hx hy

  neighbours_together : (x y : ℕ) → Neighbours full x y → Together labels x y
  neighbours_together x y n =
      from_together (get_or full n.at []) (set_from p p.code (place_in full n.at n.inside)) x y n.left n.right

  -- what a chain joins has one label
  labels_chains : (x y : ℕ) → Chain full x y → Together labels x y
  labels_chains x y (last n) = neighbours_together x y n
  labels_chains x z (link {y} n c) = together_trans labels x y z (neighbours_together x y n) (labels_chains y z c)

  sound : Sound full labels
  sound = all_joined.step.sound

  -- ---- and so 01's colors

  pub lowest_labels : Lowest (labels_of p)
  unfolding labels_of
  lowest_labels = sound.lowest

  pub counted : classes_in (take (length p.objects) (labels_of p)) ≡ class_count p
  unfolding labels_of
  counted = classes_are full labels sound labels_chains (λ x u. object_most x (unsafe_below p good x u)) (length p.objects) good.objects_most

  pub colors : tinted (color_by (labels_of p)) 0 p.objects ≡ tinted (color_in p) 0 p.objects
  unfolding labels_of
  colors =
      tinted_alike (color_by labels) (color_in p) 0 p.objects
      (λ i h. let z : 0 + i ≡ i = omega arith in rw z (colors_are full labels sound labels_chains (λ x u. object_most x (unsafe_below p good x u)) i (object_most i h)))
