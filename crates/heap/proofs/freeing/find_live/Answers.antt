use Prim.Native.Nat.{◌<◌}
use mathlib.Core.Path.{sym, ◌∙◌}
use native.Mathlib.Omega.{arith}
use Rattle.heap.specs.Heap.{end_slot}
use Rattle.heap.specs.Search.{start_in}
use Rattle.heap.proofs.Walks.{block_of, way_done, way_stops, way_goes, live_step, spare_below}
use Rattle.heap.proofs.freeing.find_live.Goals as goal

pub returns-then-not-is_sound : goal.returns-then-not-is_sound
returns-then-not-is_sound c = way_stops c.loop-at.invariant.0 c.size_at-size.result
    c.loop-at-test.true c.size_at-size.ensures
    (sym c.is_sound.ensures ∙ c.if-not-is_sound.true)

pub loop-at-preserved : goal.loop-at-preserved
loop-at-preserved c = let w = c.loop-at in
    let size = c.size_at-size in
    let mark = c.mark_at-mark in
    let below : w.at < end_slot = c.loop-at-test.true in
    let s = sym c.is_sound.ensures ∙ c.if-not-is_sound.false in
    let spared = spare_below w.at size.result mark.result c.spare_of-spare.result c.spare_of-spare.ensures in (
      way_goes w.invariant.0 size.result below size.ensures mark.result mark.ensures s _
          (live_step _ _ _ (block_of w.at size.result mark.result) _ _ c.start_of-start.ensures c.spare_of-spare.ensures),
      omega (arith, spared, w.invariant.0.low),
    )

pub returns : goal.returns
unfolding start_in
returns c = way_done c.loop-at.invariant.0 c.loop-at-test.false
