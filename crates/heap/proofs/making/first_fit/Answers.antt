use mathlib.Core.Path.{sym, ◌∙◌}
use Rattle.heap.specs.Search.{found_in}
use Rattle.heap.proofs.Walks.{block_of, way_done, way_stops, way_goes, fit_step}
use Rattle.heap.proofs.making.first_fit.Goals as goal

pub returns-then-not-is_sound : goal.returns-then-not-is_sound
returns-then-not-is_sound c = way_stops c.loop-at.invariant c.size_at-size.result
    c.loop-at-test.true c.size_at-size.ensures
    (sym c.is_sound.ensures ∙ c.if-not-is_sound.true)

pub loop-at-preserved : goal.loop-at-preserved
loop-at-preserved c = way_goes c.loop-at.invariant
    c.size_at-size.result c.loop-at-test.true
    c.size_at-size.ensures c.mark_at-mark.result c.mark_at-mark.ensures
    (sym c.is_sound.ensures ∙ c.if-not-is_sound.false) _
    (fit_step _ _ (block_of c.loop-at.at
    c.size_at-size.result c.mark_at-mark.result) _ c.first_of-found.ensures)

pub returns : goal.returns
unfolding found_in
returns c = way_done c.loop-at.invariant c.loop-at-test.false
