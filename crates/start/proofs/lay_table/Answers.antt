-- One object less is left to paint; at the end there is none, or no start for one.
use mathlib.Core.Path.{sym, ap, ap₂, ◌∙◌}
use lib.ListN.{take}
use Rattle.std.proofs.lemmas.Slice.Zip.{Zip-more, either_empty_from_Zip}
use Rattle.memory.specs.Lent.{painted}
use Rattle.heap.specs.Heap.{heap_start, end_slot}
use Rattle.start.specs.Held.{paint_held, laid_table}
use Rattle.start.proofs.Starting.{paint_first, paint_none}
use Rattle.start.proofs.lay_table.Goals as goal

pub loop-start-preserved : goal.loop-start-preserved
loop-start-preserved c =
    let more = Zip-more c.loop-start.start-iterator c.next.new.self _ _ c.in-Some.is c.next.ensures.steps in
    ap (paint_held _ _) c.paint_one.ensures ∙ sym (paint_first c.loop-start.table more.0 more.1) ∙ c.loop-start.invariant

pub returns : goal.returns
unfolding laid_table
returns c =
    let none = paint_none _ _ c.loop-start.table (either_empty_from_Zip c.loop-start.start-iterator c.next.new.self _ c.in-None.is c.next.ensures.steps) in
    c.paint-2.ensures
    ∙ ap (λ t. painted t end_slot 8 1)
    (c.paint.ensures
    ∙ ap (λ t. painted t heap_start 8 1)
    (sym none ∙ c.loop-start.invariant
    ∙ ap₂ (λ n t. paint_held c.args.starts.now (take n c.args.objects.now.list) t) c.min-count.ensures c.fill.ensures))
