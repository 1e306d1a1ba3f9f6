use mathlib.Core.Path.{sym, ◌∙◌}
use native.Mathlib.Omega.{arith}
use Rattle.numbers.specs.declared.refusal.Cause.{Cause}
use Rattle.numbers.proofs.Laws.{read_bounds}
use Rattle.opcodes.specs.Ranges.{within}
use Rattle.files.proofs.Judging.{good}
use Rattle.files.proofs.sets.read_set.Goals as goal

pub read_members-requires : goal.read_members-requires
read_members-requires c =
    let p = c.requires in
    let g = good Cause.Count (within 1 c.args.objects) _ _ (sym c.ranged.ensures ∙ c.in_ok-count.was) in
    let b = read_bounds _ _ g.read in
    (record { short = p.short; most = p.most; behind = omega (arith, b.0, p.behind); inside = p.inside; few = p.few }, b.2)
