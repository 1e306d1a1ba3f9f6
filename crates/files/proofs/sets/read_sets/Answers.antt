use mathlib.Core.Path.{◌≡◌, refl, ◌∙◌}
use native.Mathlib.Omega.{arith}
use borrow.Author.Rules.{rules}
use Rattle.std.specs.Prelude.{Err}
use Rattle.files.specs.Held.{sets_held}
use Rattle.files.proofs.MemberLoop.{set_bounds}
use Rattle.files.proofs.Loop.{all_done, all_held, none_held}
use Rattle.files.proofs.SetLoop.{a_set, no_set, start_blank, more}
use Rattle.files.proofs.sets.read_sets.Goals as goal

pub loop-i-init : goal.loop-i-init
loop-i-init c = (refl, start_blank _ _ _ _ c.requires.blank)

pub returns-in_err-end : goal.returns-in_err-end
returns-in_err-end c =
    let handed : c.from_residual.result ≡ Err c.in_err-end.field-0.0 = search rules in
    none_held sets_held c.loop-i.invariant.1.read _ _ c.loop-i-test.true refl (no_set _ _ _ _ c.read_set.ensures c.in_err-end.was) handed

pub overflow_cast-sets : goal.overflow_cast-sets
overflow_cast-sets c =
    let s = a_set _ c.read_set.ensures c.in_ok-end.was in
    let b = set_bounds _ _ _ s.read in
    omega (arith, s.last, b.0, b.1, c.loop-i.invariant.1.behind, c.requires.few.0)

pub loop-i-preserved : goal.loop-i-preserved
loop-i-preserved c =
    let s = a_set _ c.read_set.ensures c.in_ok-end.was in
    (c.loop-i.invariant.0, more c.loop-i.invariant.1 c.loop-i-test.true c.requires.few.2 c.requires.few.0 s.read s.room s.last)

pub returns : goal.returns
returns c =
    let g = c.loop-i.invariant.1 in
    all_held sets_held g.read _ _ c.loop-i-test.false refl
    (λ i. record { count = (c.loop-i.invariant.0 ∙ all_done g.read c.loop-i-test.false) i; ends = g.held_ends i; members = g.held_members i })
