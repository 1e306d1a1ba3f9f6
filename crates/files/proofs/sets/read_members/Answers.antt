use mathlib.Core.Path.{◌≡◌, sym, ap, ◌∙◌}
use Prim.Native.Nat.{ℕ, ◌+◌}
use native.Mathlib.Omega.{arith}
use borrow.Author.Rules.{rules}
use Rattle.std.specs.Prelude.{Ok, Err, length}
use Rattle.files.proofs.MemberLoop.{begin, member, as_long, more, stops, ends}
use Rattle.files.proofs.sets.read_members.Goals as goal

pub loop-place-init : goal.loop-place-init
loop-place-init c = begin _ _ _ _ _ _ c.requires.0.behind

pub returns-in_err-n : goal.returns-in_err-n
returns-in_err-n c =
    let handed : c.from_residual.result ≡ Err c.in_err-n.field-0.0 = search rules in
    rw (stops c.loop-place.invariant c.loop-place-test.true (sym c.member_at.ensures ∙ c.in_err-n.was)) handed

pub offset_bounds-members-place : goal.offset_bounds-members-place
offset_bounds-members-place c = let m = member _ _ _ _ (sym c.member_at.ensures ∙ c.in_ok-n.was) in omega (arith, m.behind, m.inside, c.loop-place.invariant.behind, c.requires.0.short, c.requires.0.most)

pub bounds-members-place : goal.bounds-members-place
bounds-members-place c = let m = member _ _ _ _ (sym c.member_at.ensures ∙ c.in_ok-n.was) in omega (arith, m.behind, m.inside, c.loop-place.invariant.behind, c.requires.0.short, as_long c.loop-place.invariant)

pub loop-place-preserved : goal.loop-place-preserved
loop-place-preserved c = more c.loop-place.invariant c.loop-place-test.true (sym c.member_at.ensures ∙ c.in_ok-n.was)

pub returns : goal.returns
returns c =
    let t = c.loop-place.invariant in
    let all : c.args.start + c.args.count ≡ c.args.start + length t.done = omega (arith, t.counted, t.at_most, c.loop-place-test.false) in
    rw (ends t c.loop-place-test.false)
    (record { answer = ap (λ (p : ℕ). Ok (p, c.loop-place.next)) all; room = t.room })
