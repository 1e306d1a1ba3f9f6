use native.Mathlib.Omega.{arith}
use Rattle.numbers.proofs.Spelling.{width_last, width_more, width_most}
use Rattle.numbers.proofs.number_width.Goals as goal

pub overflow_add-bytes : goal.overflow_add-bytes
overflow_add-bytes c = omega (arith, width_most c.args.n)

pub loop-rest-preserved : goal.loop-rest-preserved
loop-rest-preserved c =
    let l = c.loop-rest in
    let passed = width_more l.rest c.loop-rest-test.true (omega (arith, l.invariant)) in
    rw c.above_group-rest.ensures (omega arith)

pub returns : goal.returns
returns c = omega (arith, width_last c.loop-rest.rest c.loop-rest-test.false)
