use mathlib.Core.Path.{sym, ap, ◌∙◌}
use native.Mathlib.Omega.{arith}
use Rattle.std.specs.Prelude.{◌≡◌, ◌+◌, ◌-◌, Some}
use Rattle.numbers.proofs.Laws.{written}
use Rattle.numbers.proofs.Spelling.{width_least}
use Rattle.numbers.proofs.Writing.{followed, final, more, last_ends, last_leaves}
use Rattle.numbers.proofs.write_number.Goals as goal

pub overflow_sub-last : goal.overflow_sub-last
overflow_sub-last c = omega (arith, width_least c.args.n)

pub loop-place-preserved : goal.loop-place-preserved
loop-place-preserved c =
    rw (c.above_group-rest.ensures, c.followed.ensures, c.low_group.ensures)
    (more c.loop-place.invariant (followed c.loop-place.invariant (omega arith)))

pub overflow_cast-room : goal.overflow_cast-room
overflow_cast-room c = omega (arith, final c.loop-place.invariant (omega (arith, width_least c.args.n)))

pub bounds-room-last : goal.bounds-room-last
bounds-room-last c = omega (arith, c.loop-place.invariant.as_long, width_least c.args.n)

pub returns : goal.returns
returns c =
    let w = c.loop-place.invariant in
    let place = c.loop-place.place in
    let least = width_least c.args.n in
    let at_last : c.args.at + (c.number_width-bytes.result - 1) ≡ place = omega arith in
    let t = final w (omega arith) in
    let done = written _ _ _ w.fits in
    record {
      answer = rw at_last (ap Some (last_ends w t) ∙ sym done.0);
      room = rw at_last (last_leaves w t ∙ sym done.1);
    }
