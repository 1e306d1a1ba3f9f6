use mathlib.Core.Path.{◌≡◌, sym, ap₂, ◌∙◌}
use borrow.Author.Rules.{rules}
use Rattle.std.specs.Prelude.{Err}
use Rattle.files.specs.Held.{blank, objects_held}
use Rattle.files.proofs.Filled.{filled_none}
use Rattle.files.proofs.Loop.{start, more, all_done, answered, refused}
use Rattle.files.proofs.objects.read_objects.Goals as goal

pub loop-i-init : goal.loop-i-init
loop-i-init c = start (filled_none 400 blank)

pub returns-in_err-object : goal.returns-in_err-object
returns-in_err-object c =
    let handed : c.from_residual.result ≡ Err c.in_err-object.field-0.0 = search rules in
    handed ∙ sym (refused objects_held c.loop-i.invariant.read c.loop-i-test.true c.read_object.ensures c.in_err-object.was)

pub loop-i-preserved : goal.loop-i-preserved
loop-i-preserved c = more c.loop-i.invariant c.loop-i-test.true c.requires (sym c.read_object.ensures ∙ c.in_ok-object.was)

pub returns : goal.returns
returns c =
    let f = c.loop-i.invariant in
    answered objects_held f.read c.loop-i-test.false
    (ap₂ (λ n l. record { count = n; list = l }) (all_done f.read c.loop-i-test.false) f.held)
