use mathlib.Core.Path.{◌≡◌, sym, ap, ◌∙◌}
use Prim.Native.Nat.{◌≤◌}
use native.Mathlib.Omega.{arith}
use borrow.Author.Rules.{rules}
use lib.ListN.{length}
use Rattle.std.specs.Prelude.{Ok, Err}
use Rattle.files.specs.declared.arrays.Sets.{Sets}
use Rattle.files.specs.declared.arrays.Loaded.{Loaded}
use Rattle.files.specs.Program.{longest}
use Rattle.files.specs.Held.{held, objects_held, sets_held, code_held}
use Rattle.files.proofs.Answered.{was_read, was_refused, was_held, was_not_held}
use Rattle.files.proofs.Filled.{blank_sets, blank_code}
use Rattle.files.proofs.Stages.{few_objects, few_sets, too_long_lem, no_objects, no_sets, no_code, bytes_behind, all_read, held_count, held_list, sets_behind, code_behind, held_all}
use Rattle.files.proofs.reading.read_file.Goals as goal

pub returns-then-longest_file-file : goal.returns-then-longest_file-file
returns-then-longest_file-file c = sym (ap held (too_long_lem _ _ (omega (arith, c.if-longest_file-file.true, c.longest_file.ensures))))

pub returns-in_err-objects : goal.returns-in_err-objects
returns-in_err-objects c =
    let short : length c.args.file.now ≤ longest c.args.version = omega (arith, c.if-longest_file-file.false, c.longest_file.ensures) in
    let handed : c.from_residual.result ≡ Err c.in_err-objects.field-0.0 = search rules in
    let none = was_refused objects_held _ c.objects_of.ensures c.in_err-objects.was in
    handed ∙ sym (ap held (no_objects _ _ short none))

pub sets_of-requires : goal.sets_of-requires
sets_of-requires c =
    let o = was_read objects_held _ c.objects_of.ensures c.in_ok-objects.was in
    record {
      few = (omega (arith, c.if-longest_file-file.false, c.longest_file.ensures), omega (arith, held_count o.thing o.held_as, few_objects _ _ o.read));
      blank = blank_sets;
    }

pub returns-in_err-past_sets : goal.returns-in_err-past_sets
returns-in_err-past_sets c =
    let short : length c.args.file.now ≤ longest c.args.version = omega (arith, c.if-longest_file-file.false, c.longest_file.ensures) in
    let handed : c.from_residual-in_err-past_sets.result ≡ Err c.in_err-past_sets.field-0.0 = search rules in
    let o = was_read objects_held _ c.objects_of.ensures c.in_ok-objects.was in
    let none = was_not_held sets_held _ _ (sets_behind o.thing o.held_as _ _ _ _ _ c.sets_of.ensures) c.in_err-past_sets.was in
    handed ∙ sym (ap held (no_sets _ _ short o.read none))

pub shared_ref_as_front-named : goal.shared_ref_as_front-named
shared_ref_as_front-named c =
    let o = was_read objects_held _ c.objects_of.ensures c.in_ok-objects.was in
    omega (arith, held_count o.thing o.held_as, few_objects _ _ o.read)

pub code_of-requires : goal.code_of-requires
code_of-requires c =
    let o = was_read objects_held _ c.objects_of.ensures c.in_ok-objects.was in
    let s = was_held sets_held _ (sets_behind o.thing o.held_as _ _ _ _ _ c.sets_of.ensures) c.in_ok-past_sets.was in
    record {
      few = (omega (arith, ap length (held_list o.thing o.held_as), few_objects _ _ o.read), omega (arith, ap (λ (x : Sets). x.count) s.held_as, few_sets _ _ _ _ s.read));
      blank = blank_code;
    }

pub returns-in_err-next : goal.returns-in_err-next
returns-in_err-next c =
    let short : length c.args.file.now ≤ longest c.args.version = omega (arith, c.if-longest_file-file.false, c.longest_file.ensures) in
    let handed : c.from_residual-in_err-next.result ≡ Err c.in_err-next.field-0.0 = search rules in
    let o = was_read objects_held _ c.objects_of.ensures c.in_ok-objects.was in
    let s = was_held sets_held _ (sets_behind o.thing o.held_as _ _ _ _ _ c.sets_of.ensures) c.in_ok-past_sets.was in
    let none = was_not_held code_held _ _ (code_behind o.thing o.held_as _ _ _ s.thing _ _ s.held_as c.code_of.ensures) c.in_err-next.was in
    handed ∙ sym (ap held (no_code _ _ short o.read s.read none))

pub returns-then-next-file : goal.returns-then-next-file
returns-then-next-file c =
    let short : length c.args.file.now ≤ longest c.args.version = omega (arith, c.if-longest_file-file.false, c.longest_file.ensures) in
    let o = was_read objects_held _ c.objects_of.ensures c.in_ok-objects.was in
    let s = was_held sets_held _ (sets_behind o.thing o.held_as _ _ _ _ _ c.sets_of.ensures) c.in_ok-past_sets.was in
    let k = was_held code_held _ (code_behind o.thing o.held_as _ _ _ s.thing _ _ s.held_as c.code_of.ensures) c.in_ok-next.was in
    sym (ap held (bytes_behind _ _ short o.read s.read k.read c.if-next-file.true))

pub returns : goal.returns
returns c =
    let short : length c.args.file.now ≤ longest c.args.version = omega (arith, c.if-longest_file-file.false, c.longest_file.ensures) in
    let o = was_read objects_held _ c.objects_of.ensures c.in_ok-objects.was in
    let s = was_held sets_held _ (sets_behind o.thing o.held_as _ _ _ _ _ c.sets_of.ensures) c.in_ok-past_sets.was in
    let k = was_held code_held _ (code_behind o.thing o.held_as _ _ _ s.thing _ _ s.held_as c.code_of.ensures) c.in_ok-next.was in
    ap (λ (x : Loaded). Ok x) (held_all o.thing s.thing k.thing o.held_as s.held_as k.held_as)
    ∙ sym (ap held (all_read _ _ short o.read s.read k.read c.if-next-file.false))
