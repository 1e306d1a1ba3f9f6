use mathlib.Core.Path.{◌≡◌, refl, sym, ap, ap₂, ◌∙◌}
use borrow.Author.Rules.{rules}
use Rattle.std.specs.Prelude.{Err}
use Rattle.files.specs.declared.arrays.Code.{Code}
use Rattle.files.specs.Held.{code_held}
use Rattle.files.proofs.OneInstr.{through_reader}
use Rattle.files.proofs.Loop.{start, more, all_done, all_held, none_held}
use Rattle.files.proofs.lines.read_code.Goals as goal

pub loop-i-init : goal.loop-i-init
loop-i-init c = (refl, start (ap (λ (x : Code). x.list) c.requires.blank))

pub returns-in_err-instr : goal.returns-in_err-instr
returns-in_err-instr c =
    let handed : c.from_residual.result ≡ Err c.in_err-instr.field-0.0 = search rules in
    none_held code_held c.loop-i.invariant.1.read _ _ c.loop-i-test.true (through_reader _ c.read_instr.ensures (c.after.ensures.0 ∙ c.open.ensures.0) c.after.ensures.1) c.in_err-instr.was handed

pub loop-i-preserved : goal.loop-i-preserved
loop-i-preserved c = (c.loop-i.invariant.0, more c.loop-i.invariant.1 c.loop-i-test.true c.requires.few.few_lines (sym (through_reader _ c.read_instr.ensures (c.after.ensures.0 ∙ c.open.ensures.0) c.after.ensures.1) ∙ c.in_ok-instr.was))

pub returns : goal.returns
returns c =
    let f = c.loop-i.invariant.1 in
    all_held code_held f.read _ _ c.loop-i-test.false refl
    (ap₂ (λ n l. record { count = n; list = l }) (c.loop-i.invariant.0 ∙ all_done f.read c.loop-i-test.false) f.held)
