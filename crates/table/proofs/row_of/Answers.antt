use Rattle.std.proofs.Common.{◌∙◌, ap, arith}
use Rattle.std.specs.Option.{unwrap_or}
use Rattle.opcodes.specs.Table.{row_of}
use Rattle.table.proofs.row_of.Goals as goal

pub returns : goal.returns
returns c =
    c.unwrap_or.ensures ∙ ap (λ o. unwrap_or o (row_of 22)) c.copied.ensures ∙ c.get.ensures.lookup.4 (omega arith) (row_of 22)
