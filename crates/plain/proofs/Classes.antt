-- Demand 2, of the definitions: classes and colors, and that what is written reads back.
use mathlib.Core.Path.{sym, ◌∙◌, ap}
use Rattle.files.specs.Reading.{read_file}
use Rattle.files.proofs.RoundTrip as files
use Rattle.coloring.proofs.Chains as chains
use Rattle.coloring.proofs.Colors as colors
use Rattle.coloring.proofs.Order as order
use Rattle.instrumenter.proofs.ReadsBack.{wrote, new_file_reads}
use Rattle.plain.specs.Demands.{ClassIsChain, ColoringIsLegal, NoneFiner, OneColoring, ReadsBack, FilesReadBack}

pub class_is_chain : ClassIsChain
class_is_chain = chains.class_is_chain

pub coloring_is_legal : ColoringIsLegal
coloring_is_legal = colors.coloring_is_legal

pub none_finer : NoneFiner
none_finer = colors.none_finer

pub one_coloring : OneColoring
one_coloring sets = (order.colors_are_numbering sets, order.one_coloring sets)

pub reads_back : ReadsBack
reads_back bytes out room e =
    let w = wrote bytes room out e in
    (w.routine, w.read, w.accepted, ap (read_file 2) (sym w.spelled) ∙ new_file_reads w.routine w.accepted)

pub files_read_back : FilesReadBack
files_read_back version small bytes p =
    (files.one_spelling version bytes p, λ says. ap (read_file version) (sym says.bytes) ∙ files.reads_back version small p says.good)
