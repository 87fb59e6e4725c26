use Rattle.std.proofs.Common.{string_bytes, sym, subst}
use Rattle.std.proofs.lemmas.Str.{IsUtf8-string_bytes}
use Rattle.coord_model.specs.StudyData.{study_data}
use Rattle.network_file.specs.EntryLimits.{IntervalsSuit, ToldKeeps}
use Rattle.network_file.proofs.PrintedReads.{printed_reads}
use Rattle.network_file.proofs.ToldFits.{told_keeps, intervals_suit}
use Rattle.toml.specs.View.{table_view}
use Rattle.network_file.proofs.print.print_network.Goals as goal

pub document_of-requires : goal.document_of-requires
document_of-requires c =
    let is = sym c.in_ok-told.ensures in
    record {
      keeps = subst ToldKeeps is (told_keeps (study_data c.args.study.now) c.requires.fits c.requires.in_format);
      suits = subst IntervalsSuit is (intervals_suit (study_data c.args.study.now) c.requires.in_format);
    }

pub returns : goal.returns
returns c =
    let told = rw c.in_ok-told.ensures at c.in_ok-document.ensures.reads in
    record {
      reads = rw c.into_bytes.ensures.value (printed_reads (study_data c.args.study.now) (string_bytes c.in_ok-text.text)
          (table_view c.in_ok-document.document) c.requires.fits c.requires.named c.requires.in_format (IsUtf8-string_bytes c.in_ok-text.text) c.in_ok-text.ensures told);
    }
