-- A text that is the document of what is told of a study reads as that study.
use Rattle.std.proofs.Common.{◌≡◌, ℕ, List, Some, Ok}
use Rattle.std.specs.Str.{IsUtf8}
use Rattle.coord_model.specs.Limits.{FitsStudy}
use Rattle.coord_model.specs.StudyData.{StudyData}
use Rattle.network_file.specs.Named.{told_of}
use Rattle.network_file.specs.Network.{text_of, network_of}
use Rattle.network_file.specs.Rules.{IsNamed, IsInFormat}
use Rattle.network_file.specs.Told.{told_in}
use Rattle.network_file.proofs.NumberedAgain.{numbered_again}
use Rattle.network_file.proofs.Utf8.{is_text}
use Rattle.toml.specs.Data.{Members}
use Rattle.toml.specs.Parse.{parse_document}

pub printed_reads : (study : StudyData) (text : List ℕ) (document : Members) → FitsStudy study → IsNamed study → IsInFormat study → IsUtf8 text
    → parse_document text ≡ Some document → told_in document ≡ Ok (told_of study) → network_of text ≡ Ok study
unfolding network_of text_of
printed_reads study text document fits named in_format utf8 parsed told =
    rw (is_text text utf8, parsed, told) (numbered_again study fits named in_format)
