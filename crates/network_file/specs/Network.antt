-- A network file as a study, or as its first fault (ours).
use Rattle.std.specs.Prelude.{ℕ, List, Result, Ok, Err, if◌then◌else◌}
use Rattle.std.specs.Str.{is_utf8}
use Rattle.coord_model.specs.StudyData.{StudyData}
use Rattle.network_file.specs.declared.fault.NetFault.{NetFault}
use Rattle.network_file.specs.declared.fault.NetFault.TheVariants.{NotText, NotToml}
use Rattle.network_file.specs.Fault.{◌>>=◌}
use Rattle.network_file.specs.Study.{study_of}
use Rattle.network_file.specs.Told.{told_in}
use Rattle.network_file.specs.Values.{some_or}
use Rattle.toml.specs.Data.{Members}
use Rattle.toml.specs.Parse.{parse_document}

-- the bytes as text, which is UTF-8
unfoldable pub text_of : List ℕ → Result (List ℕ) NetFault
text_of bytes = if is_utf8 bytes then Ok bytes else Err NotText

-- the text as a TOML document
abbrev pub document_of : List ℕ → Result Members NetFault
document_of text = some_or NotToml (parse_document text)

-- the study that the bytes of a network file tell, or the first fault
unfoldable pub network_of : List ℕ → Result StudyData NetFault
network_of bytes = do
  text ← text_of bytes
  document ← document_of text
  told ← told_in document
  study_of told
