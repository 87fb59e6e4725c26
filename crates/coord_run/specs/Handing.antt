-- What is handed over at the end of a command, as its code holds it.
use Rattle.std.specs.Prelude.{◌≡◌, ◌⊎◌, ℕ, List, [], ◌∷◌, Option, Some, None, Result, Ok, Err, IfSome}
use Rattle.cert_text.specs.CertData.{IsCert, cert_data}
use Rattle.cert_text.specs.CertText.{cert_text}
use Rattle.coord_io.specs.Outside.{FolderState, SinkState}
use Rattle.coord_run.specs.End.{AreCutAt, AreWritten, FileText, OutputData}
use Rattle.coord_run.specs.Printing.{Prints, PrintsUnlessMemory}
use Rattle.coord_run.specs.RefusalText.{refusal_text, write_fault_text}
use Rattle.coord_run.specs.Status.{refusal_status}
use Rattle.coord_words.specs.SolveWords.{FileNames}
use Rattle.coord_run.specs.declared.end.NewCert.{NewCert}
use Rattle.coord_run.specs.declared.end.NewFile.{NewFile}
use Rattle.coord_run.specs.declared.end.NewFiles.{NewFiles}
use Rattle.coord_run.specs.declared.end.Output.{Output}
use Rattle.coord_run.specs.declared.end.Unwritten.{Unwritten}
use Rattle.coord_run.specs.declared.end.Unwritten.TheVariants as unwritten
use Rattle.coord_run.specs.declared.refusal.Stop.{Stop}
use Rattle.coord_run.specs.declared.refusal.Stop.TheVariants.{Refused, NoMemory}

-- the text of a certificate that is written, and that of another file
abbrev pub cert_file : NewCert → FileText
cert_file cert = record { name = cert.name.now; text = cert_text (cert_data cert.cert) }

abbrev pub file_text : NewFile → FileText
file_text file = record { name = file.name.now; text = file.text.items }

-- the certificate and the sheet, in this order, if they are written
abbrev pub both_texts : NewFiles → List FileText
both_texts files = cert_file files.cert ∷ file_text files.sheet ∷ []

abbrev pub files_of : Option NewFiles → List FileText
files_of None = []
files_of (Some files) = both_texts files

-- the output as plain data
abbrev pub output_data : Output → OutputData
output_data output = record { files = files_of output.files; report = output.report.items; status = output.status }

-- the certificate is one that has a text, and each file has the line for the case that writing it fails
pub record AreWritable (files : NewFiles) : Type 0 where
  pub cert : IsCert (cert_data files.cert.cert)
  pub cert_line : files.cert.fault_line.items ≡ write_fault_text files.cert.name.now
  pub sheet_line : files.sheet.fault_line.items ≡ write_fault_text files.sheet.name.now

abbrev pub IsWritable : Output → Type 0
IsWritable output = IfSome output.files AreWritable

-- why the files are not written: memory ran out before the first was started, or writing failed at one of them
abbrev pub IsUnwritten : NewFiles → FolderState → FolderState → Unwritten → Type 0
IsUnwritten files before after unwritten.NoMemory = after ≡ before
IsUnwritten files before after unwritten.Cert = AreCutAt (both_texts files) (cert_file files.cert) before after
IsUnwritten files before after unwritten.Sheet = AreCutAt (both_texts files) (file_text files.sheet) before after

-- The output is handed over: the files are written and the report is printed, or the line of the write fault; or memory
-- ran out before.
abbrev pub Delivers : Output → FolderState → FolderState → SinkState → SinkState → ℕ → Type 0
Delivers output before after sink_before sink_after status =
    (AreWritten (files_of output.files) before after × Prints output.report.items output.status sink_before sink_after status)
    ⊎ (((file : FileText) × AreCutAt (files_of output.files) file before after × Prints (write_fault_text file.name) 11 sink_before sink_after status)
    ⊎ ((after ≡ before) × (status ≡ 30) × (sink_after ≡ sink_before)))

-- what came of the work is handed over
abbrev pub HandsOver : FileNames → Result Output Stop → FolderState → FolderState → SinkState → SinkState → ℕ → Type 0
HandsOver names (Ok output) before after sink_before sink_after status = Delivers output before after sink_before sink_after status
HandsOver names (Err (Refused refusal)) before after sink_before sink_after status =
    (after ≡ before) × PrintsUnlessMemory (refusal_text names refusal) (refusal_status refusal) sink_before sink_after status
HandsOver names (Err NoMemory) before after sink_before sink_after status = (after ≡ before) × (status ≡ 30) × (sink_after ≡ sink_before)
