-- The line in which each refusal is printed (ours).
use Rattle.std.specs.Prelude.{ℕ, Option, List, ◌++◌, codes}
use Rattle.std.specs.Fmt.{decimal}
use Rattle.coord_model.specs.declared.kinds.Key.{Key}
use Rattle.coord_model.specs.declared.kinds.NetKind.{NetKind}
use Rattle.coord_model.specs.declared.kinds.TableName.{TableName}
use Rattle.coord_model.specs.declared.kinds.What.{What}
use Rattle.coord_run.specs.CertRefusals.{cert_claim_text, cert_line_text, cert_node_text}
use Rattle.coord_run.specs.FileLimits.{most_bytes_of}
use Rattle.coord_run.specs.RefusalWords.{due_word, kind_word, table_word, what_word, key_text}
use Rattle.coord_words.specs.SolveWords.{FileNames}
use Rattle.coord_run.specs.declared.refusal.File.{File}
use Rattle.coord_run.specs.declared.refusal.File.TheVariants as file
use Rattle.coord_run.specs.declared.refusal.Refusal.{Refusal}
use Rattle.coord_run.specs.declared.refusal.Refusal.TheVariants.{Missing, ReadFault, TooLong, NotText, NotToml, Network, TooMany, BadHeader, BadRecord, UnknownFault, UnknownRelay, BadAmps, DoubleEntry, NoPrimary, GapTooSmall, CertLine, CertNode, CertClaim, SheetLine, SheetPickup}
use Rattle.settings_sheet.specs.declared.refusal.SheetKind.{SheetKind}

-- the name of a file of a command
abbrev pub name_of : FileNames → File → List ℕ
name_of names file.Network = names.network
name_of names file.Currents = names.currents
name_of names file.Sheet = names.sheet
name_of names file.Cert = names.cert

-- a line about a file or another name
unfoldable pub name_text : List ℕ → List ℕ → List ℕ
name_text label name = label ++ name ++ codes "\n"

-- a file with more bytes than this
unfoldable pub too_long_text : List ℕ → ℕ → List ℕ
too_long_text name limit = codes "too long: " ++ name ++ codes " " ++ decimal limit ++ codes "\n"

-- a quantity that passes its limit
unfoldable pub too_many_text : What → ℕ → List ℕ
too_many_text of_what limit = codes "too many: " ++ what_word of_what ++ codes " " ++ decimal limit ++ codes "\n"

-- a fault at a place of the network file
unfoldable pub place_text : NetKind → TableName → ℕ → Option Key → List ℕ
place_text kind in_table index key =
    codes "network: " ++ kind_word kind ++ codes " " ++ table_word in_table ++ codes " " ++ decimal index ++ key_text key ++ codes "\n"

-- a fault of a record of the currents table
unfoldable pub record_text : List ℕ → ℕ → List ℕ
record_text kind n = codes "currents: " ++ kind ++ codes " " ++ decimal n ++ codes "\n"

-- a gap below the least gap
unfoldable pub gap_text : ℕ → ℕ → List ℕ
gap_text given least = codes "gap too small: " ++ decimal given ++ codes " least " ++ decimal least ++ codes "\n"

-- a fault at a line of the sheet
unfoldable pub sheet_line_text : ℕ → SheetKind → List ℕ
sheet_line_text line kind = codes "sheet: line " ++ decimal line ++ codes " " ++ due_word kind ++ codes "\n"

-- the line of a refusal of a command with these names
abbrev pub refusal_text : FileNames → Refusal → List ℕ
refusal_text names (Missing of_file) = name_text (codes "missing: ") (name_of names of_file)
refusal_text names (ReadFault of_file) = name_text (codes "read fault: ") (name_of names of_file)
refusal_text names (TooLong of_file) = too_long_text (name_of names of_file) (most_bytes_of of_file)
refusal_text names NotText = codes "network: not-text\n"
refusal_text names NotToml = codes "network: not-toml\n"
refusal_text names (Network kind in_table index key) = place_text kind in_table index key
refusal_text names (TooMany of_what limit) = too_many_text of_what limit
refusal_text names BadHeader = codes "currents: bad-header\n"
refusal_text names (BadRecord n) = record_text (codes "bad-record") n
refusal_text names (UnknownFault n) = record_text (codes "unknown-fault") n
refusal_text names (UnknownRelay n) = record_text (codes "unknown-relay") n
refusal_text names (BadAmps n) = record_text (codes "bad-amps") n
refusal_text names (DoubleEntry n) = record_text (codes "double-entry") n
refusal_text names (NoPrimary name) = name_text (codes "currents: no-primary ") name
refusal_text names (GapTooSmall given least) = gap_text given least
refusal_text names (CertLine line kind) = cert_line_text line kind
refusal_text names (CertNode number kind) = cert_node_text number kind
refusal_text names (CertClaim fault) = cert_claim_text fault
refusal_text names (SheetLine line kind) = sheet_line_text line kind
refusal_text names (SheetPickup name) = name_text (codes "sheet: pickup ") name

-- the line of a file that was not written
abbrev pub write_fault_text : List ℕ → List ℕ
write_fault_text name = name_text (codes "write fault: ") name
