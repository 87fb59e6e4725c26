use Rattle.std.proofs.Common.{◌≡◌, ℕ, List, Result, Ok, Err, refl}
use Rattle.std.specs.Prelude.{IfErr, IfOk, MatchResult}
use Rattle.coord_model.specs.StudyData.{StudyData, study_data}
use Rattle.settings_sheet.specs.SheetData.{IsSheet, SheetData, sheet_data}
use Rattle.settings_sheet.specs.SheetFaults.{IsRefusalOf}
use Rattle.settings_sheet.specs.SheetText.{sheet_text}
use Rattle.settings_sheet.specs.declared.refusal.SheetRefusal.{SheetRefusal}
use Rattle.settings_sheet.specs.declared.refusal.SheetRefusal.TheVariants.{Fault, NoMemory}
use Rattle.settings_sheet.specs.declared.sheet.Sheet.{Sheet}
use Rattle.settings_sheet.proofs.reader.read_sheet.Goals as goal

-- where the bytes are a sheet's text, that sheet is read, or memory ran out
read_or_none : (study : StudyData) (bytes : List ℕ) (r : Result Sheet SheetRefusal) (sheet : SheetData) → IsSheet study sheet → bytes ≡ sheet_text study sheet
    → IfOk r (λ read. (other : SheetData) → IsSheet study other → bytes ≡ sheet_text study other → sheet_data read ≡ other)
    → IfErr r (IsRefusalOf study bytes) → MatchResult r (λ read. sheet_data read ≡ sheet) (λ refusal. refusal ≡ NoMemory)
read_or_none study bytes (Ok read) sheet is text only stops = only sheet is text
read_or_none study bytes (Err (Fault line kind)) sheet is text only stops = absurd (stops.no_sheet sheet is text)
read_or_none study bytes (Err NoMemory) sheet is text only stops = refl

pub returns-clause-read : goal.returns-clause-read
returns-clause-read c sheet is text =
    read_or_none (study_data c.args.study.now) c.args.bytes.now c.sheet_in.result sheet is text c.sheet_in.ensures.only c.sheet_in.ensures.stops
