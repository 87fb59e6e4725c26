-- Where a text stops being a settings sheet of a study (ours).
use Rattle.std.specs.Prelude.{◌≡◌, ◌≢◌, ℕ, ◌+◌, List, [], ◌∷◌, ◌++◌, length}
use Rattle.coord_model.specs.StudyData.{StudyData}
use Rattle.coord_text.specs.Claims.{text_of}
use Rattle.coord_text.specs.Lines.{IsLine}
use Rattle.settings_sheet.specs.SheetData.{IsSheet, SheetData}
use Rattle.settings_sheet.specs.SheetLines.{kind_at, sheet_lines}
use Rattle.settings_sheet.specs.SheetText.{sheet_text}
use Rattle.settings_sheet.specs.declared.refusal.SheetKind.{SheetKind}
use Rattle.settings_sheet.specs.declared.refusal.SheetRefusal.{SheetRefusal}
use Rattle.settings_sheet.specs.declared.refusal.SheetRefusal.TheVariants.{Fault, NoMemory}

-- these lines begin a sheet of the study
pub record Begins (study : StudyData) (lines : List (List ℕ)) : Type 0 where
  pub sheet : SheetData
  pub is : IsSheet study sheet
  pub more : List (List ℕ)
  pub parts : sheet_lines study sheet ≡ lines ++ more

-- The bytes are no sheet of the study. The lines before this one begin a sheet that has this kind of line here, and no
-- line that stands here in the bytes continues them.
pub record StopsAt (study : StudyData) (bytes : List ℕ) (line : ℕ) (kind : SheetKind) : Type 0 where
  pub no_sheet : (sheet : SheetData) → IsSheet study sheet → bytes ≢ sheet_text study sheet
  pub before : List (List ℕ)
  pub left : List ℕ
  pub parts : bytes ≡ text_of before ++ left
  pub number : line ≡ length before + 1
  pub begins : Begins study before
  pub due : kind ≡ kind_at study begins.sheet line
  pub stops : (here rest : List ℕ) → IsLine here → left ≡ here ++ 10 ∷ rest → ¬ Begins study (before ++ here ∷ [])

-- the refusal names where the bytes stop being a sheet; want of memory says nothing
abbrev pub IsRefusalOf : StudyData → List ℕ → SheetRefusal → Type 0
IsRefusalOf study bytes (Fault line kind) = StopsAt study bytes line kind
IsRefusalOf study bytes NoMemory = Unit {0}
