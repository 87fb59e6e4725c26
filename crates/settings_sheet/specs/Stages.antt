-- The stages of reading a settings sheet (ours): its head, its settings, its end.
use Rattle.std.specs.Prelude.{◌≡◌, ◌≢◌, ◌⊎◌, ℕ, ◌+◌, Option, is_some, List, [], ◌∷◌, ◌++◌, codes, IfSome, IsSome}
use Rattle.coord_model.specs.Allowed.{AreOnSteps}
use Rattle.coord_model.specs.Choice.{Settings}
use Rattle.coord_model.specs.StudyData.{StudyData}
use Rattle.coord_text.specs.Claims.{BoundGoesWith, CostGoesWith, IsShort, text_of}
use Rattle.settings_sheet.specs.RelayStops.{AreNames}
use Rattle.settings_sheet.specs.SheetLines.{head_lines, settings_lines}
use Rattle.settings_sheet.specs.declared.head.Head.{Head}
use Rattle.settings_sheet.specs.declared.refusal.SheetKind.{SheetKind}
use Rattle.settings_sheet.specs.declared.refusal.SheetKind.TheVariants as due
use Rattle.settings_sheet.specs.declared.refusal.SheetRefusal.{SheetRefusal}
use Rattle.settings_sheet.specs.declared.refusal.SheetRefusal.TheVariants.{Fault, NoMemory}

-- the text begins with the lines of this head, whose numbers go with its ending
pub record HasHead (text : List ℕ) (head : Head) (left : List ℕ) : Type 0 where
  pub parts : text ≡ text_of (head_lines head.ending head.cost head.bound) ++ left
  pub cost_goes : CostGoesWith head.ending head.cost
  pub bound_goes : BoundGoesWith head.ending head.bound
  pub cost_short : IsShort head.cost
  pub bound_short : IsShort head.bound

-- the text begins with the lines of these settings, which are there exactly where the cost is
pub record HasSettings (study : StudyData) (cost : Option ℕ) (text : List ℕ) (settings : Option Settings) (left : List ℕ) : Type 0 where
  pub parts : text ≡ text_of (settings_lines study settings) ++ left
  pub issued : is_some settings ≡ is_some cost
  pub on_steps : IfSome settings (AreOnSteps study)
  pub names : IsSome cost → AreNames study

-- the last line isn't there
pub record LacksEnd (text : List ℕ) (last line : ℕ) (kind : SheetKind) : Type 0 where
  pub number : line ≡ last
  pub is_due : kind ≡ due.End
  pub no_such : (rest : List ℕ) → text ≢ codes "end" ++ 10 ∷ rest

-- something follows the last line
pub record GoesOn (text : List ℕ) (last line : ℕ) (kind : SheetKind) : Type 0 where
  pub number : line ≡ last + 1
  pub is_due : kind ≡ due.After
  pub left : List ℕ
  pub parts : text ≡ codes "end" ++ 10 ∷ left
  pub some : left ≢ []

-- the refusal says what is wrong at the end
abbrev pub IsEndStop : List ℕ → ℕ → SheetRefusal → Type 0
IsEndStop text last (Fault line kind) = LacksEnd text last line kind ⊎ GoesOn text last line kind
IsEndStop text last NoMemory = ⊥
