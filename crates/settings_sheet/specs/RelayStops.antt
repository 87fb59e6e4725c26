-- Where the lines of the relays stop being those of a study (ours).
use Rattle.std.specs.Prelude.{◌≡◌, ◌≢◌, ℕ, ◌+◌, ◌<◌, ◌==◌, not, true, List, ◌∷◌, ◌++◌, length, map, slice_get, IfSome}
use Rattle.std.specs.List.{list_all, range_with_len}
use Rattle.coord_model.specs.Allowed.{AreOnSteps, IsOnSteps}
use Rattle.coord_model.specs.Choice.{Settings}
use Rattle.coord_model.specs.Name.{IsName}
use Rattle.coord_model.specs.StudyData.{StudyData}
use Rattle.coord_text.specs.Claims.{text_of}
use Rattle.settings_sheet.specs.SheetLines.{relay_words, relay_words_at}
use Rattle.settings_sheet.specs.declared.refusal.SheetKind.{SheetKind}
use Rattle.settings_sheet.specs.declared.refusal.SheetKind.TheVariants as due
use Rattle.settings_sheet.specs.declared.refusal.SheetRefusal.{SheetRefusal}
use Rattle.settings_sheet.specs.declared.refusal.SheetRefusal.TheVariants.{Fault, NoMemory}

-- no byte of the word is a space
abbrev pub HasNoSpace : List ℕ → Type 0
HasNoSpace word = list_all (λ b. not (b == 32)) word ≡ true

-- the relays with a lower number have names
abbrev pub HasNamesBelow : StudyData → ℕ → Type 0
HasNamesBelow study n = (i : ℕ) → i < n → IfSome (slice_get study.relays i) (λ relay. IsName relay.name)

-- all relays have names
abbrev pub AreNames : StudyData → Type 0
AreNames study = HasNamesBelow study (length study.relays)

-- the lines of the first relays
abbrev pub first_lines : StudyData → Settings → ℕ → List (List ℕ)
first_lines study settings n = map (relay_words_at study settings) (range_with_len 0 n)

-- the lines of the first relays are read, and the next isn't there
pub record RelayStop (study : StudyData) (text : List ℕ) (line : ℕ) (kind : SheetKind) : Type 0 where
  pub at : ℕ
  pub in_study : at < length study.relays
  pub number : line ≡ at + 5
  pub due : kind ≡ due.Relay
  pub settings : Settings
  pub on_steps : AreOnSteps study settings
  pub left : List ℕ
  pub parts : text ≡ text_of (first_lines study settings at) ++ left
  pub names : HasNamesBelow study (at + 1)
  pub no_such : IfSome (slice_get study.relays at) (λ relay. (pickup dial : ℕ) (rest : List ℕ) → IsOnSteps relay pickup dial
      → left ≢ relay_words relay pickup dial ++ 10 ∷ rest)

-- the refusal names where the lines of the relays stop; want of memory says nothing
abbrev pub IsRelayStop : StudyData → List ℕ → SheetRefusal → Type 0
IsRelayStop study text (Fault line kind) = RelayStop study text line kind
IsRelayStop study text NoMemory = Unit {0}
