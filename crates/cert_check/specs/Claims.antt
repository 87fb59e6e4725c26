-- Whether what a certificate claims is what its tree and its settings give, and which claim is wrong first (ours).
use Rattle.std.specs.Prelude.{◌≡◌, ℕ, ◌<◌, ◌≤◌, ⊤, Option, Some, None, length, slice_index, All}
use Rattle.coord_model.specs.Choice.{Settings}
use Rattle.coord_model.specs.declared.cert.StudyHead.{StudyHead}
use Rattle.cert_text.specs.declared.kinds.CertHead.{CertHead}
use Rattle.margin_rows.specs.Box.{IsDialStep}
use Rattle.margin_rows.specs.Case.{Case, rows_in}
use Rattle.margin_rows.specs.FirstBox.{IsFirstStep, IsInFirstBox}
use Rattle.margin_rows.specs.Gap.{IsGapEnough}
use Rattle.margin_rows.specs.Margin.{MeetsStrictly}
use Rattle.margin_rows.specs.Price.{cost_of}
use Rattle.cert_check.specs.declared.found.Found.{Found}

-- the format, the relays and the rows of a case
abbrev pub study_head : Case → StudyHead
study_head case = record {
  format = case.study.format;
  relays = length case.study.relays;
  rows = length (rows_in case);
}

-- a printed study is that of the case; none is printed only for the formats 1 and 2
abbrev pub IsOfStudy : Case → Option StudyHead → Type 0
IsOfStudy case None = case.study.format ≤ 2
IsOfStudy case (Some printed) = printed ≡ study_head case

-- the first box has the relay's pickup, and the relay has its dial step
pub record IsOn (case : Case) (settings : Settings) (relay : ℕ) : Type 0 where
  pub pickup : IsFirstStep case relay (slice_index settings.pickup relay)
  pub dial : IsDialStep case relay (slice_index settings.dial relay)

-- the relay is the first in study order that is not so
pub record IsFirstOff (case : Case) (settings : Settings) (relay : ℕ) : Type 0 where
  pub in_study : relay < length case.study.relays
  pub off : ¬ (IsOn case settings relay)
  pub before : (earlier : ℕ) → earlier < relay → IsOn case settings earlier

-- the settings lie in the first box, strictly meet every row, and have this cost
pub record IsPriced (case : Case) (settings : Settings) (cost : ℕ) : Type 0 where
  pub inside : IsInFirstBox case settings
  pub meets : All (MeetsStrictly case settings) (rows_in case)
  pub costs : cost ≡ cost_of case settings

-- it is so of the settings and the cost, if both are printed
abbrev pub IfPrinted : Option Settings → Option ℕ → (Settings → ℕ → Type 0) → Type 0
IfPrinted (Some settings) (Some cost) P = P settings cost
IfPrinted _ _ P = ⊤

-- it is so of the settings and the cost, and both are printed
abbrev pub IsPrintedAnd : Option Settings → Option ℕ → (Settings → ℕ → Type 0) → Type 0
IsPrintedAnd (Some settings) (Some cost) P = P settings cost
IsPrintedAnd _ _ P = ⊥

-- the study is that of the case, and printed settings are right and have the printed cost
pub record AreSettingsRight (case : Case) (head : CertHead)
    (settings : Option Settings) : Type 0 where
  pub study : IsOfStudy case head.study
  pub priced : IfPrinted settings head.cost (IsPriced case)

-- the claim agrees with the case and with what the tree gives
pub record Agrees (case : Case) (head : CertHead) (settings : Option Settings)
    (found : Found) : Type 0 where
  pub right : AreSettingsRight case head settings
  pub boxes : head.boxes ≡ found.boxes
  pub bound : head.bound ≡ found.bound
  pub gap : IsGapEnough case head.gap
  pub ending : Some head.ending ≡ found.ending
