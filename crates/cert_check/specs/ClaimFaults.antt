-- Which of a certificate's claims is the first that is wrong, and how (ours). In this order: the study; how many relays
-- the settings are for, their steps, their rows and their cost, if they are printed; the boxes, the bound, the gap, and
-- the ending.
use Rattle.std.specs.Prelude.{◌≡◌, ◌≢◌, ℕ, ◌<◌, Option, Some, length, All}
use Rattle.coord_model.specs.Choice.{Settings}
use Rattle.cert_text.specs.declared.kinds.CertHead.{CertHead}
use Rattle.margin_rows.specs.Case.{Case, rows_in}
use Rattle.margin_rows.specs.FirstBox.{IsInFirstBox}
use Rattle.margin_rows.specs.Gap.{IsGapEnough, IsLeastGap}
use Rattle.margin_rows.specs.Margin.{MeetsStrictly}
use Rattle.margin_rows.specs.Price.{cost_of}
use Rattle.margin_rows.specs.Unmet.{IsFirstUnmet}
use Rattle.cert_check.specs.Claims.{AreSettingsRight, IsFirstOff, IsOfStudy, IsPrintedAnd, study_head}
use Rattle.cert_check.specs.declared.found.Found.{Found}
use Rattle.cert_check.specs.declared.kind.ClaimKind.{ClaimKind}
use Rattle.cert_check.specs.declared.kind.ClaimKind.TheVariants.{Study, Relays, Step, Row, Cost, Boxes, Bound, Gap, EndingIs}

-- the values are these two, and they differ
pub record Differ {T : Type 0} (printed found : T) (is_printed is_found : T) : Type 0 where
  pub printed_is : printed ≡ is_printed
  pub found_is : found ≡ is_found
  pub apart : is_printed ≢ is_found

-- the fault is the first of settings with this cost
abbrev pub IsFirstOfSettings : Case → ClaimKind → Settings → ℕ → Type 0
IsFirstOfSettings case (Relays printed found) settings cost =
    Differ printed found (length settings.pickup) (length case.study.relays)
IsFirstOfSettings case (Step relay) settings cost =
    (length settings.pickup ≡ length case.study.relays) × IsFirstOff case settings relay
IsFirstOfSettings case (Row row) settings cost =
    IsInFirstBox case settings × IsFirstUnmet case settings row
IsFirstOfSettings case (Cost printed found) settings cost =
    IsInFirstBox case settings × All (MeetsStrictly case settings) (rows_in case)
    × Differ printed found cost (cost_of case settings)
IsFirstOfSettings case _ settings cost = ⊥

-- the fault is the first of what is claimed of the tree
abbrev pub IsFirstOfTree : Case → CertHead → Found → ClaimKind → Type 0
IsFirstOfTree case head given (Boxes printed found) = Differ printed found head.boxes given.boxes
IsFirstOfTree case head given (Bound printed found) =
    (head.boxes ≡ given.boxes) × Differ printed found head.bound given.bound
IsFirstOfTree case head given (Gap printed least) =
    (head.boxes ≡ given.boxes) × (head.bound ≡ given.bound)
    × (printed ≡ head.gap) × IsLeastGap case least × (printed < least)
IsFirstOfTree case head given (EndingIs printed found) =
    (head.boxes ≡ given.boxes) × (head.bound ≡ given.bound) × IsGapEnough case head.gap
    × (printed ≡ head.ending) × (found ≡ given.ending) × (Some printed ≢ found)
IsFirstOfTree case head given _ = ⊥

-- the fault is the first of the claim
abbrev pub IsFirstClaimFault : Case → CertHead → Option Settings → Found → ClaimKind → Type 0
IsFirstClaimFault case head settings given (Study printed found) =
    (printed ≡ head.study) × (found ≡ study_head case) × ¬ (IsOfStudy case printed)
IsFirstClaimFault case head settings given (Boxes p f) =
    AreSettingsRight case head settings × IsFirstOfTree case head given (Boxes p f)
IsFirstClaimFault case head settings given (Bound p f) =
    AreSettingsRight case head settings × IsFirstOfTree case head given (Bound p f)
IsFirstClaimFault case head settings given (Gap p l) =
    AreSettingsRight case head settings × IsFirstOfTree case head given (Gap p l)
IsFirstClaimFault case head settings given (EndingIs p f) =
    AreSettingsRight case head settings × IsFirstOfTree case head given (EndingIs p f)
IsFirstClaimFault case head settings given kind =
    IsOfStudy case head.study × IsPrintedAnd settings head.cost (IsFirstOfSettings case kind)
