-- The statuses of the program (ours): that of a refusal and that of an outcome. A call for whose words there is no command
-- has status 2, a write that failed 11, and want of memory 30.
use Rattle.std.specs.Prelude.{◌≡◌, ◌⊎◌, ℕ, Bool, is_some, if◌then◌else◌}
use Rattle.branch_bound.specs.declared.outcome.Outcome.{Outcome}
use Rattle.coord_model.specs.declared.choice.Ending.{Ending}
use Rattle.coord_model.specs.declared.choice.Ending.TheVariants.{BudgetSpent, Closed, Hairline, NoSettings}
use Rattle.coord_run.specs.declared.refusal.Refusal.{Refusal}
use Rattle.coord_run.specs.declared.refusal.Refusal.TheVariants.{Missing, ReadFault, TooLong, NotText, NotToml, Network, TooMany, BadHeader, BadRecord, UnknownFault, UnknownRelay, BadAmps, DoubleEntry, NoPrimary, GapTooSmall, CertLine, CertNode, CertClaim, SheetLine, SheetPickup}

-- the status of a refusal
abbrev pub refusal_status : Refusal → ℕ
refusal_status (Missing file) = 9
refusal_status (ReadFault file) = 10
refusal_status (TooLong file) = 12
refusal_status NotText = 13
refusal_status NotToml = 13
refusal_status (Network kind table index key) = 13
refusal_status BadHeader = 14
refusal_status (BadRecord n) = 14
refusal_status (UnknownFault n) = 14
refusal_status (UnknownRelay n) = 14
refusal_status (BadAmps n) = 14
refusal_status (DoubleEntry n) = 14
refusal_status (NoPrimary name) = 14
refusal_status (TooMany what limit) = 15
refusal_status (GapTooSmall given least) = 16
refusal_status (CertLine line kind) = 17
refusal_status (CertNode number kind) = 18
refusal_status (CertClaim fault) = 19
refusal_status (SheetLine line kind) = 20
refusal_status (SheetPickup name) = 22

-- the status of an ending, with issued settings or without
abbrev pub ending_status : Ending → Bool → ℕ
ending_status Closed issued = 0
ending_status NoSettings issued = 3
ending_status BudgetSpent issued = if issued then 4 else 5
ending_status Hairline issued = if issued then 6 else 7

-- the status of an outcome
abbrev pub outcome_status : Outcome → ℕ
outcome_status outcome = ending_status outcome.ending (is_some outcome.issued)

-- the status is that of an ending: closed, no settings, a spent budget or a hairline, these two with
-- or without settings
abbrev pub IsEnding : ℕ → Type 0
IsEnding status =
    (status ≡ 0) ⊎ ((status ≡ 3) ⊎ ((status ≡ 4) ⊎ ((status ≡ 5) ⊎ ((status ≡ 6) ⊎ (status ≡ 7)))))
