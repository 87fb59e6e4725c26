-- The times of a row's relays rise with their pickup steps.
use Rattle.std.specs.List.{Contains}
use Rattle.std.proofs.Common.{ℕ, ◌≤◌}
use Rattle.coord_model.specs.declared.study.Row.{Row}
use Rattle.margin_rows.specs.Case.{Case, rows_in, FitsCase}
use Rattle.margin_rows.specs.FirstBox.{IsFirstStep}
use Rattle.margin_rows.specs.Times.{time_at}
use Rattle.margin_rows.proofs.Laws.{first_step_senses, sensed_time_never_falls}
use Rattle.margin_rows.proofs.Listed.{backup_used, primary_used}

module _ (case : Case) (row : Row) (s t : ℕ) (fits : FitsCase case) (there : Contains (rows_in case) row) (rises : s ≤ t) where
  pub backup_rises : IsFirstStep case row.backup s → IsFirstStep case row.backup t
      → (time_at case row.fault row.backup s).upper ≤ (time_at case row.fault row.backup t).upper
  backup_rises first_s first_t =
      let used = backup_used case row there in
      (sensed_time_never_falls case row.fault row.backup s t fits (first_step_senses case row.fault row.backup s used first_s) (first_step_senses case row.fault row.backup t used first_t) rises).upper

  pub primary_rises : IsFirstStep case row.primary s → IsFirstStep case row.primary t
      → (time_at case row.fault row.primary s).lower ≤ (time_at case row.fault row.primary t).lower
  primary_rises first_s first_t =
      let used = primary_used case row there in
      (sensed_time_never_falls case row.fault row.primary s t fits (first_step_senses case row.fault row.primary s used first_s) (first_step_senses case row.fault row.primary t used first_t) rises).lower
