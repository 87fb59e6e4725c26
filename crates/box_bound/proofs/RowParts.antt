-- What the code reads of a weighted row is its part.
use Rattle.std.proofs.Common.{◌≡◌, ◌≢◌, ℕ, ◌*◌, refl, sym, ◌∙◌}
use Rattle.coord_model.specs.declared.study.Row.{Row}
use Rattle.coord_model.specs.declared.study.RowKind.{RowKind}
use Rattle.coord_model.specs.declared.study.RowKind.TheVariants.{Interval, Least, Most}
use Rattle.coord_model.specs.declared.weights.Weight.{Weight}
use Rattle.margin_rows.specs.Case.{Case, row_at}
use Rattle.margin_rows.specs.Demands.{fast_part, slow_part}
use Rattle.margin_rows.specs.Times.{time_at}
use Rattle.margin_rows.proofs.Summed.{chosen}
use Rattle.box_bound.specs.RelayParts.{backup_part, primary_part}

-- a row of a kind that asks for it counts in full
fast_whole : (kind : RowKind) (n : ℕ) → kind ≢ Least → fast_part kind n ≡ n
fast_whole Interval n other = refl
fast_whole Least n other = absurd (other refl)
fast_whole Most n other = refl

slow_whole : (kind : RowKind) (n : ℕ) → kind ≢ Most → slow_part kind n ≡ n
slow_whole Interval n other = refl
slow_whole Least n other = refl
slow_whole Most n other = absurd (other refl)

pub primary_is : (case : Case) (i step : ℕ) (w : Weight) (row : Row) (b : ℕ) → row ≡ row_at case w.row → row.primary ≡ i → row.kind ≢ Least → b ≡ (time_at case row.fault row.primary step).lower
    → w.weight * b ≡ primary_part case i step w
primary_is case i step w row b is same kind time =
    rw (time, sym is, sym same) (sym (chosen row.primary row.primary _ refl ∙ fast_whole row.kind (w.weight * (time_at case row.fault row.primary step).lower) kind))

pub backup_is : (case : Case) (i step : ℕ) (w : Weight) (row : Row) (b : ℕ) → row ≡ row_at case w.row → row.backup ≡ i → row.kind ≢ Most → b ≡ (time_at case row.fault row.backup step).upper
    → w.weight * b ≡ backup_part case i step w
backup_is case i step w row b is same kind time =
    rw (time, sym is, sym same) (sym (chosen row.backup row.backup _ refl ∙ slow_whole row.kind (w.weight * (time_at case row.fault row.backup step).upper) kind))
