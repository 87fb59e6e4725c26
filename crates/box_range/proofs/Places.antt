-- The two relays of a row.
use Rattle.std.specs.List.{Contains}
use Rattle.std.proofs.Common.{◌≡◌, ℕ, ◌<◌, ◌⊎◌, inl, inr, length, arith, sym, subst}
use Rattle.std.proofs.lemmas.Option.{get_or_from_slice_get}
use Rattle.coord_model.specs.declared.study.Row.{Row}
use Rattle.coord_model.specs.declared.study.RowKind.{RowKind}
use Rattle.coord_model.specs.declared.study.RowKind.TheVariants.{Interval}
use Rattle.margin_rows.specs.Box.{Box, FitsBox}
use Rattle.margin_rows.specs.Case.{Case, row_at, rows_in}
use Rattle.margin_rows.proofs.Listed.{row_facts}
use Rattle.margin_rows.proofs.Placed.{found_listed}
use Rattle.margin_rows.proofs.RowKinds.{kind_cases}
use Rattle.box_range.specs.Kinds.{spans_of}
use Rattle.box_range.specs.Meeting.{Asks, HasRow, HasRelays}
use Rattle.box_range.specs.declared.kind.Kind.{Kind}
use Rattle.box_range.specs.declared.kind.Kind.TheVariants.{Pickup, Dial}
use Rattle.box_range.specs.declared.row.Part.TheVariants.{Backup, Primary}

pub listed : (case : Case) (number : ℕ) (row : Row) → HasRow case number row → Contains (rows_in case) row
listed case number row has = found_listed (rows_in case) number row has

-- the row with a number
pub row_is : (case : Case) (number : ℕ) (row : Row) → HasRow case number row → row_at case number ≡ row
row_is case number row has = get_or_from_slice_get (rows_in case) number row (record { kind = Interval; fault = 0; backup = 0; primary = 0 }) has

-- a row asks something of its backup, or else of its primary, which is the same relay
pub asks_backup : (case : Case) (row : Row) → Contains (rows_in case) row → Asks row.kind Backup ⊎ (Asks row.kind Primary × (row.backup ≡ row.primary))
asks_backup case row there = elim (kind_cases case row there) [
  | inl interval ↦ inl (subst (λ (k : RowKind). Asks k Backup) (sym interval.0) tt)
  | inr limit ↦ elim limit [
    | inl least ↦ inl (subst (λ (k : RowKind). Asks k Backup) (sym least.0) tt)
    | inr most ↦ inr (subst (λ (k : RowKind). Asks k Primary) (sym most.0) tt, most.1)
  ]
]

-- a row asks something of its primary, or else of its backup, which is the same relay
pub asks_primary : (case : Case) (row : Row) → Contains (rows_in case) row → Asks row.kind Primary ⊎ (Asks row.kind Backup × (row.backup ≡ row.primary))
asks_primary case row there = elim (kind_cases case row there) [
  | inl interval ↦ inl (subst (λ (k : RowKind). Asks k Primary) (sym interval.0) tt)
  | inr limit ↦ elim limit [
    | inl least ↦ inr (subst (λ (k : RowKind). Asks k Backup) (sym least.0) tt, least.1)
    | inr most ↦ inl (subst (λ (k : RowKind). Asks k Primary) (sym most.0) tt)
  ]
]

pub relay_counts : (case : Case) (box : Box) (row : Row) → FitsBox case box → Contains (rows_in case) row → HasRelays box row
relay_counts case box row fits there =
    let facts = row_facts case row there in
    record {
      backup = λ kind. counted case box row.backup kind fits facts.backup;
      primary = λ kind. counted case box row.primary kind fits facts.primary;
    }
  where
    counted : (case : Case) (box : Box) (relay : ℕ) (kind : Kind) → FitsBox case box → relay < length case.study.relays → relay < length (spans_of kind box)
    counted case box relay Pickup fits below = omega (arith, fits.pickups)
    counted case box relay Dial fits below = omega (arith, fits.dials)
