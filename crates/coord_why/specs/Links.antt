-- Why a relay has at least a dial step with given pickups (ours): it has no lower one, or a row asks
-- for it.
use Rattle.std.specs.Prelude.{◌≡◌, ℕ, ◌<◌, Option, None, List, length, IsSomeAnd}
use Rattle.coord_model.specs.declared.study.RowKind.{RowKind}
use Rattle.coord_model.specs.declared.study.RowKind.TheVariants.{Interval, Least as LeastTime}
use Rattle.coord_why.specs.declared.link.Link.{Link}
use Rattle.coord_why.specs.declared.link.Reason.{Reason}
use Rattle.coord_why.specs.declared.link.Reason.TheVariants.{Floor, Least, Row as Waits}
use Rattle.margin_rows.specs.Box.{IsDialStep}
use Rattle.margin_rows.specs.Case.{Case, rows_in, row_at}
use Rattle.margin_rows.specs.Least.{IsLeastStep}

-- the number is that of a row of this kind, and the relay is its backup
pub record Names (case : Case) (kind : RowKind) (relay row : ℕ) : Type 0 where
  pub is_row : row < length (rows_in case)
  pub of_kind : (row_at case row).kind ≡ kind
  pub asks : (row_at case row).backup ≡ relay

-- the link comes first, at the first dial step of its relay
pub record IsFloor (case : Case) (before : Option Link) (link : Link) : Type 0 where
  pub first : before ≡ None
  pub lowest : link.step ≡ 0
  pub on_step : IsDialStep case link.relay 0

-- the link comes first, at the least step that loosely meets a least row of its relay; such a row
-- asks nothing of a primary, so that 0 stands for any step of it
pub record IsLeast (row : ℕ) (case : Case) (pickups : List ℕ) (before : Option Link)
    (link : Link) : Type 0 where
  pub first : before ≡ None
  pub names : Names case LeastTime link.relay row
  pub asked : IsLeastStep case pickups (row_at case row) 0 link.step

-- the link before is one of the primary of an interval row, and the step is the least that loosely
-- meets the row with the primary at the step of that link
pub record IsRow (row : ℕ) (case : Case) (pickups : List ℕ) (before : Option Link)
    (link : Link) : Type 0 where
  pub names : Names case Interval link.relay row
  pub rests : IsSomeAnd before (λ base. (base.relay ≡ (row_at case row).primary)
      × IsLeastStep case pickups (row_at case row) base.step link.step)

-- the reason of the link holds after the link before it
abbrev pub HoldsFor : Reason → Case → List ℕ → Option Link → Link → Type 0
HoldsFor Floor case pickups before link = IsFloor case before link
HoldsFor (Least row) case pickups before link = IsLeast row case pickups before link
HoldsFor (Waits row) case pickups before link = IsRow row case pickups before link

abbrev pub Holds : Case → List ℕ → Option Link → Link → Type 0
Holds case pickups before link = HoldsFor link.reason case pickups before link
