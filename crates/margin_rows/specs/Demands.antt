-- What a row asks for (ours): a coordination interval asks the backup to be slower than the primary, a least time asks
-- a relay to be slow, a greatest time asks it to be fast.
use Rattle.std.specs.Prelude.{ℕ, ℤ, pos, ◌*◌, ◌-ℤ◌}
use Rattle.coord_model.specs.Allowed.{cti_of}
use Rattle.coord_model.specs.Rows.{least_ms_of, most_ms_of}
use Rattle.coord_model.specs.StudyData.{StudyData}
use Rattle.coord_model.specs.declared.study.Row.{Row}
use Rattle.coord_model.specs.declared.study.RowKind.{RowKind}
use Rattle.coord_model.specs.declared.study.RowKind.TheVariants.{Interval, Least, Most}
use Rattle.margin_rows.specs.declared.demand.Demand.{Demand}

-- a row of this kind asks its backup to be slow: the backup of an interval, or the relay of a least time; then the
-- time counts, else it is 0
abbrev pub slow_part : RowKind → ℕ → ℕ
slow_part Interval time = time
slow_part Least time = time
slow_part Most time = 0

-- a row of this kind asks its primary to be fast: the primary of an interval, or the relay of a greatest time
abbrev pub fast_part : RowKind → ℕ → ℕ
fast_part Interval time = time
fast_part Least time = 0
fast_part Most time = time

-- the time by which the slow relay has to be slower: the pair's coordination interval or the least time
abbrev pub asked_ms : RowKind → StudyData → Row → ℕ
asked_ms Interval study row = cti_of study row.backup row.primary
asked_ms Least study row = least_ms_of study row.primary
asked_ms Most study row = 0

-- the time that the fast relay may take
abbrev pub granted_ms : RowKind → StudyData → Row → ℕ
granted_ms Interval study row = 0
granted_ms Least study row = 0
granted_ms Most study row = most_ms_of study row.primary

-- both in picoseconds
abbrev pub asked_ps : StudyData → Row → ℕ
asked_ps study row = asked_ms row.kind study row * 1000000000

abbrev pub granted_ps : StudyData → Row → ℕ
granted_ps study row = granted_ms row.kind study row * 1000000000

abbrev pub demand_of : StudyData → Row → Demand
demand_of study row = record { asked = asked_ps study row; granted = granted_ps study row }

-- the constant of a row: the interval, the least time, or the greatest time with its sign turned
unfoldable pub row_constant : StudyData → Row → ℤ
row_constant study row = pos (asked_ps study row) -ℤ pos (granted_ps study row)
