-- The currents table (ours), over the records that CSV gives for its bytes.
use Rattle.std.specs.Prelude.{ℕ, ◌≡◌, ◌<◌, Bool, false, suc, ◌&&◌, ◌==◌, nat_lt, not, Option, Some, None, Result, Ok, Err, List, [], ◌∷◌, ◌++◌, length, IsTrue, find, slice_get, codes, if◌then◌else◌}
use Rattle.std.specs.List.{list_any}
use Rattle.std.specs.Str.{bytes_eq}
use Rattle.csv.specs.Reading.{default_config, records_from, strip_bom}
use Rattle.csv.specs.declared.parser.State.TheVariants as state
use Rattle.coord_model.specs.Rows.{fault_numbers, is_primary, stands_on}
use Rattle.coord_model.specs.StudyData.{StudyData}
use Rattle.coord_model.specs.declared.study.Current.{Current}
use Rattle.fault_table.specs.Entry.{Fields, go_on, next_entry, three_fields}
use Rattle.fault_table.specs.declared.fault.TableFault.{TableFault}
use Rattle.fault_table.specs.declared.fault.TableFault.TheVariants.{BadHeader, NoPrimary}

-- the entries of the records after the earlier ones
unfoldable pub entries_from : StudyData → List Current → List Fields → Result (List Current) TableFault
entries_from study earlier [] = Ok earlier
entries_from study earlier (fields ∷ rest) = go_on (next_entry study earlier fields) (λ entry. entries_from study (earlier ++ entry ∷ []) rest)

-- The next of the records gives the entry that was found, and those after it go on; where none was found there is none.
abbrev pub GoesOn : StudyData → List Current → (ℕ → List Fields) → (ℕ → List Fields) → Option Current → Type 0
GoesOn study earlier before after None = (n : ℕ) → entries_from study earlier (before (suc n)) ≡ Ok earlier
GoesOn study earlier before after (Some entry) =
    (n : ℕ) → entries_from study earlier (before (suc n)) ≡ entries_from study (earlier ++ entry ∷ []) (after n)

-- the entry is a current of a relay on the fault's line at the fault
abbrev pub feeds : StudyData → ℕ → Current → Bool
feeds study f entry =
    (entry.fault == f) && nat_lt 0 entry.amps && stands_on (slice_get study.faults f) (slice_get study.relays entry.relay)

-- each fault of the study has a primary: a relay on its line with a current at it
abbrev pub HavePrimaries : StudyData → List Current → Type 0
HavePrimaries study entries =
    (f : ℕ) → f < length study.faults → (p : ℕ) × IsTrue (is_primary study entries f p)

-- both entries are for one fault and relay
pub record AreForOne (one other : Current) : Type 0 where
  pub fault : one.fault ≡ other.fault
  pub relay : one.relay ≡ other.relay

-- the first fault at which no relay on its line has a current
unfoldable pub unfed_fault : StudyData → List Current → Option ℕ
unfed_fault study entries = find (λ f. not (list_any (feeds study f) entries)) (fault_numbers study)

-- the entries, where each fault has a primary current
abbrev pub fed : StudyData → List Current → Result (List Current) TableFault
fed study entries = elim (unfed_fault study entries) as (λ _. Result (List Current) TableFault) [ None ↦ Ok entries | Some f ↦ Err (NoPrimary f) ]

-- the record is the header `fault,relay,amps`
unfoldable pub is_header : Fields → Bool
is_header fields = elim (three_fields fields) as (λ _. Bool)
    [ None ↦ false | Some t ↦ bytes_eq t.0 (codes "fault") && bytes_eq t.1 (codes "relay") && bytes_eq t.2 (codes "amps") ]

-- the currents that records stand for, or their first fault
abbrev pub table_of : StudyData → List Fields → Result (List Current) TableFault
table_of study [] = Err BadHeader
table_of study (first ∷ rest) = if is_header first then go_on (entries_from study [] rest) (fed study) else Err BadHeader

-- the currents of a table's bytes, or their first fault: of more than 8,194 records the rest plays no part
unfoldable pub currents_of : StudyData → List ℕ → Result (List Current) TableFault
currents_of study bytes = table_of study (records_from default_config 8194 state.StartRecord (strip_bom bytes))
