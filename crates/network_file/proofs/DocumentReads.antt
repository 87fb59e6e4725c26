-- The document that is printed reads again as what it was made of.
use Rattle.std.specs.Prelude.{◌&&◌, ◌==◌, nat_le}
use Rattle.std.proofs.Common.{◌≡◌, ℕ, ◌≤◌, List, [], pos, true, false, map, length, Some, None, Result, Ok, refl, sym, ap, ◌∙◌, inl, inr, arith}
use Rattle.std.proofs.lemmas.Bool.{cases_Bool}
use Rattle.std.proofs.lemmas.Bool.Decides.{nat_tests}
use Rattle.std.proofs.lemmas.List.{length-map}
use Rattle.coord_model.specs.PartLimits.{IsBetween}
use Rattle.coord_model.specs.declared.kinds.Key.TheVariants as key
use Rattle.coord_model.specs.declared.kinds.TableName.TheVariants as tables
use Rattle.network_file.specs.Elements.{study_place, entries_of, lines_at, relays_at, faults_at, exempt_at, intervals_at}
use Rattle.network_file.specs.Entries.{study_entry, line_entry, fault_entry, exempt_entry, interval_entry}
use Rattle.network_file.specs.RelayEntries.{relay_entry}
use Rattle.network_file.specs.EntryLimits.{IntervalsSuit, ToldKeeps}
use Rattle.network_file.specs.Fault.{each_after}
use Rattle.network_file.specs.Printed.{put, put_known, ReadsAs}
use Rattle.network_file.specs.Tables.{only, within, listed, elements_at, some_elements_at}
use Rattle.network_file.specs.Told.{ToldData, study_at, told_in}
use Rattle.network_file.specs.Values.{number_of, number_at}
use Rattle.network_file.specs.Words.{word_of}
use Rattle.network_file.specs.declared.entries.ExemptEntry.{ExemptEntry}
use Rattle.network_file.specs.declared.entries.FaultEntry.{FaultEntry}
use Rattle.network_file.specs.declared.entries.IntervalEntry.{IntervalEntry}
use Rattle.network_file.specs.declared.entries.LineEntry.{LineEntry}
use Rattle.network_file.specs.declared.entries.RelayEntry.{RelayEntry}
use Rattle.network_file.proofs.ItemLists.{listed_view}
use Rattle.network_file.specs.declared.fault.NetFault.{NetFault}
use Rattle.network_file.specs.declared.fault.Place.{Place}
use Rattle.coord_model.specs.declared.kinds.TableName.{TableName}
use Rattle.toml.specs.View.{view, items_view}
use Rattle.toml.specs.declared.value.Value.{Value}
use Rattle.toml.specs.Data.{array, table, integer, Items, Members, no_members, get_member}

at_most : (n limit : ℕ) → n ≤ limit → nat_le n limit ≡ true
at_most n limit h = grind (arith, nat_tests)

not_none : (n : ℕ) → 1 ≤ n → (n == 0) ≡ false
not_none n h = grind (arith, nat_tests)

module _ (format : ℕ) (members : Members) (items : Items) where
  lines_read : (entries : List LineEntry) → get_member (word_of key.Line) members ≡ Some (array items)
      → IsBetween 1 (length (listed items)) 64 → entries_of (line_entry format) tables.Line (listed items) ≡ Ok entries → lines_at format members ≡ Ok entries
  unfolding lines_at some_elements_at elements_at within
  lines_read entries there count reads =
      rw (there, not_none (length (listed items)) count.at_least, at_most (length (listed items)) 64 count.at_most, reads)

  relays_read : (entries : List RelayEntry) → get_member (word_of key.Relay) members ≡ Some (array items)
      → IsBetween 1 (length (listed items)) 96 → entries_of (relay_entry format) tables.Relay (listed items) ≡ Ok entries → relays_at format members ≡ Ok entries
  unfolding relays_at some_elements_at elements_at within
  relays_read entries there count reads =
      rw (there, not_none (length (listed items)) count.at_least, at_most (length (listed items)) 96 count.at_most, reads)

  faults_read : (entries : List FaultEntry) → get_member (word_of key.Fault) members ≡ Some (array items)
      → length (listed items) ≤ 256 → entries_of (fault_entry format) tables.Fault (listed items) ≡ Ok entries → faults_at format members ≡ Ok entries
  unfolding faults_at elements_at within
  faults_read entries there count reads = rw (there, at_most (length (listed items)) 256 count, reads)

  exempt_read : (entries : List ExemptEntry) → get_member (word_of key.Exempt) members ≡ Some (array items)
      → length (listed items) ≤ 1024 → entries_of (exempt_entry format) tables.Exempt (listed items) ≡ Ok entries → exempt_at format members ≡ Ok entries
  unfolding exempt_at elements_at within
  exempt_read entries there count reads = rw (there, at_most (length (listed items)) 1024 count, reads)

  intervals_read : (entries : List IntervalEntry) → get_member (word_of key.Interval) members ≡ Some (array items)
      → length (listed items) ≤ 1024 → entries_of (interval_entry format) tables.Interval (listed items) ≡ Ok entries → intervals_at format members ≡ Ok entries
  unfolding intervals_at elements_at within
  intervals_read entries there count reads = rw (there, at_most (length (listed items)) 1024 count, reads)

-- no intervals are read where the key isn't there
none_read : (format : ℕ) (members : Members) → get_member (word_of key.Interval) members ≡ None → intervals_at format members ≡ Ok []
unfolding intervals_at elements_at within each_after
none_read format members none = rw none refl

-- the items of an array that is read
pub array_reads : {E : Type 0} (read : Place → Members → Result E NetFault) (kind : TableName) (values : List Value) (slice entries : List E)
    → slice ≡ entries → entries_of read kind (map view values) ≡ Ok slice → entries_of read kind (listed (items_view values)) ≡ Ok entries
array_reads read kind values slice entries same reads = rw (listed_view values, ← same) reads

pub array_count : {E : Type 0} (values : List Value) (slice entries : List E)
    → slice ≡ entries → length values ≡ length slice → length (listed (items_view values)) ≡ length entries
array_count values slice entries same count = rw (listed_view values, ← same) (length-map values view ∙ count)

-- the members that are printed of what is told, with these for its tables
module _ (format : ℕ) (inner : Members) (line_items relay_items fault_items exempt_items : Items) where
  abbrev first_members : Members
  first_members =
      put (word_of key.Exempt) (array exempt_items)
      (put (word_of key.Fault) (array fault_items)
      (put (word_of key.Relay) (array relay_items)
      (put (word_of key.Line) (array line_items)
      (put (word_of key.Study) (table inner)
      (put (word_of key.Format) (integer (pos format)) no_members)))))

  abbrev timed_members : Items → Members
  timed_members interval_items = put (word_of key.Interval) (array interval_items) first_members

  abbrev pub document_members : Items → Members
  document_members interval_items = put_known format key.Interval (array interval_items) first_members

module _ (inner : Members) (line_items relay_items fault_items exempt_items interval_items : Items) (told : ToldData) where
  -- the tables read as what they were made of
  pub record TablesRead : Type 0 where
    pub study : ReadsAs (study_entry told.format) inner told.study
    pub lines : entries_of (line_entry told.format) tables.Line (listed line_items) ≡ Ok told.lines
    pub line_count : length (listed line_items) ≡ length told.lines
    pub relays : entries_of (relay_entry told.format) tables.Relay (listed relay_items) ≡ Ok told.relays
    pub relay_count : length (listed relay_items) ≡ length told.relays
    pub faults : entries_of (fault_entry told.format) tables.Fault (listed fault_items) ≡ Ok told.faults
    pub fault_count : length (listed fault_items) ≡ length told.faults
    pub exempt : entries_of (exempt_entry told.format) tables.Exempt (listed exempt_items) ≡ Ok told.exempt
    pub exempt_count : length (listed exempt_items) ≡ length told.exempt
    pub intervals : entries_of (interval_entry told.format) tables.Interval (listed interval_items) ≡ Ok told.intervals
    pub interval_count : length (listed interval_items) ≡ length told.intervals

  -- what is told, with these intervals
  abbrev with_intervals : List IntervalEntry → ToldData
  with_intervals intervals = record {
    format = told.format;
    study = told.study;
    lines = told.lines;
    relays = told.relays;
    faults = told.faults;
    exempt = told.exempt;
    intervals = intervals;
  }

  format_is_one : ToldKeeps told → (nat_le 1 told.format && nat_le told.format 4) ≡ true
  format_is_one keeps =
      let between : IsBetween 1 told.format 4 = keeps.format in
      grind (arith, nat_tests)

  timed_reads : ToldKeeps told → TablesRead → nat_le 3 told.format ≡ true
      → told_in (timed_members told.format inner line_items relay_items fault_items exempt_items interval_items) ≡ Ok told
  unfolding told_in study_at number_at number_of only
  timed_reads keeps read has =
      let members = timed_members told.format inner line_items relay_items fault_items exempt_items interval_items in
      rw (
        format_is_one keeps,
        has,
        read.study study_place,
        lines_read told.format members line_items told.lines refl (rw read.line_count keeps.line_count) read.lines,
        relays_read told.format members relay_items told.relays refl (rw read.relay_count keeps.relay_count) read.relays,
        faults_read told.format members fault_items told.faults refl (rw read.fault_count keeps.fault_count) read.faults,
        exempt_read told.format members exempt_items told.exempt refl (rw read.exempt_count keeps.exempt_count) read.exempt,
        intervals_read told.format members interval_items told.intervals refl (rw read.interval_count keeps.interval_count) read.intervals,
      )

  untimed_reads : ToldKeeps told → TablesRead
      → told_in (first_members told.format inner line_items relay_items fault_items exempt_items) ≡ Ok (with_intervals [])
  unfolding told_in study_at number_at number_of only
  untimed_reads keeps read =
      let members = first_members told.format inner line_items relay_items fault_items exempt_items in
      rw (
        format_is_one keeps,
        read.study study_place,
        lines_read told.format members line_items told.lines refl (rw read.line_count keeps.line_count) read.lines,
        relays_read told.format members relay_items told.relays refl (rw read.relay_count keeps.relay_count) read.relays,
        faults_read told.format members fault_items told.faults refl (rw read.fault_count keeps.fault_count) read.faults,
        exempt_read told.format members exempt_items told.exempt refl (rw read.exempt_count keeps.exempt_count) read.exempt,
        none_read told.format members refl,
      )

  pub told_reads : ToldKeeps told → IntervalsSuit told → TablesRead
      → told_in (document_members told.format inner line_items relay_items fault_items exempt_items interval_items) ≡ Ok told
  told_reads keeps suits read =
      elim (cases_Bool (nat_le 3 told.format)) [
        | inl has ↦ rw has (timed_reads keeps read has)
        | inr lacks ↦
            let none : told.intervals ≡ [] = suits (grind (arith, nat_tests)) in
            rw lacks (untimed_reads keeps read ∙ ap (λ intervals. Ok (with_intervals intervals)) (sym none))
      ]
