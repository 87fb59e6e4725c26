-- The tables that are printed read again as what they were made of.
use Rattle.std.specs.Prelude.{◌&&◌, ◌||◌, ◌==◌, nat_le, codes}
use Rattle.std.proofs.Common.{◌≡◌, ◌⊎◌, ℕ, pos, Bool, true, false, Some, Ok, refl, sym, subst, ap, ◌∙◌, inl, inr, arith}
use Rattle.std.proofs.lemmas.Bool.{cases_Bool}
use Rattle.std.proofs.lemmas.Bool.Decides.{nat_tests}
use Rattle.std.specs.Str.{bytes_eq}
use Rattle.coord_model.specs.Form.{form_with, is_custom}
use Rattle.coord_model.specs.CustomForm.{IsInRange}
use Rattle.coord_model.specs.PartLimits.{IsBetween}
use Rattle.coord_model.specs.Name.{IsName}
use Rattle.coord_model.specs.declared.curve.CurveName.{CurveName}
use Rattle.coord_model.specs.declared.curve.CurveName.TheVariants.{IecA, IecB, IecC, IeeeMi, IeeeVi, IeeeEi, Custom}
use Rattle.coord_model.specs.declared.kinds.Key.{Key}
use Rattle.coord_model.specs.declared.kinds.Key.TheVariants as key
use Rattle.coord_model.specs.declared.name.Name.{Name}
use Rattle.network_file.specs.Entries.{study_entry, line_entry, fault_entry, exempt_entry, interval_entry}
use Rattle.network_file.specs.EntryLimits.{StudyKeeps, RelayKeeps, RelaySuits, FaultKeeps, IntervalKeeps}
use Rattle.network_file.specs.Printed.{put, put_known, with_constants, IsPlain, ReadsAs}
use Rattle.network_file.specs.RelayEntries.{secondary_at, relay_entry}
use Rattle.network_file.specs.Curves.{KeepsCurve, constants_at, known_curve, relay_curve}
use Rattle.network_file.specs.Tables.{only}
use Rattle.network_file.specs.Values.{name_of, number_of, curve_of, name_at, number_at, number_or, curve_at}
use Rattle.network_file.specs.Words.{word_of, curve_named, curve_word}
use Rattle.network_file.specs.declared.entries.ExemptEntry.{ExemptEntry}
use Rattle.network_file.specs.declared.entries.FaultEntry.{FaultEntry}
use Rattle.network_file.specs.declared.entries.IntervalEntry.{IntervalEntry}
use Rattle.network_file.specs.declared.entries.LineEntry.{LineEntry}
use Rattle.network_file.specs.declared.entries.RelayEntry.{RelayEntry}
use Rattle.network_file.specs.declared.entries.StudyEntry.{StudyEntry}
use Rattle.network_file.specs.declared.fault.Place.{Place}
use Rattle.network_file.proofs.Putting.{constants_plain, put_known_plain}
use Rattle.toml.specs.Data.{string, integer, Members, no_members, get_member}

-- a name, a number and a curve
name_reads : (place : Place) (key : Key) (name : Name) → IsName name → name_of place key (string name) ≡ Ok name
unfolding name_of
name_reads place key name is = rw is

number_reads : (place : Place) (key : Key) (low n high : ℕ) → IsBetween low n high → number_of place key low high (integer (pos n)) ≡ Ok n
unfolding number_of
number_reads place key low n high between =
    let within : (nat_le low n && nat_le n high) ≡ true = grind (arith, nat_tests) in
    rw within

curve_reads : (place : Place) (curve : CurveName) → is_custom curve ≡ false → curve_of place (string (curve_word curve)) ≡ Ok curve
unfolding curve_of curve_named
curve_reads place IecA named = refl
curve_reads place IecB named = refl
curve_reads place IecC named = refl
curve_reads place IeeeMi named = refl
curve_reads place IeeeVi named = refl
curve_reads place IeeeEi named = refl
curve_reads place (Custom k4 c4 e h) named = absurd (let wrong = named in cc)

-- the word of a curve of the standards is not that of one with its own constants
not_custom : (curve : CurveName) → is_custom curve ≡ false → bytes_eq (curve_word curve) (codes "custom") ≡ false
not_custom IecA named = refl
not_custom IecB named = refl
not_custom IecC named = refl
not_custom IeeeMi named = refl
not_custom IeeeVi named = refl
not_custom IeeeEi named = refl
not_custom (Custom k4 c4 e h) named = absurd (let wrong = named in cc)

-- a rated secondary current
rated_between : (amps : ℕ) → (amps ≡ 1) ⊎ (amps ≡ 5) → IsBetween 1 amps 5
rated_between amps (inl one) = record { at_least = omega arith; at_most = omega arith }
rated_between amps (inr five) = record { at_least = omega arith; at_most = omega arith }

rated_passes : (amps : ℕ) → (amps ≡ 1) ⊎ (amps ≡ 5) → ((amps == 1) || (amps == 5)) ≡ true
rated_passes amps (inl one) = grind (arith, nat_tests)
rated_passes amps (inr five) = grind (arith, nat_tests)

secondary_reads : (place : Place) (ms : Members) (amps : ℕ) → (amps ≡ 1) ⊎ (amps ≡ 5)
    → get_member (word_of key.CtSecondary) ms ≡ Some (integer (pos amps)) → secondary_at place ms ≡ Ok amps
unfolding secondary_at number_at
secondary_reads place ms amps rated there =
    rw (there, number_reads place key.CtSecondary 1 amps 5 (rated_between amps rated), rated_passes amps rated)

-- the study
abbrev pub study_members : StudyEntry → Members
study_members entry =
    put (word_of key.LoadPercent) (integer (pos entry.load_percent))
    (put (word_of key.Cap) (integer (pos entry.cap))
    (put (word_of key.Sense) (integer (pos entry.sense))
    (put (word_of key.CtiMs) (integer (pos entry.cti_ms)) no_members)))

pub study_reads : (format : ℕ) (entry : StudyEntry) → StudyKeeps entry → ReadsAs (study_entry format) (study_members entry) entry
unfolding study_entry number_at number_or only
study_reads format entry keeps place =
    rw (
      number_reads place key.CtiMs 1 entry.cti_ms 10000 keeps.cti_ms,
      number_reads place key.Sense 105 entry.sense 500 keeps.sense,
      number_reads place key.Cap 5 entry.cap 30 keeps.cap,
      number_reads place key.LoadPercent 100 entry.load_percent 300 keeps.load_percent,
    )

-- a line
abbrev pub line_members : LineEntry → Members
line_members entry =
    put (word_of key.To) (string entry.to)
    (put (word_of key.From) (string entry.from)
    (put (word_of key.Name) (string entry.name) no_members))

pub line_reads : (format : ℕ) (entry : LineEntry) → IsName entry.name → IsName entry.from → IsName entry.to → ReadsAs (line_entry format) (line_members entry) entry
unfolding line_entry name_at only
line_reads format entry name from to place =
    rw (
      name_reads place key.Name entry.name name,
      name_reads place key.From entry.from from,
      name_reads place key.To entry.to to,
    )

-- a relay
abbrev untimed_members : RelayEntry → Members
untimed_members entry =
    put (word_of key.LoadAmps) (integer (pos entry.load_amps))
    (put (word_of key.DialCount) (integer (pos entry.dial_count))
    (put (word_of key.DialStep) (integer (pos entry.dial_step))
    (put (word_of key.DialFirst) (integer (pos entry.dial_first))
    (put (word_of key.PlugCount) (integer (pos entry.plug_count))
    (put (word_of key.PlugStep) (integer (pos entry.plug_step))
    (put (word_of key.PlugFirst) (integer (pos entry.plug_first))
    (put (word_of key.CtSecondary) (integer (pos entry.ct_secondary))
    (put (word_of key.CtPrimary) (integer (pos entry.ct_primary))
    (put (word_of key.Curve) (string (curve_word entry.curve))
    (put (word_of key.Bus) (string entry.bus)
    (put (word_of key.Line) (string entry.line)
    (put (word_of key.Name) (string entry.name) no_members))))))))))))

abbrev timed_members : RelayEntry → Members
timed_members entry =
    put (word_of key.MostMs) (integer (pos entry.most_ms))
    (put (word_of key.LeastMs) (integer (pos entry.least_ms)) (untimed_members entry))

abbrev pub relay_members : ℕ → RelayEntry → Members
relay_members format entry =
    with_constants format entry.curve
    (put_known format key.MostMs (integer (pos entry.most_ms))
    (put_known format key.LeastMs (integer (pos entry.least_ms)) (untimed_members entry)))

-- a relay whose least and greatest time were taken for these
abbrev with_times : RelayEntry → ℕ → ℕ → RelayEntry
with_times entry least most = record {
  name = entry.name;
  line = entry.line;
  bus = entry.bus;
  curve = entry.curve;
  ct_primary = entry.ct_primary;
  ct_secondary = entry.ct_secondary;
  plug_first = entry.plug_first;
  plug_step = entry.plug_step;
  plug_count = entry.plug_count;
  dial_first = entry.dial_first;
  dial_step = entry.dial_step;
  dial_count = entry.dial_count;
  load_amps = entry.load_amps;
  least_ms = least;
  most_ms = most;
}

module _ (format : ℕ) (entry : RelayEntry) (name : IsName entry.name) (line : IsName entry.line) (bus : IsName entry.bus) (keeps : RelayKeeps entry) (named : is_custom entry.curve ≡ false) (place : Place) where
  timed_reads : nat_le 2 format ≡ true → relay_entry format place (timed_members entry) ≡ Ok entry
  unfolding relay_entry name_at number_at number_or curve_at only known_curve relay_curve
  timed_reads has =
      rw (
        not_custom entry.curve named,
        has,
        name_reads place key.Name entry.name name,
        name_reads place key.Line entry.line line,
        name_reads place key.Bus entry.bus bus,
        curve_reads place entry.curve named,
        number_reads place key.CtPrimary 1 entry.ct_primary 10000 keeps.ct_primary,
        secondary_reads place (timed_members entry) entry.ct_secondary keeps.ct_secondary refl,
        number_reads place key.PlugFirst 1 entry.plug_first 10000 keeps.plug_first,
        number_reads place key.PlugStep 1 entry.plug_step 10000 keeps.plug_step,
        number_reads place key.PlugCount 1 entry.plug_count 64 keeps.plug_count,
        number_reads place key.DialFirst 1 entry.dial_first 15000 keeps.dial_first,
        number_reads place key.DialStep 1 entry.dial_step 15000 keeps.dial_step,
        number_reads place key.DialCount 1 entry.dial_count 4000 keeps.dial_count,
        number_reads place key.LoadAmps 0 entry.load_amps 100000 keeps.load_amps,
        number_reads place key.LeastMs 0 entry.least_ms 100000 keeps.least_ms,
        number_reads place key.MostMs 0 entry.most_ms 20000000 keeps.most_ms,
      )

  untimed_reads : relay_entry format place (untimed_members entry) ≡ Ok (with_times entry 0 0)
  unfolding relay_entry name_at number_at number_or curve_at only known_curve relay_curve
  untimed_reads =
      rw (
        not_custom entry.curve named,
        name_reads place key.Name entry.name name,
        name_reads place key.Line entry.line line,
        name_reads place key.Bus entry.bus bus,
        curve_reads place entry.curve named,
        number_reads place key.CtPrimary 1 entry.ct_primary 10000 keeps.ct_primary,
        secondary_reads place (untimed_members entry) entry.ct_secondary keeps.ct_secondary refl,
        number_reads place key.PlugFirst 1 entry.plug_first 10000 keeps.plug_first,
        number_reads place key.PlugStep 1 entry.plug_step 10000 keeps.plug_step,
        number_reads place key.PlugCount 1 entry.plug_count 64 keeps.plug_count,
        number_reads place key.DialFirst 1 entry.dial_first 15000 keeps.dial_first,
        number_reads place key.DialStep 1 entry.dial_step 15000 keeps.dial_step,
        number_reads place key.DialCount 1 entry.dial_count 4000 keeps.dial_count,
        number_reads place key.LoadAmps 0 entry.load_amps 100000 keeps.load_amps,
      )

-- a curve of the standards has no constants to print
no_constants : (format : ℕ) (curve : CurveName) (ms : Members) → is_custom curve ≡ false → with_constants format curve ms ≡ ms
no_constants format IecA ms named = refl
no_constants format IecB ms named = refl
no_constants format IecC ms named = refl
no_constants format IeeeMi ms named = refl
no_constants format IeeeVi ms named = refl
no_constants format IeeeEi ms named = refl
no_constants format (Custom k4 c4 e h) ms named = absurd (let wrong = named in cc)

named_reads : (format : ℕ) (entry : RelayEntry) → IsName entry.name → IsName entry.line → IsName entry.bus → RelaySuits format entry → is_custom entry.curve ≡ false
    → ReadsAs (relay_entry format) (relay_members format entry) entry
named_reads format entry name line bus suits named place =
    rw (no_constants format entry.curve _ named) (
    elim (cases_Bool (nat_le 2 format)) [
      | inl has ↦ rw has (timed_reads format entry name line bus suits.keeps named place has)
      | inr lacks ↦
          let none = suits.no_times (grind (arith, nat_tests)) in
          rw lacks (untimed_reads format entry name line bus suits.keeps named place
          ∙ ap (λ n. Ok (with_times entry n 0)) (sym none.0) ∙ ap (λ n. Ok (with_times entry entry.least_ms n)) (sym none.1))
    ])

-- a relay with another curve
abbrev with_curve : RelayEntry → CurveName → RelayEntry
with_curve entry curve = record {
  name = entry.name;
  line = entry.line;
  bus = entry.bus;
  curve = curve;
  ct_primary = entry.ct_primary;
  ct_secondary = entry.ct_secondary;
  plug_first = entry.plug_first;
  plug_step = entry.plug_step;
  plug_count = entry.plug_count;
  dial_first = entry.dial_first;
  dial_step = entry.dial_step;
  dial_count = entry.dial_count;
  load_amps = entry.load_amps;
  least_ms = entry.least_ms;
  most_ms = entry.most_ms;
}

abbrev custom_members : RelayEntry → ℕ → ℕ → ℕ → ℕ → Members
custom_members entry k4 c4 e h =
    put (word_of key.CustomH) (integer (pos h))
    (put (word_of key.CustomJ) (integer (pos e))
    (put (word_of key.CustomC) (integer (pos c4))
    (put (word_of key.CustomK) (integer (pos k4)) (timed_members (with_curve entry (Custom k4 c4 e h))))))

module _ (format : ℕ) (entry : RelayEntry) (name : IsName entry.name) (line : IsName entry.line) (bus : IsName entry.bus) (keeps : RelayKeeps entry) (place : Place) where
  custom_reads : (k4 c4 e h : ℕ) → IsInRange (form_with k4 c4 e h) → nat_le 4 format ≡ true → nat_le 2 format ≡ true
      → relay_entry format place (custom_members entry k4 c4 e h) ≡ Ok (with_curve entry (Custom k4 c4 e h))
  unfolding relay_entry name_at number_at number_or curve_at only known_curve relay_curve constants_at
  custom_reads k4 c4 e h range has_custom has =
      rw (
        has_custom,
        has_custom,
        has,
        name_reads place key.Name entry.name name,
        name_reads place key.Line entry.line line,
        name_reads place key.Bus entry.bus bus,
        number_reads place key.CtPrimary 1 entry.ct_primary 10000 keeps.ct_primary,
        secondary_reads place (custom_members entry k4 c4 e h) entry.ct_secondary keeps.ct_secondary refl,
        number_reads place key.PlugFirst 1 entry.plug_first 10000 keeps.plug_first,
        number_reads place key.PlugStep 1 entry.plug_step 10000 keeps.plug_step,
        number_reads place key.PlugCount 1 entry.plug_count 64 keeps.plug_count,
        number_reads place key.DialFirst 1 entry.dial_first 15000 keeps.dial_first,
        number_reads place key.DialStep 1 entry.dial_step 15000 keeps.dial_step,
        number_reads place key.DialCount 1 entry.dial_count 4000 keeps.dial_count,
        number_reads place key.LoadAmps 0 entry.load_amps 100000 keeps.load_amps,
        number_reads place key.LeastMs 0 entry.least_ms 100000 keeps.least_ms,
        number_reads place key.MostMs 0 entry.most_ms 20000000 keeps.most_ms,
        number_reads place key.CustomK 1 k4 10000000 (record { at_least = range.some_k; at_most = range.k4 }),
        number_reads place key.CustomC 0 c4 1000000 (record { at_least = omega arith; at_most = range.c4 }),
        number_reads place key.CustomJ 1 e 4 (record { at_least = range.some_e; at_most = range.e }),
        number_reads place key.CustomH 1 h 100 (record { at_least = range.some_h; at_most = range.h }),
      )

not_false : (b : Bool) → (b ≡ false → ⊥) → b ≡ true
not_false true h = refl
not_false false h = absurd (h refl)

pub relay_reads : (format : ℕ) (entry : RelayEntry) → IsName entry.name → IsName entry.line → IsName entry.bus → RelaySuits format entry
    → ReadsAs (relay_entry format) (relay_members format entry) entry
relay_reads format entry name line bus suits place = go entry.curve refl
  where
    named_go : is_custom entry.curve ≡ false → relay_entry format place (relay_members format entry) ≡ Ok entry
    named_go named = named_reads format entry name line bus suits named place

    go : (curve : CurveName) → entry.curve ≡ curve → relay_entry format place (relay_members format entry) ≡ Ok entry
    go IecA is = named_go (ap is_custom is)
    go IecB is = named_go (ap is_custom is)
    go IecC is = named_go (ap is_custom is)
    go IeeeMi is = named_go (ap is_custom is)
    go IeeeVi is = named_go (ap is_custom is)
    go IeeeEi is = named_go (ap is_custom is)
    go (Custom k4 c4 e h) is =
        let has_custom : nat_le 4 format ≡ true = not_false (nat_le 4 format) (λ lacks.
        let wrong : true ≡ false = ap is_custom (sym is) ∙ suits.named (grind (arith, nat_tests)) in cc) in
        let has : nat_le 2 format ≡ true = grind (arith, nat_tests) in
        let range : IsInRange (form_with k4 c4 e h) = subst KeepsCurve is suits.keeps.curve in
        let members : relay_members format entry ≡ custom_members entry k4 c4 e h =
        ap (λ c. relay_members format (with_curve entry c)) is ∙ rw (has_custom, has) refl in
        ap (relay_entry format place) members ∙ custom_reads format entry name line bus suits.keeps place k4 c4 e h range has_custom has
        ∙ ap (λ c. Ok (with_curve entry c)) (sym is)

pub relay_plain : (format : ℕ) (entry : RelayEntry) → IsPlain 0 (relay_members format entry)
relay_plain format entry =
    constants_plain format entry.curve _
    (put_known_plain format key.MostMs entry.most_ms _
    (put_known_plain format key.LeastMs entry.least_ms (untimed_members entry) (record { nested = omega arith; dated = refl })))

-- a fault
abbrev pub fault_members : FaultEntry → Members
fault_members entry =
    put (word_of key.Weight) (integer (pos entry.weight))
    (put (word_of key.Line) (string entry.line)
    (put (word_of key.Name) (string entry.name) no_members))

pub fault_reads : (format : ℕ) (entry : FaultEntry) → IsName entry.name → IsName entry.line → FaultKeeps entry → ReadsAs (fault_entry format) (fault_members entry) entry
unfolding fault_entry name_at number_or only
fault_reads format entry name line keeps place =
    rw (
      name_reads place key.Name entry.name name,
      name_reads place key.Line entry.line line,
      number_reads place key.Weight 1 entry.weight 1000 keeps,
    )

-- an exempt pair
abbrev pub exempt_members : ExemptEntry → Members
exempt_members entry =
    put (word_of key.Primary) (string entry.primary)
    (put (word_of key.Backup) (string entry.backup) no_members)

pub exempt_reads : (format : ℕ) (entry : ExemptEntry) → IsName entry.backup → IsName entry.primary → ReadsAs (exempt_entry format) (exempt_members entry) entry
unfolding exempt_entry name_at only
exempt_reads format entry backup primary place =
    rw (
      name_reads place key.Backup entry.backup backup,
      name_reads place key.Primary entry.primary primary,
    )

-- an interval
abbrev pub interval_members : IntervalEntry → Members
interval_members entry =
    put (word_of key.CtiMs) (integer (pos entry.cti_ms))
    (put (word_of key.Primary) (string entry.primary)
    (put (word_of key.Backup) (string entry.backup) no_members))

pub interval_reads : (format : ℕ) (entry : IntervalEntry) → IsName entry.backup → IsName entry.primary → IntervalKeeps entry → ReadsAs (interval_entry format) (interval_members entry) entry
unfolding interval_entry name_at number_at only
interval_reads format entry backup primary keeps place =
    rw (
      name_reads place key.Backup entry.backup backup,
      name_reads place key.Primary entry.primary primary,
      number_reads place key.CtiMs 1 entry.cti_ms 10000 keeps,
    )
