-- The words of the network file, and the format from which each key is there (ours).
use Rattle.std.specs.Prelude.{ℕ, nat_le, Bool, true, List, codes, Option, Some, None, if◌then◌else◌}
use Rattle.std.specs.Str.{bytes_eq}
use Rattle.coord_model.specs.declared.kinds.Key.{Key}
use Rattle.coord_model.specs.declared.kinds.Key.TheVariants.{Format, Study, Line, Relay, Fault, Exempt, Interval, CtiMs, Sense, Cap, LoadPercent, Name, From, To, Bus, Curve, CtPrimary, CtSecondary, PlugFirst, PlugStep, PlugCount, DialFirst, DialStep, DialCount, LoadAmps, LeastMs, MostMs, CustomK, CustomC, CustomJ, CustomH, Weight, Backup, Primary}
use Rattle.coord_model.specs.declared.curve.CurveName.{CurveName}
use Rattle.coord_model.specs.declared.curve.CurveName.TheVariants.{IecA, IecB, IecC, IeeeMi, IeeeVi, IeeeEi, Custom}

-- the word of a key
abbrev pub word_of : Key → List ℕ
word_of Format = codes "format"
word_of Study = codes "study"
word_of Line = codes "line"
word_of Relay = codes "relay"
word_of Fault = codes "fault"
word_of Exempt = codes "exempt"
word_of Interval = codes "interval"
word_of CtiMs = codes "cti_ms"
word_of Sense = codes "sense"
word_of Cap = codes "cap"
word_of LoadPercent = codes "load_percent"
word_of Name = codes "name"
word_of From = codes "from"
word_of To = codes "to"
word_of Bus = codes "bus"
word_of Curve = codes "curve"
word_of CtPrimary = codes "ct_primary"
word_of CtSecondary = codes "ct_secondary"
word_of PlugFirst = codes "plug_first"
word_of PlugStep = codes "plug_step"
word_of PlugCount = codes "plug_count"
word_of DialFirst = codes "dial_first"
word_of DialStep = codes "dial_step"
word_of DialCount = codes "dial_count"
word_of LoadAmps = codes "load_amps"
word_of LeastMs = codes "least_ms"
word_of MostMs = codes "most_ms"
word_of CustomK = codes "custom_k"
word_of CustomC = codes "custom_c"
word_of CustomJ = codes "custom_j"
word_of CustomH = codes "custom_h"
word_of Weight = codes "weight"
word_of Backup = codes "backup"
word_of Primary = codes "primary"

-- the format has the key
abbrev pub has_key : ℕ → Key → Bool
has_key format LeastMs = nat_le 2 format
has_key format MostMs = nat_le 2 format
has_key format Interval = nat_le 3 format
has_key format CustomK = nat_le 4 format
has_key format CustomC = nat_le 4 format
has_key format CustomJ = nat_le 4 format
has_key format CustomH = nat_le 4 format
has_key format key = true

-- the curve of the standards with this name
unfoldable pub curve_named : List ℕ → Option CurveName
curve_named name =
    if bytes_eq name (codes "iec-a") then Some IecA
    else if bytes_eq name (codes "iec-b") then Some IecB
    else if bytes_eq name (codes "iec-c") then Some IecC
    else if bytes_eq name (codes "ieee-mi") then Some IeeeMi
    else if bytes_eq name (codes "ieee-vi") then Some IeeeVi
    else if bytes_eq name (codes "ieee-ei") then Some IeeeEi
    else None

-- the name of a curve
abbrev pub curve_word : CurveName → List ℕ
curve_word IecA = codes "iec-a"
curve_word IecB = codes "iec-b"
curve_word IecC = codes "iec-c"
curve_word IeeeMi = codes "ieee-mi"
curve_word IeeeVi = codes "ieee-vi"
curve_word IeeeEi = codes "ieee-ei"
curve_word (Custom k4 c4 e h) = codes "custom"
