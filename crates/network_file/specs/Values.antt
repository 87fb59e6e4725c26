-- What the values of the network file's keys are read as (ours).
use Rattle.std.specs.Prelude.{ℕ, pos, negsuc, ◌&&◌, nat_le, Option, Some, None, Result, Ok, Err, if◌then◌else◌}
use Rattle.coord_model.specs.Name.{is_name}
use Rattle.coord_model.specs.declared.curve.CurveName.{CurveName}
use Rattle.coord_model.specs.declared.kinds.Key.{Key}
use Rattle.coord_model.specs.declared.kinds.Key.TheVariants.{Curve}
use Rattle.coord_model.specs.declared.kinds.NetKind.TheVariants.{Missing, WrongKind, OutOfRange, UnknownCurve}
use Rattle.coord_model.specs.declared.name.Name.{Name}
use Rattle.network_file.specs.declared.fault.NetFault.{NetFault}
use Rattle.network_file.specs.declared.fault.Place.{Place}
use Rattle.network_file.specs.Fault.{fault_at}
use Rattle.network_file.specs.Words.{word_of, curve_named}
use Rattle.toml.specs.Data.{Data, string, integer, Members, get_member}

-- what is read of a value that has to be there
abbrev pub given : {A : Type 0} → Place → Key → (Data → Result A NetFault) → Option Data → Result A NetFault
given place key read None = Err (fault_at place Missing key)
given place key read (Some value) = read value

-- what is read of a value that need not be there
abbrev pub given_or : {A : Type 0} → A → (Data → Result A NetFault) → Option Data → Result A NetFault
given_or default read None = Ok default
given_or default read (Some value) = read value

-- the value, where it is one, or a fault
abbrev pub some_or : {A : Type 0} → NetFault → Option A → Result A NetFault
some_or fault None = Err fault
some_or fault (Some x) = Ok x

-- a string as a name
unfoldable pub name_of : Place → Key → Data → Result Name NetFault
name_of place key (string text) = if is_name text then Ok text else Err (fault_at place OutOfRange key)
name_of place key _ = Err (fault_at place WrongKind key)

-- an integer as a number from low to high
unfoldable pub number_of : Place → Key → ℕ → ℕ → Data → Result ℕ NetFault
number_of place key low high (integer (pos n)) =
    if nat_le low n && nat_le n high then Ok n else Err (fault_at place OutOfRange key)
number_of place key low high (integer (negsuc n)) = Err (fault_at place OutOfRange key)
number_of place key low high _ = Err (fault_at place WrongKind key)

-- a string as a curve
unfoldable pub curve_of : Place → Data → Result CurveName NetFault
curve_of place (string text) = some_or (fault_at place UnknownCurve Curve) (curve_named text)
curve_of place _ = Err (fault_at place WrongKind Curve)

-- the name at the key
unfoldable pub name_at : Place → Key → Members → Result Name NetFault
name_at place key members = given place key (name_of place key) (get_member (word_of key) members)

-- the number at the key, from low to high
unfoldable pub number_at : Place → Key → ℕ → ℕ → Members → Result ℕ NetFault
number_at place key low high members = given place key (number_of place key low high) (get_member (word_of key) members)

-- the number at the key, from low to high, or the default where the key isn't there
unfoldable pub number_or : Place → Key → ℕ → ℕ → ℕ → Members → Result ℕ NetFault
number_or place key default low high members =
    given_or default (number_of place key low high) (get_member (word_of key) members)

-- the curve at the key curve
unfoldable pub curve_at : Place → Members → Result CurveName NetFault
curve_at place members = given place Curve (curve_of place) (get_member (word_of Curve) members)
