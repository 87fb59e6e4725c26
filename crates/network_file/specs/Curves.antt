-- A curve of its own constants in a network file, from format 4 on (ours).
use Rattle.std.specs.Prelude.{ℕ, ◌*◌, ◌^◌, ◌&&◌, ◌==◌, nat_le, nat_lt, ⊤, Bool, true, false, List, [], ◌∷◌, codes, Option, Some, Result, Ok, if◌then◌else◌}
use Rattle.std.specs.Str.{bytes_eq}
use Rattle.coord_model.specs.CustomForm.{IsInRange, lowest}
use Rattle.coord_model.specs.Form.{form_with}
use Rattle.coord_model.specs.declared.curve.CurveName.{CurveName}
use Rattle.coord_model.specs.declared.curve.CurveName.TheVariants.{IecA, IecB, IecC, IeeeMi, IeeeVi, IeeeEi, Custom}
use Rattle.coord_model.specs.declared.kinds.Key.{Key}
use Rattle.coord_model.specs.declared.kinds.Key.TheVariants.{Curve, CustomK, CustomC, CustomJ, CustomH}
use Rattle.curve_custom.specs.Ends.{custom_enclosure}
use Rattle.network_file.specs.declared.fault.NetFault.{NetFault}
use Rattle.network_file.specs.declared.fault.Place.{Place}
use Rattle.network_file.specs.Fault.{◌>>=◌}
use Rattle.network_file.specs.Values.{curve_at, number_at}
use Rattle.network_file.specs.Words.{word_of}
use Rattle.toml.specs.Data.{Data, string, Members, get_member}

-- the keys of the constants
abbrev pub custom_keys : List Key
custom_keys = CustomK ∷ CustomC ∷ CustomJ ∷ CustomH ∷ []

-- the value is the name of a curve of its own constants, and the format has such curves
abbrev pub names_custom : ℕ → Option Data → Bool
names_custom format (Some (string text)) = bytes_eq text (codes "custom") && nat_le 4 format
names_custom format other = false

-- the relay's curve has constants of its own
abbrev pub is_custom_at : ℕ → Members → Bool
is_custom_at format members = names_custom format (get_member (word_of Curve) members)

-- the constants
unfoldable pub constants_at : Place → Members → Result CurveName NetFault
constants_at place members = do
  k4 ← number_at place CustomK 1 10000000 members
  c4 ← number_at place CustomC 0 1000000 members
  e ← number_at place CustomJ 1 4 members
  h ← number_at place CustomH 1 100 members
  Ok (Custom k4 c4 e h)

-- the key curve is there and names a curve that the format has
unfoldable pub known_curve : ℕ → Place → Members → Result (Unit {0}) NetFault
known_curve format place members =
    if is_custom_at format members then Ok tt else (do
      _ ← curve_at place members
      Ok tt)

-- the relay's curve, after its other keys
unfoldable pub relay_curve : ℕ → Place → Members → Result CurveName NetFault
relay_curve format place members = if is_custom_at format members then constants_at place members else curve_at place members

-- the constants of a curve are in their ranges
abbrev pub KeepsCurve : CurveName → Type 0
KeepsCurve IecA = ⊤
KeepsCurve IecB = ⊤
KeepsCurve IecC = ⊤
KeepsCurve IeeeMi = ⊤
KeepsCurve IeeeVi = ⊤
KeepsCurve IeeeEi = ⊤
KeepsCurve (Custom k4 c4 e h) = IsInRange (form_with k4 c4 e h)

-- the exponent is one that a curve of its own constants may have
abbrev pub has_exponent : CurveName → Bool
has_exponent (Custom k4 c4 e h) = if h == 1 then nat_le e 3 else nat_le (2 * e) (3 * h)
has_exponent named = true

-- at 1.05 times pickup the time is below 2^40 nanoseconds
abbrev pub has_small_time : CurveName → Bool
has_small_time (Custom k4 c4 e h) = nat_lt (custom_enclosure (form_with k4 c4 e h) lowest).upper (2 ^ 40)
has_small_time named = true
