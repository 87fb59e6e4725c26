-- What is printed of a network file: tables that read again as what they were made of (ours).
use Rattle.std.specs.Prelude.{◌≡◌, ℕ, pos, ◌≤◌, true, List, Result, Ok, if◌then◌else◌}
use Rattle.std.specs.Cmp.Lexicographic.{slice_cmp}
use Rattle.std.specs.Ordering.{nat_cmp, match_ordering}
use Rattle.coord_model.specs.declared.curve.CurveName.{CurveName}
use Rattle.coord_model.specs.declared.curve.CurveName.TheVariants.{Custom}
use Rattle.coord_model.specs.declared.kinds.Key.{Key}
use Rattle.coord_model.specs.declared.kinds.Key.TheVariants.{CustomK, CustomC, CustomJ, CustomH}
use Rattle.network_file.specs.declared.fault.NetFault.{NetFault}
use Rattle.network_file.specs.declared.fault.Place.{Place}
use Rattle.network_file.specs.Words.{has_key, word_of}
use Rattle.toml.specs.Data.{Data, integer, Items, items_depth, items_have_valid_dates, Members, no_members, member, members_depth, members_have_valid_dates}

-- the members with this value at the key; keys stand in their order
abbrev pub put : List ℕ → Data → Members → Members
put key value no_members = member key value no_members
put key value (member first held more) =
    match_ordering (slice_cmp nat_cmp key first) (member key value (member first held more)) (member first value more)
    (member first held (put key value more))

-- the same of a key that the format has; one that it lacks is left out
abbrev pub put_known : ℕ → Key → Data → Members → Members
put_known format key value members =
    if has_key format key then put (word_of key) value members else members

-- the members with the constants of a curve that has its own
abbrev pub with_constants : ℕ → CurveName → Members → Members
with_constants format (Custom k4 c4 e h) members =
    put_known format CustomH (integer (pos h))
    (put_known format CustomJ (integer (pos e))
    (put_known format CustomC (integer (pos c4))
    (put_known format CustomK (integer (pos k4)) members)))
with_constants format named members = members

-- wherever the members stand, they are read as the entry
abbrev pub ReadsAs : {A : Type 0} → (Place → Members → Result A NetFault) → Members → A → Type 0
ReadsAs read members entry = (place : Place) → read place members ≡ Ok entry

-- the members nest at most this deep, and each date among them is one
pub record IsPlain (deepest : ℕ) (members : Members) : Type 0 where
  pub nested : members_depth members ≤ deepest
  pub dated : members_have_valid_dates members ≡ true

-- the same of the items of an array
pub record ArePlain (deepest : ℕ) (items : Items) : Type 0 where
  pub nested : items_depth items ≤ deepest
  pub dated : items_have_valid_dates items ≡ true
