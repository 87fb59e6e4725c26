-- Tables with known keys, and arrays (ours).
use Rattle.std.specs.Prelude.{ℕ, ◌==◌, nat_le, Bool, true, ◌&&◌, List, [], ◌∷◌, length, Option, Some, None, Result, Ok, Err, if◌then◌else◌}
use Rattle.std.specs.List.{list_any}
use Rattle.std.specs.Str.{bytes_eq}
use Rattle.coord_model.specs.declared.kinds.Key.{Key}
use Rattle.coord_model.specs.declared.kinds.NetKind.TheVariants.{Missing, WrongKind, UnknownKey}
use Rattle.coord_model.specs.declared.kinds.What.{What}
use Rattle.network_file.specs.declared.fault.NetFault.{NetFault}
use Rattle.network_file.specs.declared.fault.NetFault.TheVariants.{TooMany}
use Rattle.network_file.specs.declared.fault.Place.{Place}
use Rattle.network_file.specs.Fault.{◌>>=◌, demand, fault_at, fault_in}
use Rattle.network_file.specs.Words.{has_key, word_of}
use Rattle.toml.specs.Data.{Data, array, table, Items, no_items, item, Members, no_members, member, get_member}

-- the word is that of one of the keys, and the format has it
abbrev pub is_word_of : ℕ → List Key → List ℕ → Bool
is_word_of format keys text =
    list_any (λ key. has_key format key && bytes_eq text (word_of key)) keys

-- each key of the table is one of the keys, and the format has it
abbrev pub has_only : ℕ → List Key → Members → Bool
has_only format keys no_members = true
has_only format keys (member text value more) =
    is_word_of format keys text && has_only format keys more

-- a table has no key but these, as far as the format has them
unfoldable pub only : ℕ → Place → List Key → Members → Result (Unit {0}) NetFault
only format place keys members = demand (has_only format keys members) (fault_in place UnknownKey)

-- there are at most as many as the limit
unfoldable pub within : What → ℕ → ℕ → Result (Unit {0}) NetFault
within what limit count = demand (nat_le count limit) (TooMany what limit)

-- the items as a list
abbrev pub listed : Items → List Data
listed no_items = []
listed (item value more) = value ∷ listed more

-- an array's elements
abbrev pub elements_of : Place → Key → Data → Result (List Data) NetFault
elements_of top key (array items) = Ok (listed items)
elements_of top key _ = Err (fault_at top WrongKind key)

-- the elements of the array at the key; none where the key isn't there
abbrev pub elements_or_none : Place → Key → Option Data → Result (List Data) NetFault
elements_or_none top key None = Ok []
elements_or_none top key (Some value) = elements_of top key value

unfoldable pub elements_at : Place → Key → Members → Result (List Data) NetFault
elements_at top key members = elements_or_none top key (get_member (word_of key) members)

-- the elements of the array at the key, which has some
unfoldable pub some_elements_at : Place → Key → Members → Result (List Data) NetFault
some_elements_at top key members = do
  elements ← elements_at top key members
  if length elements == 0 then Err (fault_at top Missing key) else Ok elements

-- a value as a table
abbrev pub table_or : NetFault → Data → Result Members NetFault
table_or fault (table members) = Ok members
table_or fault _ = Err fault
