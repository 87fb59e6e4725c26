-- A record of the currents table (ours): a fault's name, a relay's name and whole primary amperes.
use Rattle.std.specs.Prelude.{ℕ, ◌+◌, ◌-◌, ◌*◌, Bool, ◌&&◌, ◌==◌, nat_le, nat_lt, Option, Some, None, Result, Ok, Err, List, [], ◌∷◌, length, fold, position, if◌then◌else◌}
use Rattle.std.specs.List.{list_all, list_any}
use Rattle.std.specs.Str.{bytes_eq}
use Rattle.coord_model.specs.StudyData.{StudyData}
use Rattle.coord_model.specs.declared.study.Current.{Current}
use Rattle.fault_table.specs.declared.fault.TableFault.{TableFault}
use Rattle.fault_table.specs.declared.fault.TableFault.TheVariants.{BadRecord, UnknownFault, UnknownRelay, BadAmps, DoubleEntry, TooMany}

-- a record's fields
abbrev pub Fields : Type 0
Fields = List (List ℕ)

-- what follows a value, else the fault
abbrev pub found_or : {A B : Type 0} → Option A → TableFault → (A → Result B TableFault) → Result B TableFault
found_or None fault next = Err fault
found_or (Some value) fault next = next value

abbrev pub go_on : {A B : Type 0} → Result A TableFault → (A → Result B TableFault) → Result B TableFault
go_on (Err fault) next = Err fault
go_on (Ok value) next = next value

-- the fields of a record that has three
unfoldable pub three_fields : Fields → Option (List ℕ × List ℕ × List ℕ)
three_fields [] = None
three_fields (a ∷ []) = None
three_fields (a ∷ b ∷ []) = None
three_fields (a ∷ b ∷ c ∷ []) = Some (a, b, c)
three_fields (a ∷ b ∷ c ∷ d ∷ more) = None

-- the byte is a decimal digit
abbrev pub is_digit : ℕ → Bool
is_digit b = nat_le 48 b && nat_le b 57

-- the number that digits spell, leading zeros taken
abbrev pub value_of : List ℕ → ℕ
value_of digits = fold (λ value digit. 10 * value + (digit - 48)) 0 digits

-- the amperes of a field: 1 to 6 digits, up to 100,000
unfoldable pub amps_in : List ℕ → Option ℕ
amps_in field =
    if nat_le 1 (length field) && nat_le (length field) 6 && list_all is_digit field && nat_le (value_of field) 100000
    then Some (value_of field) else None

-- the number of the fault with this name, and of the relay
abbrev pub fault_named : StudyData → List ℕ → Option ℕ
fault_named study name = position (λ fault. bytes_eq fault.name name) study.faults

abbrev pub relay_named : StudyData → List ℕ → Option ℕ
relay_named study name = position (λ relay. bytes_eq relay.name name) study.relays

-- an earlier entry is for the same fault and relay
abbrev pub is_repeated : List Current → Current → Bool
is_repeated earlier entry = list_any (λ e. (e.fault == entry.fault) && (e.relay == entry.relay)) earlier

-- the entry of three fields
unfoldable pub entry_of : StudyData → ℕ → List ℕ → List ℕ → List ℕ → Result Current TableFault
entry_of study n fault relay amps =
    found_or (fault_named study fault) (UnknownFault n) (λ f.
    found_or (relay_named study relay) (UnknownRelay n) (λ r.
    found_or (amps_in amps) (BadAmps n) (λ a. Ok (record { fault = f; relay = r; amps = a }))))

-- the entry of record n
unfoldable pub record_of : StudyData → ℕ → Fields → Result Current TableFault
record_of study n fields = found_or (three_fields fields) (BadRecord n) (λ t. entry_of study n t.0 t.1 t.2)

-- the entry of the record after the earlier ones, which it may not repeat
unfoldable pub next_entry : StudyData → List Current → Fields → Result Current TableFault
next_entry study earlier fields =
    if nat_lt 8192 (length earlier + 1) then Err (TooMany 8192)
    else go_on (record_of study (length earlier + 1) fields)
    (λ entry. if is_repeated earlier entry then Err (DoubleEntry (length earlier + 1)) else Ok entry)
