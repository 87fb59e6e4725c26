-- Faults and the places where they stand (ours). A reading is a value or the first fault.
use Rattle.std.specs.Prelude.{◌≡◌, Bool, Some, None, Result, Ok, Err, List, [], ◌∷◌, ◌++◌, if◌then◌else◌}
use Rattle.coord_model.specs.declared.kinds.Key.{Key}
use Rattle.coord_model.specs.declared.kinds.NetKind.{NetKind}
use Rattle.network_file.specs.declared.fault.NetFault.{NetFault}
use Rattle.network_file.specs.declared.fault.NetFault.TheVariants.{At, NoMemory}
use Rattle.network_file.specs.declared.fault.Place.{Place}

-- go on with the value, or stop at the fault
infixl 10 ◌>>=◌
abbrev pub ◌>>=◌ : {A B : Type 0} → Result A NetFault → (A → Result B NetFault) → Result B NetFault
(Ok x) >>= f = f x
(Err e) >>= f = Err e

-- a fault of the place at a key
abbrev pub fault_at : Place → NetKind → Key → NetFault
fault_at place kind key = At kind place.table place.index (Some key)

-- a fault of the place as a whole
abbrev pub fault_in : Place → NetKind → NetFault
fault_in place kind = At kind place.table place.index None

-- where the test holds, go on; else stop at the fault
abbrev pub demand : Bool → NetFault → Result (Unit {0}) NetFault
demand test fault = if test then Ok tt else Err fault

-- the fault is the reading's, or it is want of memory, which says nothing
abbrev pub Fails : {Y : Type 0} → NetFault → Result Y NetFault → Type 0
Fails NoMemory reading = Unit {0}
Fails fault reading = reading ≡ Err fault

-- what a function returned, seen by view, is the reading, unless memory ran out
abbrev pub Gives : {X Y : Type 0} → (X → Y) → Result X NetFault → Result Y NetFault → Type 0
Gives view (Ok x) reading = reading ≡ Ok (view x)
Gives view (Err fault) reading = Fails fault reading

-- what a function that takes no memory returned, seen by view, is the reading
abbrev pub Reads : {X Y : Type 0} → (X → Y) → Result X NetFault → Result Y NetFault → Type 0
Reads view (Ok x) reading = reading ≡ Ok (view x)
Reads view (Err fault) reading = reading ≡ Err fault

-- the elements in order, each given what was made of those before it
unfoldable pub each_after : {A B : Type 0} → (List B → A → Result B NetFault) → List B → List A → Result (List B) NetFault
each_after read before [] = Ok before
each_after read before (x ∷ xs) = do
  y ← read before x
  each_after read (before ++ y ∷ []) xs
