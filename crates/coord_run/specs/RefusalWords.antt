-- The words in which refusals are printed (ours).
use Rattle.std.specs.Prelude.{ℕ, Option, Some, None, List, [], ◌++◌, codes}
use Rattle.coord_model.specs.declared.kinds.Key.{Key}
use Rattle.coord_model.specs.declared.kinds.NetKind.TheVariants.{Missing, WrongKind, OutOfRange, UnknownKey, UnknownCurve, UnknownName, DoubleName, LoopLine, NotAtLine, TwoRelaysAtEnd}
use Rattle.coord_model.specs.declared.kinds.NetKind.{NetKind}
use Rattle.coord_model.specs.declared.kinds.TableName.TheVariants as table
use Rattle.coord_model.specs.declared.kinds.TableName.{TableName}
use Rattle.coord_model.specs.declared.kinds.What.TheVariants as what
use Rattle.coord_model.specs.declared.kinds.What.{What}
use Rattle.network_file.specs.Words.{word_of}
use Rattle.settings_sheet.specs.declared.refusal.SheetKind.{SheetKind}
use Rattle.settings_sheet.specs.declared.refusal.SheetKind.TheVariants as due

-- the kind of a network fault
abbrev pub kind_word : NetKind → List ℕ
kind_word Missing = codes "missing"
kind_word WrongKind = codes "wrong-kind"
kind_word OutOfRange = codes "out-of-range"
kind_word UnknownKey = codes "unknown-key"
kind_word UnknownCurve = codes "unknown-curve"
kind_word UnknownName = codes "unknown-name"
kind_word DoubleName = codes "double-name"
kind_word LoopLine = codes "loop-line"
kind_word NotAtLine = codes "not-at-line"
kind_word TwoRelaysAtEnd = codes "two-relays-at-end"

-- the table of a network fault
abbrev pub table_word : TableName → List ℕ
table_word table.Top = codes "top"
table_word table.Study = codes "study"
table_word table.Line = codes "line"
table_word table.Relay = codes "relay"
table_word table.Fault = codes "fault"
table_word table.Exempt = codes "exempt"
table_word table.Interval = codes "interval"

-- the quantity that passes its limit
abbrev pub what_word : What → List ℕ
what_word what.Lines = codes "lines"
what_word what.Relays = codes "relays"
what_word what.Faults = codes "faults"
what_word what.Exempt = codes "exempt"
what_word what.Intervals = codes "intervals"
what_word what.Buses = codes "buses"
what_word what.PickupSteps = codes "pickup-steps"
what_word what.Currents = codes "currents"
what_word what.Rows = codes "rows"

-- a key after a space, if there is one
abbrev pub key_text : Option Key → List ℕ
key_text None = []
key_text (Some key) = codes " " ++ word_of key

-- what is due at a line of a sheet
abbrev pub due_word : SheetKind → List ℕ
due_word due.Format = codes "format"
due_word due.Ending = codes "ending"
due_word due.Cost = codes "cost"
due_word due.Bound = codes "bound"
due_word due.Relay = codes "relay"
due_word due.End = codes "end"
due_word due.After = codes "after"
