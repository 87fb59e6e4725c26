-- What a call of the program does (ours).
use Rattle.std.specs.Prelude.{◌≡◌, ℕ, Option, Some, None, List, codes}
use Rattle.coord_run.specs.Check.{ReportsCheck}
use Rattle.coord_run.specs.Drill.{Drills}
use Rattle.coord_run.specs.Margins.{ReportsMargins}
use Rattle.coord_io.specs.Outside.{FolderState, SinkState}
use Rattle.coord_run.specs.Printing.{PrintsUnlessMemory}
use Rattle.coord_run.specs.Pairs.{ListsPairs}
use Rattle.coord_run.specs.Solve.{Solves}
use Rattle.coord_words.specs.Words.{Command, check, drill, margins, pairs, solve}

-- the line for words that fit no command
abbrev pub usage_text : List ℕ
usage_text = codes "usage: coord solve NETWORK CURRENTS SHEET CERT [--gap N] [--budget N], check NETWORK CURRENTS CERT, pairs NETWORK, margins NETWORK CURRENTS SHEET, drill N\n"

-- words that fit no command get the usage line and status 2, unless memory runs out, and no file is touched; a command does its work
abbrev pub Does : Option Command → FolderState → FolderState → SinkState → SinkState → ℕ → Type 0
Does None before after sink_before sink_after status = (after ≡ before) × PrintsUnlessMemory usage_text 2 sink_before sink_after status
Does (Some (solve asked)) before after sink_before sink_after status = Solves asked before after sink_before sink_after status
Does (Some (pairs network)) before after sink_before sink_after status = ListsPairs network before after sink_before sink_after status
Does (Some (margins names)) before after sink_before sink_after status = ReportsMargins names before after sink_before sink_after status
Does (Some (check names)) before after sink_before sink_after status = ReportsCheck names before after sink_before sink_after status
Does (Some (drill n)) before after sink_before sink_after status = (after ≡ before) × Drills n sink_before sink_after status
