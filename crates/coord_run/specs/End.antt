-- How every command ends (ours): it is refused, or files are written in their order and a report is printed.
use Rattle.std.specs.Prelude.{◌≡◌, ℕ, List, [], ◌∷◌, ◌++◌}
use Rattle.coord_io.specs.Faults.{Rose}
use Rattle.coord_io.specs.Files.{Becomes, Files, StaysOrPart}
use Rattle.coord_io.specs.Outside.{Changes, FolderState, IsReadAlone, SinkState}
use Rattle.coord_run.specs.Printing.{Prints}
use Rattle.coord_run.specs.RefusalText.{refusal_text, write_fault_text}
use Rattle.coord_run.specs.Status.{refusal_status}
use Rattle.coord_words.specs.SolveWords.{FileNames}
use Rattle.coord_run.specs.declared.refusal.Refusal.{Refusal}

-- a text for the file of a name
pub record FileText : Type 0 where
  pub name : List ℕ
  pub text : List ℕ

-- what a command hands over: files in the order in which they are written, and a report with its status
pub record OutputData : Type 0 where
  pub files : List FileText
  pub report : List ℕ
  pub status : ℕ

-- these files are put in their order, and all others are as before
abbrev pub Puts : List FileText → Files → Files → Type 0
Puts [] m n = n ≡ m
Puts (file ∷ files) m n = (k : Files) × Becomes file.name file.text m k × Puts files k n

-- all the files are written; if there are none, the folder was read alone
pub record AreWritten (files : List FileText) (before after : FolderState) : Type 0 where
  pub puts : Changes before after (Puts files)
  pub none : files ≡ [] → IsReadAlone before after

-- Writing failed at one of the files: it is as before or a front of its text. Those before it are whole, and all others are
-- as before.
pub record AreCutAt (files : List FileText) (file : FileText) (before after : FolderState) : Type 0 where
  pub whole : List FileText
  pub later : List FileText
  pub order : files ≡ whole ++ (file ∷ later)
  pub rose : Rose before.writes after.writes
  pub left : Changes before after (λ m n. (k : Files) × Puts whole m k × StaysOrPart file.name file.text k n)

-- how the work of a command ends, before its line is printed
pub data End : Type 0 where
  no_memory : End
  refused : Refusal → End
  unwritten : OutputData → FileText → End
  done : OutputData → End

-- the end has its cause: files change only by what is written
abbrev pub HasEnd : (Refusal → Type 0) → (OutputData → Type 0) → FolderState → FolderState → End → Type 0
HasEnd cause is_output before after no_memory = IsReadAlone before after
HasEnd cause is_output before after (refused refusal) = IsReadAlone before after × cause refusal
HasEnd cause is_output before after (unwritten output file) = is_output output × AreCutAt output.files file before after
HasEnd cause is_output before after (done output) = is_output output × AreWritten output.files before after

-- the end is printed with its status; for want of memory nothing is printed
abbrev pub IsPrinted : FileNames → End → SinkState → SinkState → ℕ → Type 0
IsPrinted names no_memory before after status = (status ≡ 30) × (after ≡ before)
IsPrinted names (refused refusal) before after status = Prints (refusal_text names refusal) (refusal_status refusal) before after status
IsPrinted names (unwritten output file) before after status = Prints (write_fault_text file.name) 11 before after status
IsPrinted names (done output) before after status = Prints output.report output.status before after status

-- a command with these names came to an end that has its cause, and printed it
pub record Ends (names : FileNames) (cause : Refusal → Type 0) (is_output : OutputData → Type 0) (before after : FolderState) (sink_before sink_after : SinkState) (status : ℕ) : Type 0 where
  pub end : End
  pub caused : HasEnd cause is_output before after end
  pub printed : IsPrinted names end sink_before sink_after status
