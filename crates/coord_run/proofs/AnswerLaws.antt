-- That an answer must come follows from all that a command does, since each refusal has its cause.
use Rattle.std.proofs.Common.{◌≡◌, ◌∙◌, ◌⊎◌, inl, inr, is_some, ℕ, ◌<◌, ◌≤◌, Option, Some, None, Ok, Err, List, ap, arith, refl, subst, sym}
use Rattle.std.specs.Prelude.{IfSome, length}
use Rattle.cert_check.specs.Accepted.{Answers}
use Rattle.coord_io.specs.Faults.{Rose}
use Rattle.coord_io.specs.Files.{Files, IsLonger, held}
use Rattle.coord_io.specs.Outside.{FolderState, SinkState, Told}
use Rattle.coord_model.specs.StudyData.{StudyData}
use Rattle.coord_model.specs.declared.study.Current.{Current}
use Rattle.coord_run.specs.Answers.{IsReported, IsSearched, MustAnswer, MustSolve}
use Rattle.coord_run.specs.Given.{IsRightFile, IsSheetOf, MakeCase, NothingFails}
use Rattle.coord_run.specs.Causes.{CaseCause, FileCause, InputsCause, NetworkCause, TableCause}
use Rattle.coord_run.specs.Check.{CertCause, CheckCause, IsCheckOutput}
use Rattle.coord_run.specs.End.{End, Ends, HasEnd, IsPrinted, OutputData, done, no_memory, refused, unwritten}
use Rattle.coord_run.specs.FileLimits.{most_bytes_of}
use Rattle.coord_run.specs.Inputs.{AreInputs, HasNetworkFault, HasTableFault, IsNetwork, IsTable, ReadsCase}
use Rattle.coord_run.specs.Margins.{IsMarginsOutput, MarginsCause}
use Rattle.coord_run.specs.Pairs.{IsPairsOutput}
use Rattle.coord_run.specs.Printing.{Prints, PrintsUnlessMemory}
use Rattle.coord_run.specs.Program.{Does, usage_text}
use Rattle.coord_run.specs.Settings.{GivesSettings, HasSheetFault, SettingsCause}
use Rattle.coord_run.specs.Solve.{IsGapTooSmall, IsSolved, SolveCause, Solves}
use Rattle.coord_words.specs.SolveWords.{FileNames, SolveWords}
use Rattle.coord_run.specs.Status.{IsEnding, outcome_status}
use Rattle.coord_run.specs.Drill.{Drills}
use Rattle.coord_words.specs.Words.{Command, check, drill, margins, only, pairs, solve}
use Rattle.coord_run.specs.declared.refusal.File.{File}
use Rattle.coord_run.specs.declared.refusal.File.TheVariants as file
use Rattle.coord_run.specs.declared.refusal.Refusal.{Refusal}
use Rattle.coord_run.proofs.GapLaws.{one_least}
use Rattle.fault_table.specs.Table.{currents_of}
use Rattle.margin_rows.proofs.Boxed.{pickup_first}
use Rattle.margin_rows.specs.Case.{Case, rows_in}
use Rattle.margin_rows.specs.Gap.{IsGapEnough}
use Rattle.network_file.specs.Network.{network_of}
use Rattle.coord_run.proofs.RightCerts.{right_not_refused}
use Rattle.coord_run.proofs.SearchedLaws.{ending_is, searched, searched_not}

-- ---- no cause of a refusal holds

same_bytes : (files : Files) (name a b : List ℕ) → held files name ≡ Some a → held files name ≡ Some b → a ≡ b
same_bytes files name a b one other = cc

module _ (files : Files) (before after : FolderState) (sink_before sink_after : SinkState) (well : NothingFails files before after sink_before sink_after) where
  -- what is told of the files holds of these
  here : (P : Files → Type 0) → Told before after P → P files
  here P told =
      let came = told.came well.later well.told_after in
      let same : came.0 ≡ files = cc in
      subst P same came.2

  -- a file that is there and is within its limit is not refused before its text is looked at
  no_file_cause : (name bytes : List ℕ) (of_file : File) (refusal : Refusal) → held files name ≡ Some bytes → length bytes ≤ most_bytes_of of_file
      → FileCause before after name of_file refusal → ⊥
  no_file_cause name bytes of_file refusal is within (inl missing) =
      let absent = here (λ m. held m name ≡ None) missing.1.absent in cc
  no_file_cause name bytes of_file refusal is within (inr (inl failed)) = well.reads failed.1
  no_file_cause name bytes of_file refusal is within (inr (inr long)) =
      let longer = here (λ m. IsLonger m name (most_bytes_of of_file)) long.1 in
      let same = same_bytes files name bytes longer.0 is longer.1 in
      let past : most_bytes_of of_file < length bytes = subst (λ (b : List ℕ). most_bytes_of of_file < length b) (sym same) longer.2 in
      omega (arith, within, past)

  -- a network file of a study is not refused
  no_network_cause : (name : List ℕ) (study : StudyData) (refusal : Refusal) → IsNetwork files name study → NetworkCause before after name refusal → ⊥
  no_network_cause name study refusal network (inl unread) = no_file_cause name network.0 file.Network refusal network.1 network.2 unread
  no_network_cause name study refusal network (inr faulty) =
      let wrong = here (λ m. HasNetworkFault m name faulty.0) faulty.1 in
      let same = same_bytes files name network.0 wrong.0 network.1 wrong.1 in
      let reads = subst (λ (b : List ℕ). network_of b ≡ Ok study) same network.3 in
      let clash : Ok study ≡ Err faulty.0 = sym reads ∙ wrong.3 in cc

  one_study : (name : List ℕ) (a b : StudyData) → IsNetwork files name a → IsNetwork files name b → a ≡ b
  one_study name a b of_a of_b =
      let same = same_bytes files name of_a.0 of_b.0 of_a.1 of_b.1 in
      let reads = subst (λ (b : List ℕ). network_of b ≡ Ok a) same of_a.3 in cc

  -- neither is a currents table of it
  no_table_cause : (name : List ℕ) (study : StudyData) (currents : List Current) (refusal : Refusal) → IsTable files name study currents
      → TableCause before after name study refusal → ⊥
  no_table_cause name study currents refusal table (inl unread) = no_file_cause name table.0 file.Currents refusal table.1 table.2 unread
  no_table_cause name study currents refusal table (inr faulty) =
      let wrong = here (λ m. HasTableFault m name study faulty.0) faulty.1 in
      let same = same_bytes files name table.0 wrong.0 table.1 wrong.1 in
      let reads = subst (λ (b : List ℕ). currents_of study b ≡ Ok currents) same table.3 in
      let clash : Ok currents ≡ Err faulty.0 = sym reads ∙ wrong.3 in cc

  -- two files make one case
  one_case : (network currents : List ℕ) (a b : Case) → AreInputs files network currents a.study a.currents → AreInputs files network currents b.study b.currents → a ≡ b
  one_case network currents a b of_a of_b =
      let studies = one_study network a.study b.study of_a.network_file of_b.network_file in
      let table : IsTable files currents b.study a.currents = subst (λ (s : StudyData). IsTable files currents s a.currents) studies of_a.table in
      let other : IsTable files currents b.study b.currents = of_b.table in
      let same = same_bytes files currents table.0 other.0 table.1 other.1 in
      let reads : currents_of b.study other.0 ≡ Ok a.currents = subst (λ (bytes : List ℕ). currents_of b.study bytes ≡ Ok a.currents) same table.3 in
      let both : Ok a.currents ≡ Ok b.currents = sym reads ∙ other.3 in
      let entries : a.currents ≡ b.currents = cc in
      ap (λ (study : StudyData). record { study = study; currents = a.currents }) studies
      ∙ ap (λ (entries : List Current). record { study = b.study; currents = entries }) entries

  module _ (names : FileNames) (case : Case) (made : MakeCase files names case) where
    no_inputs_cause : (refusal : Refusal) → InputsCause before after names.network names.currents refusal → ⊥
    no_inputs_cause refusal (inl network) = no_network_cause names.network case.study refusal made.inputs.network_file network
    no_inputs_cause refusal (inr table) =
        let read = here (λ m. IsNetwork m names.network table.0) table.1 in
        let same = one_study names.network table.0 case.study read made.inputs.network_file in
        no_table_cause names.currents case.study case.currents refusal made.inputs.table
        (subst (λ (s : StudyData). TableCause before after names.currents s refusal) same table.2)

    -- the two files are not refused
    no_case_cause : (refusal : Refusal) → CaseCause before after names.network names.currents refusal → ⊥
    no_case_cause refusal (inl inputs) = no_inputs_cause refusal inputs
    no_case_cause refusal (inr rows) =
        let read = here (λ m. AreInputs m names.network names.currents rows.1.0.study rows.1.0.currents) rows.1.1 in
        let same = one_case names.network names.currents rows.1.0 case read made.inputs in
        let many = subst (λ (c : Case). 4096 < length (rows_in c)) same rows.1.2 in
        omega (arith, many, made.few_rows)

    -- what holds of the case that was read holds of this one
    of_read : (P : Case → Type 0) → ReadsCase before after names.network names.currents P → P case
    of_read P reads =
        let read = here (λ m. AreInputs m names.network names.currents reads.0.study reads.0.currents) reads.1 in
        subst P (one_case names.network names.currents reads.0 case read made.inputs) reads.2.1

    no_gap_cause : (asked : SolveWords) (refusal : Refusal) → IfSome asked.gap (IsGapEnough case) → IsGapTooSmall case asked refusal → ⊥
    no_gap_cause asked refusal enough small =
        let given : IsGapEnough case small.gap = subst (λ o. IfSome o (IsGapEnough case)) small.is_gap enough in
        let same = one_least case given.least small.least given.exact small.is_least in
        omega (arith, same, given.at_least, small.below)

    no_cert_cause : (name : List ℕ) (refusal : Refusal) → IsRightFile files name case → CertCause before after name case refusal → ⊥
    no_cert_cause name refusal right (inl unread) = no_file_cause name right.bytes file.Cert refusal right.is right.within unread
    no_cert_cause name refusal right (inr faulty) =
        let is = here (λ m. held m name ≡ Some faulty.1.bytes) faulty.1.whole.file in
        let same = same_bytes files name faulty.1.bytes right.bytes is right.is in
        right_not_refused case right.cert right.bytes faulty.0 right.text right.right (subst (λ (b : List ℕ). Answers case b (Err faulty.0)) same faulty.1.answer)

    no_sheet_cause : (name : List ℕ) (refusal : Refusal) → IsSheetOf files name case → SettingsCause before after name case refusal → ⊥
    no_sheet_cause name refusal sheet (inl unread) = let is = sheet.gives.1 in no_file_cause name is.0 file.Sheet refusal is.1 is.2 unread
    no_sheet_cause name refusal sheet (inr (inl faulty)) =
        let wrong = here (λ m. HasSheetFault m name case.study faulty.0 faulty.1) faulty.3 in
        let is = sheet.gives.1 in
        let same = same_bytes files name is.0 wrong.0 is.1 wrong.1 in
        wrong.3.no_sheet sheet.gives.0 is.3.0 (sym same ∙ is.3.1)
    no_sheet_cause name refusal sheet (inr (inr faulty)) =
        let given = here (λ m. GivesSettings m name case (Some faulty.0)) faulty.3 in
        let outside = faulty.4 in
        outside.first.outside (pickup_first case faulty.0 outside.relay (sheet.fits (Some faulty.0) given) outside.first.in_study)

  -- a command that is not refused, and whose writing and printing do not fail, ends as its output says
  ends_as : (names : FileNames) (cause : Refusal → Type 0) (is_output : OutputData → Type 0) (status : ℕ) (P : ℕ → Type 0)
      → ((refusal : Refusal) → cause refusal → ⊥) → P 30 → ((output : OutputData) → is_output output → P output.status)
      → Ends names cause is_output before after sink_before sink_after status → P status
  ends_as names cause is_output status P not_refused of_memory of_output ends = go ends.end ends.caused ends.printed
    where
      go : (end : End) → HasEnd cause is_output before after end → IsPrinted names end sink_before sink_after status → P status
      go no_memory caused printed = subst P (sym printed.0) of_memory
      go (refused refusal) caused printed = absurd (not_refused refusal caused.1)
      go (unwritten output file) caused printed = absurd (well.writes caused.1.rose)
      go (done output) caused (inl printed) = subst P (sym printed.0) (of_output output caused.0)
      go (done output) caused (inr failed) = absurd (well.prints failed.1)

-- ---- each command

-- what is printed when printing does not fail
printed_as : (text : List ℕ) (own : ℕ) (before after : SinkState) (status : ℕ) → ¬ (Rose before.faults after.faults) → Prints text own before after status → status ≡ own
printed_as text own before after status well (inl printed) = printed.0
printed_as text own before after status well (inr failed) = absurd (well failed.1)

usage_printed : (before after : SinkState) (status : ℕ) → ¬ (Rose before.faults after.faults) → PrintsUnlessMemory usage_text 2 before after status → (status ≡ 2) ⊎ (status ≡ 30)
usage_printed before after status well (inl printed) = inl (printed_as usage_text 2 before after status well printed)
usage_printed before after status well (inr none) = inr none.0

drill_printed : (n : ℕ) (before after : SinkState) (status : ℕ) → ¬ (Rose before.faults after.faults) → Drills n before after status → IsEnding status ⊎ (status ≡ 30)
drill_printed n before after status well (inr none) = inr none.0
drill_printed n before after status well (inl drilled) =
    let o = drilled.2.outcome in
    let same = printed_as drilled.0 drilled.1 before after status well drilled.3 in
    inl (subst IsEnding (sym (same ∙ drilled.2.status_is)) (ending_is o.ending (is_some o.issued)))

module _ (files : Files) (before after : FolderState) (sink_before sink_after : SinkState) (well : NothingFails files before after sink_before sink_after) where
  not_solved : (asked : SolveWords) (case : Case) → MakeCase files asked.names case → IfSome asked.gap (IsGapEnough case) → (refusal : Refusal)
      → SolveCause asked before after refusal → ⊥
  not_solved asked case made enough refusal (inl of_case) = no_case_cause files before after sink_before sink_after well asked.names case made refusal of_case
  not_solved asked case made enough refusal (inr small) =
      no_gap_cause files before after sink_before sink_after well asked.names case made asked refusal enough
      (of_read files before after sink_before sink_after well asked.names case made (λ c. IsGapTooSmall c asked refusal) small)

  not_checked : (names : FileNames) (case : Case) → MakeCase files names case → IsRightFile files names.cert case → (refusal : Refusal)
      → CheckCause names before after refusal → ⊥
  not_checked names case made right refusal (inl of_case) = no_case_cause files before after sink_before sink_after well names case made refusal of_case
  not_checked names case made right refusal (inr of_cert) =
      no_cert_cause files before after sink_before sink_after well names case made names.cert refusal right
      (of_read files before after sink_before sink_after well names case made (λ c. CertCause before after names.cert c refusal) of_cert)

  not_reported : (names : FileNames) (case : Case) → MakeCase files names case → IsSheetOf files names.sheet case → (refusal : Refusal)
      → MarginsCause names before after refusal → ⊥
  not_reported names case made sheet refusal (inl of_case) = no_case_cause files before after sink_before sink_after well names case made refusal of_case
  not_reported names case made sheet refusal (inr of_sheet) =
      no_sheet_cause files before after sink_before sink_after well names case made names.sheet refusal sheet
      (of_read files before after sink_before sink_after well names case made (λ c. SettingsCause before after names.sheet c refusal) of_sheet)

  solved_as : (asked : SolveWords) (case : Case) → MakeCase files asked.names case → (output : OutputData) → IsSolved asked before after output
      → IsSearched case asked.budget output.status
  solved_as asked case made output is =
      let read = here files before after sink_before sink_after well (λ m. AreInputs m asked.names.network asked.names.currents is.case.study is.case.currents) is.inputs in
      let same = one_case files before after sink_before sink_after well asked.names.network asked.names.currents is.case case read made.inputs in
      let outcome = is.of_case.outcome in
      let own : output.status ≡ outcome_status outcome = ap (λ (o : OutputData). o.status) is.of_case.is in
      subst (λ (c : Case). IsSearched c asked.budget output.status) same
      (subst (λ (n : ℕ). IsSearched is.case asked.budget n) (sym own) (searched is.case asked outcome is.of_case.comes))

-- an ending comes of `solve`
pub must_solve : (asked : SolveWords) (before after : FolderState) (sink_before sink_after : SinkState) (status : ℕ)
    → Solves asked before after sink_before sink_after status → MustSolve asked before after sink_before sink_after status
must_solve asked before after sink_before sink_after status does = λ files well case made enough.
    ends_as files before after sink_before sink_after well asked.names (SolveCause asked before after) (IsSolved asked before after) status (IsSearched case asked.budget)
    (λ refusal cause. not_solved files before after sink_before sink_after well asked case made enough refusal cause)
    (searched_not case asked.budget)
    (λ output is. solved_as files before after sink_before sink_after well asked case made output is)
    does

-- an answer comes of each command
pub must_answer : (command : Option Command) (before after : FolderState) (sink_before sink_after : SinkState) (status : ℕ)
    → Does command before after sink_before sink_after status → MustAnswer command before after sink_before sink_after status
must_answer None before after sink_before sink_after status does = λ well. usage_printed sink_before sink_after status well does.1
must_answer (Some (solve asked)) before after sink_before sink_after status does = must_solve asked before after sink_before sink_after status does
must_answer (Some (pairs network)) before after sink_before sink_after status does = λ files well study is.
    ends_as files before after sink_before sink_after well (only network) (NetworkCause before after network) (IsPairsOutput before after network) status IsReported
    (λ refusal cause. no_network_cause files before after sink_before sink_after well network study refusal is cause)
    (inr refl)
    (λ output of_study. inl (ap (λ (o : OutputData). o.status) of_study.2))
    does
must_answer (Some (margins names)) before after sink_before sink_after status does = λ files well case made sheet.
    ends_as files before after sink_before sink_after well names (MarginsCause names before after) (IsMarginsOutput names before after) status IsReported
    (λ refusal cause. not_reported files before after sink_before sink_after well names case made sheet refusal cause)
    (inr refl)
    (λ output is. inl is.2)
    does
must_answer (Some (check names)) before after sink_before sink_after status does = λ files well case made right.
    ends_as files before after sink_before sink_after well names (CheckCause names before after) (IsCheckOutput names before after) status IsReported
    (λ refusal cause. not_checked files before after sink_before sink_after well names case made right refusal cause)
    (inr refl)
    (λ output is. inl is.2)
    does
must_answer (Some (drill n)) before after sink_before sink_after status does = λ well. drill_printed n sink_before sink_after status well does.1
