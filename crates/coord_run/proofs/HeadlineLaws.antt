-- The headline of `solve` follows from all that it does.
use Rattle.std.proofs.Common.{◌≡◌, ◌≢◌, ◌∙◌, inl, inr, ◌⊎◌, Bool, ℕ, ◌≤◌, true, false, cond, Some, List, [], ◌∷◌, ◌++◌, ap, arith, refl, subst, sym}
use Rattle.std.specs.Prelude.{Option, None, IfSome, IsSomeAnd}
use Rattle.std.specs.Option.{option_map}
use Rattle.std.specs.Str.{bytes_eq}
use Rattle.std.proofs.lemmas.Slice.Eq.{bytes_eq-Decides}
use Rattle.coord_io.proofs.Changes.{held-with_file}
use Rattle.coord_io.proofs.Goings.{goes_as}
use Rattle.coord_io.specs.Files.{Becomes, Files, StaysOrPart, held, with_file}
use Rattle.coord_io.specs.Outside.{Changes, FolderState, SinkState, Takes}
use Rattle.coord_io.specs.Written.{Gained}
use Rattle.coord_io.specs.Goes.{Stays}
use Rattle.coord_run.specs.End.{AreCutAt, AreWritten, End, FileText, HasEnd, IsPrinted, OutputData, Puts, done, no_memory, refused, unwritten}
use Rattle.coord_run.specs.Headline.{Asserts, Certifies, Coordinates, Headline}
use Rattle.coord_run.specs.Printing.{Prints}
use Rattle.coord_run.specs.Certified.{cert_of}
use Rattle.cert_check.specs.Accepted.{IsAccepted}
use Rattle.cert_check.specs.Claims.{IfPrinted}
use Rattle.cert_check.specs.Rightness.{claim_of}
use Rattle.cert_text.proofs.CertLengths.{texts_fit}
use Rattle.cert_text.specs.CertText.{cert_text}
use Rattle.coord_model.specs.Allowed.{IsAllowed}
use Rattle.coord_model.specs.Choice.{choice_data}
use Rattle.coord_model.specs.Cost.{CostsAtMost}
use Rattle.coord_model.specs.declared.choice.Choice.{Choice}
use Rattle.coord_run.specs.Report.{sheet_of}
use Rattle.coord_run.specs.Solve.{ComesTo, IsOutputOf, IsSolved, SolveCause, Solves}
use Rattle.coord_run.specs.Status.{IsEnding, outcome_status, refusal_status}
use Rattle.coord_words.specs.SolveWords.{SolveWords}
use Rattle.coord_run.specs.declared.refusal.Refusal.{Refusal}
use Rattle.coord_run.specs.declared.refusal.Refusal.TheVariants.{Missing, ReadFault, TooLong, NotText, NotToml, Network, TooMany, BadHeader, BadRecord, UnknownFault, UnknownRelay, BadAmps, DoubleEntry, NoPrimary, GapTooSmall, CertLine, CertNode, CertClaim, SheetLine, SheetPickup}
use Rattle.coord_run.proofs.OutcomeLaws.{allowed, at_most, below_all, closed_says, hairline_says, none_says, shown, spent_says}
use Rattle.branch_bound.specs.declared.outcome.Outcome.{Outcome}
use Rattle.margin_rows.specs.Case.{Case}
use Rattle.settings_sheet.specs.SheetText.{sheet_text}

-- the status of an ending is that of no refusal
ending_small : (status : ℕ) → IsEnding status → status ≤ 7
ending_small status (inl is) = omega (arith, is)
ending_small status (inr (inl is)) = omega (arith, is)
ending_small status (inr (inr (inl is))) = omega (arith, is)
ending_small status (inr (inr (inr (inl is)))) = omega (arith, is)
ending_small status (inr (inr (inr (inr (inl is))))) = omega (arith, is)
ending_small status (inr (inr (inr (inr (inr is))))) = omega (arith, is)

refusal_large : (refusal : Refusal) → 8 ≤ refusal_status refusal
refusal_large (Missing file) = omega arith
refusal_large (ReadFault file) = omega arith
refusal_large (TooLong file) = omega arith
refusal_large NotText = omega arith
refusal_large NotToml = omega arith
refusal_large (Network kind table index key) = omega arith
refusal_large (TooMany what limit) = omega arith
refusal_large BadHeader = omega arith
refusal_large (BadRecord n) = omega arith
refusal_large (UnknownFault n) = omega arith
refusal_large (UnknownRelay n) = omega arith
refusal_large (BadAmps n) = omega arith
refusal_large (DoubleEntry n) = omega arith
refusal_large (NoPrimary name) = omega arith
refusal_large (GapTooSmall given least) = omega arith
refusal_large (CertLine line kind) = omega arith
refusal_large (CertNode number kind) = omega arith
refusal_large (CertClaim fault) = omega arith
refusal_large (SheetLine line kind) = omega arith
refusal_large (SheetPickup name) = omega arith

-- what is printed with a status above all endings' is not an ending
not_printed : (text : List ℕ) (own : ℕ) (before after : SinkState) (status : ℕ) → 8 ≤ own → Prints text own before after status → IsEnding status → ⊥
not_printed text own before after status large (inl printed) ending = let small = ending_small status ending in let is = printed.0 in omega arith
not_printed text own before after status large (inr failed) ending = let small = ending_small status ending in let is = failed.0 in omega arith

-- the outcome of a search is as it asserts
pub asserts : (case : Case) (asked : SolveWords) (outcome : Outcome) (comes : ComesTo case asked outcome) → Asserts case comes.gap asked.budget outcome
asserts case asked outcome comes = record {
  settings_allowed = allowed case asked outcome comes;
  cost_at_most = at_most case asked outcome comes;
  bound_below_all = below_all case asked outcome comes;
  at_closed = closed_says case asked outcome comes;
  at_no_settings = none_says case asked outcome comes;
  at_budget_spent = spent_says case asked outcome comes;
  at_hairline = hairline_says case asked outcome comes;
  reached_by_steps = comes.reached;
}

-- other names than these two are held as before
abbrev OthersStay : List ℕ → List ℕ → Files → Files → Type 0
OthersStay sheet cert m n = (other : List ℕ) → other ≢ sheet → other ≢ cert → held n other ≡ held m other

apart : (other name : List ℕ) → other ≢ name → bytes_eq other name ≡ false
apart other name differ = elim (bytes_eq other name) as (λ b. bytes_eq other name ≡ b → b ≡ false) [
  | true ↦ λ is. absurd (differ ((bytes_eq-Decides other name).0 is))
  | false ↦ λ is. refl
] refl

stays_same : (sheet cert : List ℕ) (m n : Files) → n ≡ m → OthersStay sheet cert m n
stays_same sheet cert m n same other of_sheet of_cert = ap (λ k. held k other) same

-- what is held under another name after a file is put
put_apart : (name text other : List ℕ) (m n : Files) → other ≢ name → Becomes name text m n → held n other ≡ held m other
put_apart name text other m n differ put =
    ap (λ k. held k other) put ∙ held-with_file m name text other ∙ ap (λ b. cond b (Some text) (held m other)) (apart other name differ)

part_apart : (name text other : List ℕ) (m n : Files) → other ≢ name → StaysOrPart name text m n → held n other ≡ held m other
part_apart name text other m n differ (inl same) = ap (λ k. held k other) same
part_apart name text other m n differ (inr put) = put_apart name _ other m n differ put.1

-- the two files of a list
both_put : (cert sheet : FileText) (m n : Files) → Puts (cert ∷ sheet ∷ []) m n → n ≡ with_file (with_file m cert.name cert.text) sheet.name sheet.text
both_put cert sheet m n put = put.2.2 ∙ put.2.1 ∙ ap (λ k. with_file k sheet.name sheet.text) put.1

both_stay : (cert sheet : FileText) (m n : Files) → Puts (cert ∷ sheet ∷ []) m n → OthersStay sheet.name cert.name m n
both_stay cert sheet m n put other of_sheet of_cert =
    ap (λ k. held k other) put.2.2 ∙ put_apart sheet.name sheet.text other put.0 put.2.0 of_sheet put.2.1 ∙ put_apart cert.name cert.text other m put.0 of_cert put.1

cut_stay : (cert sheet file : FileText) (before after : FolderState) → AreCutAt (cert ∷ sheet ∷ []) file before after → Changes before after (OthersStay sheet.name cert.name)
cut_stay cert sheet file before after cut = go cut.whole cut.order cut.left
  where
    go : (whole : List FileText) → cert ∷ sheet ∷ [] ≡ whole ++ (file ∷ cut.later) → Changes before after (λ m n. (k : Files) × Puts whole m k × StaysOrPart file.name file.text k n)
        → Changes before after (OthersStay sheet.name cert.name)
    go [] order left =
        let same : cert ≡ file = cc in
        goes_as (λ m n was part other of_sheet of_cert.
        part_apart file.name file.text other part.0 n (subst (λ (f : FileText). other ≢ f.name) same of_cert) part.2 ∙ ap (λ k. held k other) part.1) left
    go (x ∷ []) order left =
        let first : cert ≡ x = cc in
        let second : sheet ≡ file = cc in
        goes_as (λ m n was part other of_sheet of_cert.
        part_apart file.name file.text other part.0 n (subst (λ (f : FileText). other ≢ f.name) second of_sheet) part.2
        ∙ ap (λ k. held k other) part.1.2 ∙ put_apart x.name x.text other m part.1.0 (subst (λ (f : FileText). other ≢ f.name) first of_cert) part.1.1) left
    go (x ∷ y ∷ []) order left = let no : ⊥ = cc in absurd no
    go (x ∷ y ∷ z ∷ whole) order left = let no : ⊥ = cc in absurd no

-- printed settings are allowed, and cost at most the printed cost
settings_true : (case : Case) (issued : Option Choice) (cost : Option ℕ) → IfSome issued (λ choice. IsAllowed case.study case.currents (choice_data choice))
    → IfSome issued (λ choice. IsSomeAnd cost (CostsAtMost case.study case.currents (choice_data choice)))
    → IfSome (option_map choice_data issued) (IsAllowed case.study case.currents)
    × IfPrinted (option_map choice_data issued) cost (CostsAtMost case.study case.currents)
settings_true case None cost allows costs = (tt, tt)
settings_true case (Some choice) (Some cost) allows costs = (allows, costs)
settings_true case (Some choice) None allows costs = absurd costs

-- the checker accepts the certificate of an output
accepted : (case : Case) (asked : SolveWords) (output : OutputData) (is : IsOutputOf asked case output)
    → IsAccepted case (cert_text (cert_of case is.outcome)) (claim_of (cert_of case is.outcome).head)
accepted case asked output is =
    let settings = settings_true case is.outcome.issued is.outcome.cost (allowed case asked is.outcome is.comes) (at_most case asked is.outcome is.comes) in
    record {
      cert = cert_of case is.outcome;
      text = record { is = is.cert_fits; text = refl };
      right = is.cert_right;
      claim_is = refl;
      allowed = settings.0;
      at_most = settings.1;
    }

-- the certificate of an output is as it certifies
certifies : (case : Case) (asked : SolveWords) (output : OutputData) (is : IsOutputOf asked case output) → Certifies case is.comes.gap asked.budget is.outcome
certifies case asked output is = record {
  is_text = record { is = is.cert_fits; text = refl };
  within = texts_fit (cert_of case is.outcome) is.cert_fits;
  right = is.cert_right;
  accepted = accepted case asked output is;
  gap_told = is.comes.reached.is_outcome.same_gap;
  budget_told = is.comes.reached.is_outcome.same_budget;
}

module _ (asked : SolveWords) (before after : FolderState) (sink_before sink_after : SinkState) (status : ℕ) where
  written : (output : OutputData) → IsSolved asked before after output → AreWritten output.files before after → Prints output.report output.status sink_before sink_after status
      → IsEnding status → Coordinates asked before after sink_before sink_after status
  written output is put (inr failed) ending = let small = ending_small status ending in let eleven = failed.0 in absurd (omega arith)
  written output is put (inl printed) ending =
      let case = is.case in
      let outcome = is.of_case.outcome in
      let comes = is.of_case.comes in
      let own : status ≡ outcome_status outcome = printed.0 ∙ ap (λ (o : OutputData). o.status) is.of_case.is in
      let puts = subst (λ (o : OutputData). Changes before after (Puts o.files)) is.of_case.is put.puts in
      let cert : FileText = record { name = asked.names.cert; text = cert_text (cert_of case outcome) } in
      let sheet : FileText = record { name = asked.names.sheet; text = sheet_text case.study (sheet_of outcome) } in
      record {
        case = case;
        outcome = outcome;
        gap = comes.gap;
        inputs_as_read = is.inputs;
        gap_as_asked = comes.is_gap;
        truth = asserts case asked outcome comes;
        certificate = certifies case asked output is.of_case;
        sheet_is_text = (shown case asked outcome comes).sheet;
        files_written = goes_as (λ m n was both. both_put cert sheet m n both) puts;
        report_printed = subst (λ (o : OutputData). Takes sink_before sink_after (Gained o.report)) is.of_case.is printed.1;
        status_is = own;
      }

  -- what `solve` does makes the headline true
  pub headline : Solves asked before after sink_before sink_after status → Headline asked before after sink_before sink_after status
  headline solves = go solves.end solves.caused solves.printed
    where
      stay : Changes before after Stays → Changes before after (OthersStay asked.names.sheet asked.names.cert)
      stay same = goes_as (λ m n was is. stays_same asked.names.sheet asked.names.cert m n is) same

      go : (end : End) → HasEnd (SolveCause asked before after) (IsSolved asked before after) before after end → IsPrinted asked.names end sink_before sink_after status
          → Headline asked before after sink_before sink_after status
      go no_memory caused printed = record {
        at_ending = λ ending. let small = ending_small status ending in let thirty = printed.0 in absurd (omega arith);
        only_its_files_change = stay caused.stay;
      }
      go (refused refusal) caused printed = record {
        at_ending = λ ending. absurd (not_printed _ _ sink_before sink_after status (refusal_large refusal) printed ending);
        only_its_files_change = stay caused.0.stay;
      }
      go (unwritten output file) caused printed = record {
        at_ending = λ ending. absurd (not_printed _ 11 sink_before sink_after status (omega arith) printed ending);
        only_its_files_change =
            let cut = subst (λ (o : OutputData). AreCutAt o.files file before after) caused.0.of_case.is caused.1 in
            cut_stay (record { name = asked.names.cert; text = _ }) (record { name = asked.names.sheet; text = _ }) file before after cut;
      }
      go (done output) caused printed = record {
        at_ending = written output caused.0 caused.1 printed;
        only_its_files_change =
            let puts = subst (λ (o : OutputData). Changes before after (Puts o.files)) caused.0.of_case.is caused.1.puts in
            goes_as (λ m n was both. both_stay _ _ m n both) puts;
      }
