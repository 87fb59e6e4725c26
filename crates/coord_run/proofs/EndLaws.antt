-- How a command ends whose work is handed over.
use Rattle.std.proofs.Common.{◌≡◌, ◌≤◌, arith, inl, inr, ℕ, [], ◌∷◌, List, le_refl, refl, Result, Ok, Err, OnErr, None, IfOk, IfErr, subst, sym}
use Rattle.coord_io.proofs.Goings.{goes_as, goes_on, goes_stays}
use Rattle.coord_io.specs.Faults.{Rose}
use Rattle.coord_io.specs.Files.{Becomes, Files, StaysOrPart}
use Rattle.coord_io.specs.Outside.{Changes, FolderState, IsReadAlone, SinkState}
use Rattle.coord_run.specs.End.{AreCutAt, AreWritten, Ends, FileText, OutputData, Puts, done, no_memory, refused, unwritten}
use Rattle.coord_run.specs.Handing.{Delivers, HandsOver, files_of, output_data}
use Rattle.coord_run.specs.Printing.{Prints}
use Rattle.coord_run.specs.Stops.{StopsFor}
use Rattle.coord_words.specs.SolveWords.{FileNames}
use Rattle.coord_run.specs.declared.end.Output.{Output}
use Rattle.coord_run.specs.declared.refusal.Refusal.{Refusal}
use Rattle.coord_run.specs.declared.refusal.Stop.{Stop}
use Rattle.coord_run.specs.declared.refusal.Stop.TheVariants as stop
use Rattle.coord_run.proofs.ReadingLaws.{alone_twice}

-- nothing is written
written_none : (folder : FolderState) → AreWritten [] folder folder
written_none folder = record {
  puts = goes_stays folder.files;
  none = λ is. record { stay = goes_stays folder.files; reads = le_refl folder.reads; writes = refl };
}

module _ (cert sheet : FileText) (before between after : FolderState) where
  -- the certificate is written, and then the sheet
  pub written_both : Changes before between (Becomes cert.name cert.text) → Changes between after (Becomes sheet.name sheet.text) → AreWritten (cert ∷ sheet ∷ []) before after
  written_both first second = record {
    puts = goes_on (λ l m n put more. (m, put, (n, more, refl))) first second;
    none = λ is. let no : ⊥ = cc in absurd no;
  }

  -- writing failed at the sheet
  pub cut_sheet : Changes before between (Becomes cert.name cert.text) → before.writes ≤ between.writes → Rose between.writes after.writes
      → Changes between after (StaysOrPart sheet.name sheet.text) → AreCutAt (cert ∷ sheet ∷ []) sheet before after
  cut_sheet first counted rose part = record {
    whole = cert ∷ [];
    later = [];
    order = refl;
    rose = omega (arith, counted, rose);
    left = goes_on (λ l m n put left. (m, (m, put, refl), left)) first part;
  }

-- a call failed if it did not succeed
pub failed_so : {T E : Type 0} {P : Type 0} (r : Result T E) → ((x : T) → r ≡ Ok x → ⊥) → OnErr r P → P
failed_so (Ok x) none holds = absurd (none x refl)
failed_so (Err e) none holds = holds

-- writing failed at the certificate
pub cut_cert : (cert sheet : FileText) (before after : FolderState) → Rose before.writes after.writes → Changes before after (StaysOrPart cert.name cert.text)
    → AreCutAt (cert ∷ sheet ∷ []) cert before after
cut_cert cert sheet before after rose part = record {
  whole = [];
  later = sheet ∷ [];
  order = refl;
  rose = rose;
  left = goes_as (λ m n was left. (m, refl, left)) part;
}

module _ (output : Output) (before after : FolderState) (sink_before sink_after : SinkState) (status : ℕ) where
  -- there are no files, or they are written
  pub delivers_report : output.files ≡ None → after ≡ before → Prints output.report.items output.status sink_before sink_after status → Delivers output before after sink_before sink_after status
  delivers_report is same printed =
      inl (subst (λ f. AreWritten (files_of f) before after) (sym is) (subst (λ folder. AreWritten [] before folder) (sym same) (written_none before)), printed)

-- files that are written after a reading alone are written over both
written_after : (files : List FileText) (before between after : FolderState) → IsReadAlone before between → AreWritten files between after → AreWritten files before after
written_after files before between after first written = record {
  puts = goes_on (λ l m n same put. subst (λ k. Puts files k n) same put) first.stay written.puts;
  none = λ is. alone_twice before between after first (written.none is);
}

cut_after : (files : List FileText) (file : FileText) (before between after : FolderState) → IsReadAlone before between → AreCutAt files file between after → AreCutAt files file before after
cut_after files file before between after first cut = record {
  whole = cut.whole;
  later = cut.later;
  order = cut.order;
  rose = subst (λ count. Rose count after.writes) first.writes cut.rose;
  left = goes_on (λ l m n same put. (put.0, subst (λ k. Puts cut.whole k put.0) same put.1, put.2)) first.stay cut.left;
}

module _ (names : FileNames) (cause : FolderState → Refusal → Type 0) (is_output : FolderState → OutputData → Type 0) (before between after : FolderState) (sink_before sink_after : SinkState) (status : ℕ)
    (moves : (step : Files → Files → Type 0) → Changes between after step → (output : OutputData) → is_output between output → is_output after output) where
  delivered : (output : Output) → IsReadAlone before between → is_output between (output_data output) → Delivers output between after sink_before sink_after status
      → Ends names (cause after) (is_output after) before after sink_before sink_after status
  delivered output alone is (inl whole) = record {
    end = done (output_data output);
    caused = (moves _ whole.0.puts _ is, written_after _ before between after alone whole.0);
    printed = whole.1;
  }
  delivered output alone is (inr (inl part)) = record {
    end = unwritten (output_data output) part.0;
    caused = (moves _ part.1.left _ is, cut_after _ part.0 before between after alone part.1);
    printed = part.2;
  }
  delivered output alone is (inr (inr none)) = record { end = no_memory; caused = subst (λ f. IsReadAlone before f) (sym none.0) alone; printed = (none.1, none.2) }

  refuses : (refusal : Refusal) → IsReadAlone before between → cause between refusal → HandsOver names (Err (stop.Refused refusal)) between after sink_before sink_after status
      → Ends names (cause after) (is_output after) before after sink_before sink_after status
  refuses refusal alone why (same, inl printed) = record {
    end = refused refusal;
    caused = (subst (λ f. IsReadAlone before f) (sym same) alone, subst (λ f. cause f refusal) (sym same) why);
    printed = printed;
  }
  refuses refusal alone why (same, inr none) = record { end = no_memory; caused = subst (λ f. IsReadAlone before f) (sym same) alone; printed = none }

  -- a command whose work read alone, and was handed over, ends so
  pub ends : (work : Result Output Stop) → IsReadAlone before between → IfOk work (λ output. is_output between (output_data output)) → IfErr work (λ s. StopsFor s (cause between))
      → HandsOver names work between after sink_before sink_after status → Ends names (cause after) (is_output after) before after sink_before sink_after status
  ends (Ok output) alone is why handed = delivered output alone is handed
  ends (Err (stop.Refused refusal)) alone is why handed = refuses refusal alone why handed
  ends (Err stop.NoMemory) alone is why handed = record {
    end = no_memory;
    caused = subst (λ f. IsReadAlone before f) (sym handed.0) alone;
    printed = (handed.1, handed.2);
  }
