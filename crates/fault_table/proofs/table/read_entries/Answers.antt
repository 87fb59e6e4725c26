use Rattle.std.proofs.Common.{◌≡◌, ◌≢◌, ◌∙◌, ℕ, ◌-◌, ◌∷◌, [], ◌++◌, Err, suc, length, arith, sym, ap, rules, subst, List, IsSome, refl, length-append}
use Rattle.std.proofs.lemmas.List.Elements.{All-push}
use Rattle.coord_model.specs.StudyData.{study_data}
use Rattle.coord_model.specs.Limits.{FitsCurrent}
use Rattle.fault_table.specs.Entry.{Fields}
use Rattle.fault_table.specs.Records.{records_left}
use Rattle.fault_table.specs.Table.{entries_from}
use Rattle.fault_table.specs.declared.fault.TableFault.TheVariants.{NoMemory}
use Rattle.fault_table.proofs.TableReads.{goes_on, ends_there}
use Rattle.fault_table.proofs.table.read_entries.Goals as goal

pub returns-in_err-entry-clause-exact : goal.returns-in_err-entry-clause-exact
returns-in_err-entry-clause-exact g c =
    let study = study_data c.args.study.now in
    let entries = c.loop-entries.entries.items in
    let all = entries_from study [] (records_left g.R.Read.remaining 8193 c.args.reader.now) in
    let records : ℕ → List Fields = λ n. records_left g.R.Read.remaining n c.loop-entries.reader in
    let left : 8193 - length entries ≡ suc (8192 - length entries) = omega (arith, c.loop-entries.invariant.fits.few) in
    let same : all ≡ entries_from study entries (records (suc (8192 - length entries))) = subst (λ n. all ≡ entries_from study entries (records n)) left c.loop-entries.invariant.same in
    let ended = rw c.deref.ensures.value at c.in_err-entry.ensures.fault in
    let why : c.in_err-entry.field-0.0 ≢ NoMemory → all ≡ Err c.in_err-entry.field-0.0 = λ some. same ∙ ended some (8192 - length entries) in
    search rules

pub loop-entries-preserved : goal.loop-entries-preserved
loop-entries-preserved g c =
    let study = study_data c.args.study.now in
    let entries = c.loop-entries.entries.items in
    let pushed = c.push.new.self.items in
    let all = entries_from study [] (records_left g.R.Read.remaining 8193 c.args.reader.now) in
    let records : ℕ → List Fields = λ n. records_left g.R.Read.remaining n c.loop-entries.reader in
    let after : ℕ → List Fields = λ n. records_left g.R.Read.remaining n c.read_entry.new.reader in
    let left : 8193 - length entries ≡ suc (8192 - length entries) = omega (arith, c.loop-entries.invariant.fits.few) in
    let same : all ≡ entries_from study entries (records (suc (8192 - length entries))) = subst (λ n. all ≡ entries_from study entries (records n)) left c.loop-entries.invariant.same in
    let next = rw c.deref.ensures.value at c.in_ok-entry.ensures.next in
    let turned = goes_on study entries records after c.in_ok-entry.field-0 c.in-Some.entry (8192 - length entries) next c.in-Some.is in
    let is : pushed ≡ entries ++ c.in-Some.entry ∷ [] = c.in_ok-push.ensures.items in
    let found : IsSome c.in_ok-entry.field-0 = rw c.in-Some.is refl in
    let fewer : 8192 - length entries ≡ 8193 - length pushed = omega (arith, ap length is, length-append entries (c.in-Some.entry ∷ [])) in
    record {
      reading = c.in_ok-entry.ensures.reading found;
      fits = record {
        few = omega (arith, ap length is, length-append entries (c.in-Some.entry ∷ []), c.in_ok-entry.ensures.room found, rw c.deref.ensures.value at (c.in_ok-entry.ensures.room found));
        each = rw is (All-push (FitsCurrent study) entries c.in-Some.entry c.loop-entries.invariant.fits.each (rw c.in-Some.is at c.in_ok-entry.ensures.fits));
      };
      same = same ∙ turned ∙ ap (λ es. entries_from study es (after (8192 - length entries))) (sym is) ∙ ap (λ n. entries_from study pushed (after n)) fewer;
    }

pub returns-clause-exact : goal.returns-clause-exact
returns-clause-exact g c =
    let study = study_data c.args.study.now in
    let entries = c.loop-entries.entries.items in
    let all = entries_from study [] (records_left g.R.Read.remaining 8193 c.args.reader.now) in
    let records : ℕ → List Fields = λ n. records_left g.R.Read.remaining n c.loop-entries.reader in
    let after : ℕ → List Fields = λ n. records_left g.R.Read.remaining n c.read_entry.new.reader in
    let left : 8193 - length entries ≡ suc (8192 - length entries) = omega (arith, c.loop-entries.invariant.fits.few) in
    let same : all ≡ entries_from study entries (records (suc (8192 - length entries))) = subst (λ n. all ≡ entries_from study entries (records n)) left c.loop-entries.invariant.same in
    let next = rw c.deref.ensures.value at c.in_ok-entry.ensures.next in
    same ∙ ends_there study entries records after c.in_ok-entry.field-0 (8192 - length entries) next c.in_default.is
