use Rattle.std.proofs.Common.{◌≡◌, [], Ok, sym, ap, ◌∙◌, arith}
use Rattle.std.proofs.lemmas.List.{drop_all, map_push}
use Rattle.std.proofs.lemmas.List.Elements.{All-push}
use Rattle.std.proofs.lemmas.Result.{err_from_is_err_and}
use Rattle.coord_model.specs.declared.kinds.TableName.TheVariants as tables
use Rattle.coord_model.specs.declared.study.Fault.{Fault}
use Rattle.network_file.specs.Fault.{Fails}
use Rattle.coord_model.specs.PartLimits.{FitsFault}
use Rattle.network_file.specs.Fits.{study_with}
use Rattle.network_file.specs.Study.{next_fault}
use Rattle.network_file.specs.Elements.{place_after}
use Rattle.network_file.proofs.EachAfter.{next_split, goes_on, stops, ends}
use Rattle.network_file.proofs.study.faults_of.Goals as goal

pub returns-in_err-fault_on-clause-exact : goal.returns-in_err-fault_on-clause-exact
returns-in_err-fault_on-clause-exact c =
    let p = err_from_is_err_and c.from_residual-in_err-fault_on.result c.from_residual-in_err-fault_on.ensures.1 in
    let place : c.place_after-place.result ≡ place_after tables.Fault c.loop-entry.faults.items = c.place_after-place.ensures ∙ ap (place_after tables.Fault) c.deref.ensures.value in
    let fault = c.in_err-fault_on.field-0.0 in
    let here : Fails fault (next_fault c.args.grid.now.lines.items c.loop-entry.faults.items c.entry-item.result) = rw (← place, ← c.loop-entry.invariant.named, ← c.requires.named) c.in_err-fault_on.ensures.exact in
    rw (p.1, p.2) (stops (next_fault c.args.grid.now.lines.items) c.loop-entry.faults.items c.entry-item.result _ _ _ fault
    (next_split c.args.entries.now c.loop-entry.entry-index c.entry-item.result c.loop-entry-test.true c.entry-item.is) here c.loop-entry.invariant.so_far)

pub loop-entry-preserved : goal.loop-entry-preserved
loop-entry-preserved c =
    let place : c.place_after-place.result ≡ place_after tables.Fault c.loop-entry.faults.items = c.place_after-place.ensures ∙ ap (place_after tables.Fault) c.deref.ensures.value in
    let made = c.in_ok-fault_on.field-0 in
    let here : next_fault c.args.grid.now.lines.items c.loop-entry.faults.items c.entry-item.result ≡ Ok made = rw (← place, ← c.loop-entry.invariant.named, ← c.requires.named) c.in_ok-fault_on.ensures.exact in
    record {
      counted = omega (arith, c.in_ok-push.ensures.len);
      named = rw (c.in_ok-push.ensures.items, c.in_ok-fault_on.ensures.added, c.loop-entry.invariant.named) (sym (map_push (λ (x : Fault). x.name) c.loop-entry.faults.items made));
      so_far = rw c.in_ok-push.ensures.items (goes_on (next_fault c.args.grid.now.lines.items) c.loop-entry.faults.items c.entry-item.result _ _ _ made
          (next_split c.args.entries.now c.loop-entry.entry-index c.entry-item.result c.loop-entry-test.true c.entry-item.is) here c.loop-entry.invariant.so_far);
      fits = rw c.in_ok-push.ensures.items (All-push (FitsFault (study_with c.args.grid.now.buses.keys c.args.grid.now.lines.items [])) c.loop-entry.faults.items made c.loop-entry.invariant.fits c.in_ok-fault_on.ensures.fits);
    }

pub returns-clause-exact : goal.returns-clause-exact
returns-clause-exact c =
    ends (next_fault c.args.grid.now.lines.items) c.loop-entry.faults.items _ _ (drop_all c.loop-entry.entry-index c.args.entries.now c.loop-entry-test.false) c.loop-entry.invariant.so_far
