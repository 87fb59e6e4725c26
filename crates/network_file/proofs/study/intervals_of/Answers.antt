use Rattle.std.proofs.Common.{◌≡◌, length, Ok, sym, ap, ◌∙◌, arith}
use Rattle.std.proofs.lemmas.List.{drop_all}
use Rattle.std.proofs.lemmas.List.Elements.{All-push}
use Rattle.std.proofs.lemmas.Result.{err_from_is_err_and}
use Rattle.coord_model.specs.declared.kinds.TableName.TheVariants as tables
use Rattle.network_file.specs.Fault.{Fails}
use Rattle.network_file.specs.Fits.{IsIntervalBelow}
use Rattle.network_file.specs.Study.{next_interval}
use Rattle.network_file.specs.Elements.{place_after}
use Rattle.network_file.proofs.EachAfter.{next_split, own_fault, goes_on, stops, ends}
use Rattle.network_file.proofs.study.intervals_of.Goals as goal

pub returns-in_err-interval-clause-exact : goal.returns-in_err-interval-clause-exact
returns-in_err-interval-clause-exact c =
    let p = err_from_is_err_and c.from_residual-in_err-interval.result c.from_residual-in_err-interval.ensures.1 in
    let place : c.place_after-place.result ≡ place_after tables.Interval c.loop-entry.intervals.items = c.place_after-place.ensures ∙ ap (place_after tables.Interval) c.deref.ensures.value in
    let fault = c.in_err-interval.field-0.0 in
    let here : Fails fault (next_interval c.args.relay_names.now.keys c.loop-entry.intervals.items c.entry-item.result) = own_fault _ _ (rw (← place, ← c.deref-in-loop-entry.ensures.value) (sym c.in_err-interval.ensures.exact)) in
    rw (p.1, p.2) (stops (next_interval c.args.relay_names.now.keys) c.loop-entry.intervals.items c.entry-item.result _ _ _ fault
    (next_split c.args.entries.now c.loop-entry.entry-index c.entry-item.result c.loop-entry-test.true c.entry-item.is) here c.loop-entry.invariant.so_far)

pub loop-entry-preserved : goal.loop-entry-preserved
loop-entry-preserved c =
    let place : c.place_after-place.result ≡ place_after tables.Interval c.loop-entry.intervals.items = c.place_after-place.ensures ∙ ap (place_after tables.Interval) c.deref.ensures.value in
    let made = c.in_ok-interval.interval in
    let here : next_interval c.args.relay_names.now.keys c.loop-entry.intervals.items c.entry-item.result ≡ Ok made = rw (← place, ← c.deref-in-loop-entry.ensures.value) (sym c.in_ok-interval.ensures.exact) in
    record {
      counted = omega (arith, c.in_ok-push.ensures.len);
      so_far = rw c.in_ok-push.ensures.items (goes_on (next_interval c.args.relay_names.now.keys) c.loop-entry.intervals.items c.entry-item.result _ _ _ made
          (next_split c.args.entries.now c.loop-entry.entry-index c.entry-item.result c.loop-entry-test.true c.entry-item.is) here c.loop-entry.invariant.so_far);
      within = rw c.in_ok-push.ensures.items (All-push (IsIntervalBelow (length c.args.relay_names.now.keys)) c.loop-entry.intervals.items made c.loop-entry.invariant.within c.in_ok-interval.ensures.within);
    }

pub returns-clause-exact : goal.returns-clause-exact
returns-clause-exact c =
    ends (next_interval c.args.relay_names.now.keys) c.loop-entry.intervals.items _ _ (drop_all c.loop-entry.entry-index c.args.entries.now c.loop-entry-test.false) c.loop-entry.invariant.so_far
