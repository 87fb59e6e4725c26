use Rattle.std.proofs.Common.{◌≡◌, length, ap, ◌∙◌, arith}
use Rattle.std.proofs.lemmas.List.{length-map}
use Rattle.std.proofs.lemmas.Result.{err_from_is_err_and}
use Rattle.network_file.proofs.FitsParts.{lines_fit, relays_fit, faults_fit, pairs_fit, intervals_fit}
use Rattle.network_file.proofs.study.study_of.Goals as goal

pub returns-in_err-from_slice-clause-exact : goal.returns-in_err-from_slice-clause-exact
returns-in_err-from_slice-clause-exact c =
    let p = err_from_is_err_and c.from_residual-in_err-from_slice.result c.from_residual-in_err-from_slice.ensures.1 in
    rw (p.1, p.2) tt

pub returns-clause-fits : goal.returns-clause-fits
returns-clause-fits c =
    let buses : c.in_ok-from_slice.field-0.items ≡ c.in_ok-grid.grid.buses.keys = c.in_ok-from_slice.ensures.items ∙ c.as_slice.ensures.keys in
    let names : length c.in_ok-relays.relay_names.keys ≡ length c.in_ok-relays.relays.items = ap length c.in_ok-relays.ensures.named ∙ length-map _ _ in
    let line_count : length c.in_ok-grid.grid.lines.items ≡ length c.args.told.now.lines.items =
    omega (arith, c.in_ok-grid.ensures.count, c.in_ok-grid.grid.lines.ok.0, ap length c.deref.ensures.value) in
    let relay_count : length c.in_ok-relays.relays.items ≡ length c.args.told.now.relays.items =
    omega (arith, c.in_ok-relays.ensures.count, c.in_ok-relays.relays.ok.0, ap length c.deref-2.ensures.value) in
    record {
      format = c.requires.format;
      cti_ms = c.requires.study.cti_ms;
      sense = c.requires.study.sense;
      cap = c.requires.study.cap;
      load_percent = c.requires.study.load_percent;
      bus_count = rw buses c.in_ok-grid.ensures.few;
      line_count = rw line_count c.requires.line_count;
      relay_count = rw relay_count c.requires.relay_count;
      fault_count = omega (arith, c.in_ok-faults.ensures.count, c.in_ok-faults.faults.ok.0, ap length c.deref-4.ensures.value);
      exempt_count = omega (arith, c.in_ok-exempt.ensures.count, c.in_ok-exempt.exempt.ok.0, ap length c.deref-5.ensures.value);
      interval_count = omega (arith, c.in_ok-intervals.ensures.count, c.in_ok-intervals.intervals.ok.0, ap length c.deref-6.ensures.value);
      pickup_steps = rw (← c.deref-3.ensures.value, ← c.pickup_steps.ensures) c.in_ok-within.ensures.few;
      lines = lines_fit _ (rw buses c.in_ok-grid.ensures.fits);
      relays = relays_fit _ (rw buses c.in_ok-relays.ensures.fits);
      apart = c.in_ok-relays.ensures.apart;
      faults = faults_fit _ (rw buses c.in_ok-faults.ensures.fits);
      exempt = pairs_fit _ (rw (← names) c.in_ok-exempt.ensures.within);
      intervals = intervals_fit _ (rw (← names) c.in_ok-intervals.ensures.within);
    }
