use Rattle.coord_model.specs.StudyData.{study_data, StudyData}
use Rattle.std.proofs.Common.{arith, ap, ◌∙◌, ◌≡◌, ◌+◌, ◌*◌, ℕ, length, get_or, set, Some}
use Rattle.std.specs.Prelude.{slice_get}
use Rattle.std.proofs.lemmas.Nat.{mul-add-lt}
use Rattle.margin_rows.specs.Tables.{cells}
use Rattle.margin_rows.proofs.Ran.{run_made, start_there, runs_more, place_is}
use Rattle.margin_rows.proofs.Reached.{relay_there}
use Rattle.margin_rows.proofs.Timed.{amps_few}
use Rattle.margin_rows.proofs.runs.run_of.Goals as goal

pub push_run-requires-clause-amps : goal.push_run-requires-clause-amps
push_run-requires-clause-amps c =
    omega (arith, c.amps.ensures, amps_few c.args.given.now.study c.args.given.now.currents c.args.fault c.args.relay c.study-study.ensures.currents.each)

pub returns-in-Some-clause-run : goal.returns-in-Some-clause-run
returns-in-Some-clause-run c =
    let case = c.args.given.now in
    let relays = length case.study.relays in
    let width : c.len.result ≡ relays = omega (arith, c.len.ensures, c.study-study.result.now.relays.ok.0, ap (λ (s : StudyData). length s.relays) c.study-study.ensures.value) in
    let place = place_is c.from.result c.len.result c.from-2.result c.args.fault c.args.relay relays c.from.ensures width c.from-2.ensures in
    let fits = mul-add-lt c.args.fault relays c.args.relay (length case.study.faults) c.requires.fault c.requires.relay in
    c.requires.runs.each c.args.fault c.args.relay c.in-Some.start c.requires.fault c.requires.relay
    (start_there c.args.runs.now.starts.items (c.args.fault * relays + c.args.relay) c.in-Some.start c.index.result.now (omega (arith, fits, c.requires.runs.count))
    (c.index.ensures ∙ ap (λ (k : ℕ). get_or c.args.runs.now.starts.items k c.index.result.now) place) c.in-Some.is)

pub returns-clause-run : goal.returns-clause-run
returns-clause-run c =
    let case = c.args.given.now in
    let study = study_data c.study-study.result.now in
    let found : slice_get case.study.relays c.args.relay ≡ Some c.index-2.result.now =
    relay_there case study c.args.relay c.index-2.result.now c.study-study.ensures.value (omega (arith, c.requires.relay, ap (λ (s : StudyData). length s.relays) c.study-study.ensures.value))
    (c.index-2.ensures ∙ ap (λ (k : ℕ). get_or study.relays k c.index-2.result.now) c.from-3.ensures) in
    run_made case study c.args.runs.now.times.items c.push_run.new.times.items c.args.fault c.args.relay c.len-start.result c.amps.result c.index-2.result.now c.study-study.ensures.value found c.amps.ensures
    (omega (arith, c.len-start.ensures, c.args.runs.now.times.ok.0)) c.in_ok-push_run.ensures

pub returns-clause-runs : goal.returns-clause-runs
returns-clause-runs c =
    let case = c.args.given.now in
    let study = study_data c.study-study.result.now in
    let relays = length case.study.relays in
    let width : c.len.result ≡ relays = omega (arith, c.len.ensures, c.study-study.result.now.relays.ok.0, ap (λ (s : StudyData). length s.relays) c.study-study.ensures.value) in
    let place = place_is c.from.result c.len.result c.from-2.result c.args.fault c.args.relay relays c.from.ensures width c.from-2.ensures in
    let found : slice_get case.study.relays c.args.relay ≡ Some c.index-2.result.now =
    relay_there case study c.args.relay c.index-2.result.now c.study-study.ensures.value (omega (arith, c.requires.relay, ap (λ (s : StudyData). length s.relays) c.study-study.ensures.value))
    (c.index-2.ensures ∙ ap (λ (k : ℕ). get_or study.relays k c.index-2.result.now) c.from-3.ensures) in
    let run = run_made case study c.args.runs.now.times.items c.push_run.new.times.items c.args.fault c.args.relay c.len-start.result c.amps.result c.index-2.result.now c.study-study.ensures.value found c.amps.ensures
    (omega (arith, c.len-start.ensures, c.args.runs.now.times.ok.0)) c.in_ok-push_run.ensures in
    runs_more case c.args.runs.now _ c.args.fault c.args.relay c.len-start.result c.requires.runs c.requires.fault c.requires.relay
    (cells study c.index-2.result.now c.amps.result, c.in_ok-push_run.ensures) (ap (λ (k : ℕ). set c.args.runs.now.starts.items k (Some c.len-start.result)) place) run
