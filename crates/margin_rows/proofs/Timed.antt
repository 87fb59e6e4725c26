-- The times of a case at settings of the first box.
use Rattle.std.specs.Prelude.{◌&&◌, ◌==◌, nat_lt, slice_get}
use Rattle.std.proofs.Common.{◌≡◌, ℕ, ◌+◌, ◌^◌, ◌<◌, ◌≤◌, Bool, true, false, cond, List, [], ◌∷◌, Some, arith, refl, subst}
use Rattle.std.proofs.lemmas.Option.{slice_get_within, get_or_from_slice_get}
use Rattle.std.proofs.lemmas.List.Elements.{All-head, All-tail}
use Rattle.std.specs.List.{All}
use Rattle.coord_model.specs.Allowed.{Senses}
use Rattle.coord_model.specs.Enclosure.{IsEnclosable, width_of}
use Rattle.coord_model.specs.Form.{form_of, is_custom}
use Rattle.coord_model.specs.Limits.{FitsStudy, FitsCurrents, FitsCurrent}
use Rattle.coord_model.specs.PartLimits.{FitsCurve, FitsRelay}
use Rattle.coord_model.specs.Rows.{amps_at}
use Rattle.coord_model.specs.StudyData.{StudyData}
use Rattle.coord_model.specs.Time.{sensed_multiple, capped, IsUnder, IsOver}
use Rattle.coord_model.specs.declared.study.Current.{Current}
use Rattle.coord_model.specs.declared.study.Relay.{Relay}
use Rattle.margin_rows.specs.Case.{Case}
use Rattle.margin_rows.specs.Reach.{steps_of}
use Rattle.margin_rows.specs.Times.{relay_time, time_at, width_at, IsOrdinary}
use Rattle.margin_rows.proofs.Curves.{time_keeps, time_is_ordinary}
use Rattle.margin_rows.proofs.Multiples.{sensed_enclosable}

-- a fact on each element holds of the one at a place
pub at_place : {X : Type 0} (P : X → Type 0) (xs : List X) (i : ℕ) (x : X) → All P xs → slice_get xs i ≡ Some x → P x
at_place P xs i x all found = subst P (get_or_from_slice_get xs i x x found) (all i x (slice_get_within xs i x found))

-- a current is at most the limit
pub amps_few : (study : StudyData) (entries : List Current) (f r : ℕ) → All (FitsCurrent study) entries → amps_at entries f r ≤ 100000
amps_few study [] f r fits = omega arith
amps_few study (entry ∷ entries) f r fits =
    found_few entry f r (amps_at entries f r) ((entry.fault == f) && (entry.relay == r) && nat_lt 0 entry.amps)
    (All-head (FitsCurrent study) entry entries fits).amps (amps_few study entries f r (All-tail (FitsCurrent study) entry entries fits))
  where
    found_few : (entry : Current) (f r rest : ℕ) (b : Bool) → entry.amps ≤ 100000 → rest ≤ 100000 → cond b entry.amps rest ≤ 100000
    found_few entry f r rest true first others = first
    found_few entry f r rest false first others = others

-- the relay, at a step that senses its current
pub record IsTimedAt (case : Case) (f i step : ℕ) : Type 0 where
  pub relay : Relay
  pub found : slice_get case.study.relays i ≡ Some relay
  pub below : step < relay.plug_count
  pub senses : Senses case.study relay step (amps_at case.currents f i)

-- its time is enclosed
pub record IsEnclosed (case : Case) (f i step : ℕ) : Type 0 where
  pub relay : Relay
  pub found : slice_get case.study.relays i ≡ Some relay
  pub curve : FitsCurve relay.curve
  pub time : time_at case f i step ≡ relay_time case.study.cap relay step (amps_at case.currents f i)
  pub ordinary : IsOrdinary (time_at case f i step)
  pub narrow : (time_at case f i step).upper ≤ (time_at case f i step).lower + width_at case i
  pub under : IsUnder (form_of relay.curve) (capped case.study.cap (sensed_multiple relay step (amps_at case.currents f i))) (time_at case f i step).lower (10 ^ 9)
  pub over : IsOver (form_of relay.curve) (capped case.study.cap (sensed_multiple relay step (amps_at case.currents f i))) (time_at case f i step).upper (10 ^ 9)
  pub enclosable : IsEnclosable (capped case.study.cap (sensed_multiple relay step (amps_at case.currents f i)))

-- the pickup steps of a relay that is there
pub steps_there : (case : Case) (i : ℕ) (relay : Relay) → slice_get case.study.relays i ≡ Some relay → steps_of case i ≡ relay.plug_count
steps_there case i relay found = rw found refl

-- the time of a relay that is there
pub time_found : (case : Case) (f i step : ℕ) (relay : Relay) → slice_get case.study.relays i ≡ Some relay
    → time_at case f i step ≡ relay_time case.study.cap relay step (amps_at case.currents f i)
time_found case f i step relay found = rw found refl

width_found : (case : Case) (i : ℕ) (relay : Relay) → slice_get case.study.relays i ≡ Some relay → width_at case i ≡ width_of (is_custom relay.curve) (form_of relay.curve)
width_found case i relay found = rw found refl

pub enclosed : (case : Case) (f i step : ℕ) → FitsStudy case.study → FitsCurrents case.study case.currents → IsTimedAt case f i step → IsEnclosed case f i step
enclosed case f i step fits currents timed =
    let relay = timed.relay in
    let relay_fits = at_place (FitsRelay case.study) case.study.relays i relay fits.relays timed.found in
    let few = amps_few case.study case.currents f i currents.each in
    let within = sensed_enclosable case.study relay step (amps_at case.currents f i) fits relay_fits timed.below few timed.senses in
    let is = time_found case f i step relay timed.found in
    record {
      relay = relay;
      found = timed.found;
      curve = relay_fits.curve;
      time = is;
      ordinary = rw is (time_is_ordinary relay.curve _ relay_fits.curve within);
      narrow = rw (is, width_found case i relay timed.found) (time_keeps relay.curve _ relay_fits.curve within).narrow;
      under = rw is (time_keeps relay.curve _ relay_fits.curve within).under;
      over = rw is (time_keeps relay.curve _ relay_fits.curve within).over;
      enclosable = within;
    }
