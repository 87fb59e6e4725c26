-- The multiples at which a relay's time is enclosed.
use Rattle.std.proofs.Common.{◌≡◌, ℕ, Bool, true, false, cond, leb, ◌-◌, ◌*◌, ◌<◌, ◌≤◌, arith, refl, inl, inr, lit≤}
use Rattle.std.proofs.Math.Nat.{mul-le-mul_right}
use Rattle.std.proofs.lemmas.Bool.{leb-false, lt-leb}
use Rattle.std.proofs.lemmas.Nat.{mul-le}
use Rattle.coord_model.specs.Allowed.{Senses}
use Rattle.coord_model.specs.Enclosure.{IsEnclosable}
use Rattle.coord_model.specs.Limits.{FitsStudy}
use Rattle.coord_model.specs.PartLimits.{FitsRelay}
use Rattle.coord_model.specs.StudyData.{StudyData}
use Rattle.coord_model.specs.Time.{Multiple, plug_at, sensed_multiple, capped}
use Rattle.coord_model.specs.declared.study.Relay.{Relay}

-- the plug at a pickup step is at most the last one
pub plug_small : (study : StudyData) (relay : Relay) (step : ℕ) → FitsRelay study relay → step < relay.plug_count → plug_at relay step ≤ 10000
plug_small study relay step fits below =
    let steps : step * relay.plug_step ≤ (relay.plug_count - 1) * relay.plug_step = mul-le-mul_right relay.plug_step (omega (arith, below)) in
    omega (arith, steps, fits.last_plug)

-- the plug rises with the step
pub plug_rises : (relay : Relay) (step later : ℕ) → step ≤ later → plug_at relay step ≤ plug_at relay later
plug_rises relay step later below = omega (arith, mul-le-mul_right relay.plug_step below)

pub secondary_few : (study : StudyData) (relay : Relay) → FitsRelay study relay → (1 ≤ relay.ct_secondary) × (relay.ct_secondary ≤ 5)
secondary_few study relay fits = elim fits.ct_secondary [ inl e ↦ (omega (arith, e), omega (arith, e)) | inr e ↦ (omega (arith, e), omega (arith, e)) ]

-- the numbers of a multiple of pickup are small
pub record IsSmall (m : Multiple) : Type 0 where
  pub num : m.num ≤ 50000000
  pub some : 1 ≤ m.den
  pub den : m.den ≤ 100000000

pub multiple_small : (study : StudyData) (relay : Relay) (step amps : ℕ) → FitsRelay study relay → step < relay.plug_count → amps ≤ 100000 → IsSmall (sensed_multiple relay step amps)
multiple_small study relay step amps fits below few =
    let second = secondary_few study relay fits in
    let num : amps * relay.ct_secondary ≤ 100000 * 5 = mul-le amps relay.ct_secondary 100000 5 few second.1 in
    let den : plug_at relay step * relay.ct_primary ≤ 10000 * 10000 = mul-le (plug_at relay step) relay.ct_primary 10000 10000 (plug_small study relay step fits below) fits.ct_primary.at_most in
    let some_plug : 1 ≤ plug_at relay step = omega (arith, fits.plug_first.at_least) in
    let some : 1 * 1 ≤ plug_at relay step * relay.ct_primary = mul-le 1 1 (plug_at relay step) relay.ct_primary some_plug fits.ct_primary.at_least in
    record { num = omega (arith, num); some = some; den = den }

-- a multiple at the sensing limit or above, capped, is one that is enclosed
capped_enclosable : (cap sense : ℕ) (m : Multiple) (b : Bool) → leb (cap * m.den) m.num ≡ b → 5 ≤ cap → cap ≤ 30 → 105 ≤ sense → sense * m.den ≤ 100 * m.num → IsSmall m
    → IsEnclosable (cond b (record { num = cap; den = 1 }) m)
capped_enclosable cap sense m true is five thirty senses sensed small =
    record { num = omega (arith, thirty); some = lit≤ tt; den = lit≤ tt; above_one = omega (arith, five); at_most_thirty = omega (arith, thirty) }
capped_enclosable cap sense m false is five thirty senses sensed small =
    let above : 105 * m.den ≤ sense * m.den = mul-le-mul_right m.den senses in
    let below : m.num < cap * m.den = leb-false (cap * m.den) m.num is in
    let most : cap * m.den ≤ 30 * m.den = mul-le-mul_right m.den thirty in
    record {
      num = omega (arith, small.num);
      some = small.some;
      den = small.den;
      above_one = omega (arith, above, sensed);
      at_most_thirty = omega (arith, below, most);
    }

pub sensed_enclosable : (study : StudyData) (relay : Relay) (step amps : ℕ) → FitsStudy study → FitsRelay study relay → step < relay.plug_count → amps ≤ 100000
    → Senses study relay step amps → IsEnclosable (capped study.cap (sensed_multiple relay step amps))
sensed_enclosable study relay step amps fits relay_fits below few senses =
    capped_enclosable study.cap study.sense (sensed_multiple relay step amps) (leb (study.cap * (sensed_multiple relay step amps).den) (sensed_multiple relay step amps).num) refl
    fits.cap.at_least fits.cap.at_most fits.sense.at_least senses (multiple_small study relay step amps relay_fits below few)

-- a multiple below the cap is enclosed as it is
pub below_cap : (study : StudyData) (relay : Relay) (step amps : ℕ) → FitsStudy study → FitsRelay study relay → step < relay.plug_count → amps ≤ 100000
    → Senses study relay step amps → (sensed_multiple relay step amps).num < study.cap * (sensed_multiple relay step amps).den → IsEnclosable (sensed_multiple relay step amps)
below_cap study relay step amps fits relay_fits below few senses under =
    capped_enclosable study.cap study.sense (sensed_multiple relay step amps) false (lt-leb (study.cap * (sensed_multiple relay step amps).den) (sensed_multiple relay step amps).num under)
    fits.cap.at_least fits.cap.at_most fits.sense.at_least senses (multiple_small study relay step amps relay_fits below few)
