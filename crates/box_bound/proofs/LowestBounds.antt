-- The plain bound of a box with one pickup step for each relay is what its lowest settings cost at least.
use Rattle.std.specs.Prelude.{slice_index, ℤ, pos, ◌+ℤ◌, ◌-ℤ◌, ◌≤ℤ◌, None, Some}
use Rattle.std.specs.List.{All}
use Rattle.std.specs.Option.{IfSome}
use Rattle.std.proofs.Common.{◌≡◌, ℕ, suc, ◌+◌, ◌*◌, ◌/◌, ◌<◌, ◌≤◌, [], length, get_or, Option, arith, refl, ap, subst}
use Rattle.std.proofs.Math.Nat.{mul-le-mul_left, mul-le-mul_right}
use Rattle.std.proofs.lemmas.Int.{ints}
use Rattle.std.proofs.lemmas.List.{get_or-map}
use Rattle.std.proofs.lemmas.List.Elements.{Contains-get_or}
use Rattle.std.proofs.lemmas.Option.{slice_get_within}
use Rattle.coord_model.proofs.Quotients.{ceil_covers, ceil_least}
use Rattle.coord_model.specs.Choice.{Settings}
use Rattle.coord_model.specs.Cost.{weight_of}
use Rattle.coord_model.specs.Dial.{dial_at_step, dial_of}
use Rattle.coord_model.specs.declared.study.Term.{Term}
use Rattle.margin_rows.specs.Box.{Box, FitsBox, HasNoEmptySpan, no_steps}
use Rattle.margin_rows.specs.Case.{Case, FitsCase, rows_in, terms_in}
use Rattle.margin_rows.specs.FirstBox.{IsInFirstBox}
use Rattle.margin_rows.specs.Least.{IsStrict, IsStrictLeastOf}
use Rattle.margin_rows.specs.Lowest.{HasOnePickup, lowest_of}
use Rattle.margin_rows.specs.Margin.{MeetsStrictly, time_of}
use Rattle.margin_rows.specs.Price.{cost_of, greatest_sum, least_sum, lower_cost_of, term_sum}
use Rattle.margin_rows.specs.Times.{time_at}
use Rattle.margin_rows.specs.declared.span.Steps.{Steps}
use Rattle.margin_rows.proofs.Costs.{sums_le}
use Rattle.margin_rows.proofs.Dialled.{dial_rises}
use Rattle.margin_rows.proofs.Listed.{term_facts}
use Rattle.margin_rows.proofs.LowestSettings.{lowest_first, lowest_lies}
use Rattle.margin_rows.proofs.SmallSums.{least_sum_small}
use Rattle.margin_rows.proofs.Within.{some_each}
use Rattle.box_bound.specs.DualValue.{IsDualValue, total}
use Rattle.box_bound.specs.RelayParts.{IsLeastPart, dials_of, pickups_of}
use Rattle.box_bound.specs.LowerBound.{bound_at}
use Rattle.box_bound.proofs.Duality.{weak_duality}
use Rattle.box_bound.proofs.Swaps.{between, swap, total_ge}
use Rattle.box_bound.proofs.Values.{end_in}

module _ (case : Case) (box : Box) (limits : FitsCase case) (fits : FitsBox case box) (steps : HasNoEmptySpan box) (one : HasOnePickup box) where
  -- what a relay counts with the lowest settings
  low_part : ℕ → ℕ
  low_part i = dial_of case.study (lowest_of box) i * term_sum case i (slice_index (lowest_of box).pickup i)

  -- each least part is at least that
  low_below : (i : ℕ) (least : ℤ) → i < length case.study.relays → IsLeastPart case 1 [] i (pickups_of box i) (dials_of box i) least → pos (low_part i) ≤ℤ least
  unfolding low_part
  low_below i least below is =
      let in_pickup : i < length box.pickup = omega (arith, below, fits.pickups) in
      let in_dial : i < length box.dial = omega (arith, below, fits.dials) in
      let low_pickup = get_or-map (λ (s : Steps). s.low) box.pickup i no_steps 0 in_pickup in
      let low_dial = get_or-map (λ (s : Steps). s.low) box.dial i no_steps 0 in_dial in
      let single = some_each box.pickup (λ k span. span.past ≡ suc span.low) no_steps one.each i in_pickup in
      let some = some_each box.dial (λ k span. span.low < span.past) no_steps steps.dial i in_dial in
      let s : is.one.0 ≡ slice_index (lowest_of box).pickup i = omega (arith, is.one.2.from, is.one.2.before, single, low_pickup) in
      let d : slice_index (lowest_of box).dial i ≤ is.one.1 = omega (arith, (end_in (dials_of box i) is.one.1 some is.one.3).from, low_dial) in
      plain (dial_at_step case.study i is.one.1) (dial_of case.study (lowest_of box) i) (term_sum case i (slice_index (lowest_of box).pickup i)) least
      (dial_rises case.study i (slice_index (lowest_of box).dial i) is.one.1 d) (rw s at is.one.4)
    where
      plain : (d low t : ℕ) (z : ℤ) → low ≤ d → z ≡ pos (d * (1 * t + 0)) -ℤ pos (d * 0) → pos (low * t) ≤ℤ z
      plain d low t z rises is = more (d * (1 * t + 0)) (d * t) (low * t) (d * 0) z (omega arith) (omega arith) (mul-le-mul_right t rises) is
        where
          more : (x y l o : ℕ) (z : ℤ) → x ≡ y → o ≡ 0 → l ≤ y → z ≡ pos x -ℤ pos o → pos l ≤ℤ z
          more x y l o z same none le is = omega (arith, ints, same, none, le, is)

  -- so the dual value is the least sum of the lowest settings
  pub low_value : (value : ℤ) → IsDualValue case box 1 [] value → value ≡ pos (least_sum case (lowest_of box))
  unfolding low_part
  low_value value is =
      let low = lowest_of box in
      let n = length case.study.relays in
      let under = weak_duality case box 1 [] low value fits (record { rows = λ k d below. absurd (omega (arith, below)); few = omega arith }) is (lowest_lies box steps) (omega arith) in
      let above : pos (between low_part 0 (length is.leasts)) ≤ℤ total is.leasts = total_ge is.leasts low_part 0 (λ k z found.
      let below : k < n = omega (arith, slice_get_within is.leasts k z found, is.count) in
      let least : IsLeastPart case 1 [] k (pickups_of box k) (dials_of box k) z = rw found at (is.each k below) in
      subst (λ (m : ℕ). pos (low_part m) ≤ℤ z) (omega arith) (low_below k z below least)) in
      let of_terms : between low_part 0 n ≡ _ = swap (λ i. dial_of case.study low i) (λ (x : Term). x.relay) (λ x i. weight_of case.study x.fault * (time_at case x.fault i (slice_index low.pickup i)).lower) n (terms_in case)
      (λ k e below. (term_facts case (get_or (terms_in case) k e) (Contains-get_or (terms_in case) k e below)).relay) in
      let cost : least_sum case low * 1 ≤ _ = sums_le (λ (x : Term). weight_of case.study x.fault * dial_of case.study low x.relay * (time_of case low x.fault x.relay).lower)
      (λ (x : Term). dial_of case.study low x.relay * (weight_of case.study x.fault * (time_at case x.fault x.relay (slice_index low.pickup x.relay)).lower)) 1 1 (terms_in case)
      (λ k e below. turned (dial_of case.study low (get_or (terms_in case) k e).relay) (weight_of case.study (get_or (terms_in case) k e).fault) _) in
      let same : between low_part 0 (length is.leasts) ≡ between low_part 0 n = ap (λ (m : ℕ). between low_part 0 m) is.count in
      plain value (total is.leasts) (least_sum case low) _ _ _ is.adds_up under above same of_terms cost
    where
      turned : (d w l : ℕ) → (w * d * l) * 1 ≤ (d * (w * l)) * 1
      turned d w l = omega arith

      plain : (v t : ℤ) (s a b c : ℕ) → v ≡ pos 0 +ℤ t → v ≤ℤ pos (1 * s) → pos a ≤ℤ t → a ≡ b → b ≡ c → s * 1 ≤ c * 1 → v ≡ pos s
      plain v t s a b c is under above x y cost = omega (arith, ints, is, under, above, x, y, cost)

  -- and the plain bound what they cost at least
  pub low_bound : (value : ℤ) → IsDualValue case box 1 [] value → bound_at value 1 ≡ lower_cost_of case (lowest_of box)
  unfolding lower_cost_of
  low_bound value is =
      let few = least_sum_small case (lowest_of box) limits (lowest_first case box fits steps) in
      rw (low_value value is) (plain (least_sum case (lowest_of box)) few)
    where
      plain : (s : ℕ) → s ≤ 512 * 16500000000000000000 → bound_at (pos s) 1 ≡ s / 1000000
      plain s few = omega (arith, few)

-- a choice of the same pickups and no higher dials has no higher cost
pub costs_rise : (case : Case) (low high : Settings) → low.pickup ≡ high.pickup → ((i : ℕ) → slice_index low.dial i ≤ slice_index high.dial i) → cost_of case low ≤ cost_of case high
unfolding cost_of
costs_rise case low high same rises =
    let sums : greatest_sum case low * 1 ≤ greatest_sum case high * 1 = sums_le (λ (x : Term). weight_of case.study x.fault * dial_of case.study low x.relay * (time_of case low x.fault x.relay).upper)
    (λ (x : Term). weight_of case.study x.fault * dial_of case.study high x.relay * (time_of case high x.fault x.relay).upper) 1 1 (terms_in case)
    (λ k e below. rw same (part (weight_of case.study (get_or (terms_in case) k e).fault) _ _ _ (dial_rises case.study (get_or (terms_in case) k e).relay _ _ (rises (get_or (terms_in case) k e).relay)))) in
    ceil_least (greatest_sum case low) 1000000 _ (omega arith) (omega (arith, sums, ceil_covers (greatest_sum case high) 1000000 (omega arith)))
  where
    part : (w a b t : ℕ) → a ≤ b → (w * a * t) * 1 ≤ (w * b * t) * 1
    part w a b t le = let more = mul-le-mul_right t (mul-le-mul_left w le) in omega (arith, more)

-- the strict-least settings of some pickups cost more than the bound and the gap, or there are none
abbrev pub CostsMore : Case → ℕ → Option Settings → Type 0
CostsMore case bound issued = IfSome issued (λ settings. bound < cost_of case settings)

-- then the lowest settings of the box do not strictly meet every row
pub lowest_fails : (case : Case) (box : Box) (issued : Option Settings) (gap : ℕ) → FitsBox case box → HasNoEmptySpan box → IsStrictLeastOf case (lowest_of box).pickup issued
    → ((settings : Settings) → IsInFirstBox case settings → cost_of case settings ≤ lower_cost_of case settings + gap) → CostsMore case (lower_cost_of case (lowest_of box) + gap) issued
    → ¬ (All (MeetsStrictly case (lowest_of box)) (rows_in case))
lowest_fails case box issued gap fits steps least covers more met =
    let low = lowest_of box in
    let inside = lowest_first case box fits steps in
    let strict : IsStrict case low.pickup low = record { same_pickups = refl; on_steps = inside.on_steps; met = met } in
    go issued least more low inside strict
  where
    go : (o : Option Settings) → IsStrictLeastOf case (lowest_of box).pickup o → CostsMore case (lower_cost_of case (lowest_of box) + gap) o → (low : Settings) → IsInFirstBox case (lowest_of box)
        → IsStrict case (lowest_of box).pickup (lowest_of box) → ⊥
    go None none more low inside strict = none (lowest_of box) strict
    go (Some settings) is more low inside strict =
        omega (arith, more, covers (lowest_of box) inside, costs_rise case settings (lowest_of box) is.meet.same_pickups (is.least (lowest_of box) strict))
