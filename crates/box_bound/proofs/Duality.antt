-- Weak duality: settings of the box that loosely meet every row cost at least what the dual value says.
use Rattle.std.specs.Prelude.{slice_get, slice_index, ℤ, pos, negsuc, ◌+ℤ◌, ◌-ℤ◌, ◌*ℤ◌, ◌≤ℤ◌}
use lib.IntN.{neg_ℤ}
use Rattle.std.specs.List.{sum_by, All}
use Rattle.std.proofs.Common.{◌≡◌, ℕ, suc, ◌+◌, ◌-◌, ◌*◌, ◌/◌, ◌<◌, ◌≤◌, List, [], ◌∷◌, length, map, get_or, Some, arith, refl, inl, inr, subst}
use Rattle.std.specs.Option.{IsSomeAnd}
use Rattle.std.proofs.lemmas.Nat.{le-div}
use Rattle.std.proofs.Math.Nat.{div-mul-le_self, le_of_mul-le-mul_left, mul-le-mul_left, mul-le-mul_right}
use Rattle.std.proofs.lemmas.Bool.{cases_lt}
use Rattle.std.proofs.lemmas.Int.{ints}
use Rattle.std.proofs.lemmas.List.Elements.{All-head, All-tail, Contains-get_or}
use Rattle.std.proofs.lemmas.List.Sums.{sum_by-cons}
use Rattle.std.proofs.lemmas.Option.{slice_get_within, slice_get-get_or}
use Rattle.coord_model.specs.Choice.{Settings}
use Rattle.coord_model.specs.Cost.{CostsAtLeast, weight_of}
use Rattle.coord_model.specs.Dial.{dial_at_step, dial_of}
use Rattle.coord_model.specs.declared.study.RowKind.{RowKind}
use Rattle.coord_model.specs.declared.study.RowKind.TheVariants.{Interval, Least, Most}
use Rattle.coord_model.specs.declared.study.Term.{Term}
use Rattle.coord_model.specs.declared.weights.Weight.{Weight}
use Rattle.margin_rows.specs.Box.{Box, IsIn, LiesIn, FitsBox}
use Rattle.margin_rows.specs.Case.{Case, FitsCase, row_at, rows_in, terms_in}
use Rattle.margin_rows.specs.Demands.{asked_ps, fast_part, granted_ps, row_constant, slow_part}
use Rattle.margin_rows.specs.Margin.{time_of, MeetsLoosely}
use Rattle.margin_rows.specs.Price.{least_sum, lower_cost_of, term_part}
use Rattle.margin_rows.specs.Times.{time_at}
use Rattle.margin_rows.specs.declared.span.Steps.{Steps}
use Rattle.margin_rows.proofs.Dialled.{dial_rises}
use Rattle.margin_rows.proofs.Costs.{sums_le, costs_at_least}
use Rattle.margin_rows.proofs.Boxed.{set_terms}
use Rattle.margin_rows.proofs.Inside.{box_lies_first}
use Rattle.margin_rows.proofs.Listed.{at_number, row_facts, term_facts}
use Rattle.margin_rows.proofs.Placed.{of_some}
use Rattle.box_bound.specs.DualValue.{IsDualValue, total, weighted_constant}
use Rattle.box_bound.specs.RelayParts.{IsLeastPart, at_dial, dials_of, gain, loss, part, pickups_of, primary_part}
use Rattle.box_bound.specs.LowerBound.{bound_at}
use Rattle.box_bound.specs.Weighing.{FitWeights}
use Rattle.box_bound.proofs.Swaps.{between, between_mixed, swap, total_le}

-- what is at most a gain less a loss at two dials is so at each dial between them
pub ends_suffice : (low dial high g l : ℕ) (z : ℤ) → low ≤ dial → dial ≤ high → z ≤ℤ at_dial low g l → z ≤ℤ at_dial high g l → z ≤ℤ at_dial dial g l
ends_suffice low dial high g l z above below at_low at_high = elim (cases_lt g l) [
  | inl less ↦ falling (l - g) (omega (arith, less)) (mul-le-mul_right (l - g) below)
  | inr more ↦ rising (g - l) (omega (arith, more)) (mul-le-mul_right (g - l) above)
]
  where
    spread : (d a k b : ℕ) → b ≡ a + k → d * b ≡ d * a + d * k
    spread d a k b is = rw is (omega arith)

    falling : (k : ℕ) → l ≡ g + k → dial * k ≤ high * k → z ≤ℤ at_dial dial g l
    falling k is step = plain (high * g) (high * l) (high * k) (dial * g) (dial * l) (dial * k) z at_high (spread high g k l is) (spread dial g k l is) step
      where
        plain : (hg hl hk dg dl dk : ℕ) (z : ℤ) → z ≤ℤ (pos hg -ℤ pos hl) → hl ≡ hg + hk → dl ≡ dg + dk → dk ≤ hk → z ≤ℤ (pos dg -ℤ pos dl)
        plain hg hl hk dg dl dk z a h d b = omega (arith, ints, a, h, d, b)

    rising : (k : ℕ) → g ≡ l + k → low * k ≤ dial * k → z ≤ℤ at_dial dial g l
    rising k is step = plain (low * g) (low * l) (low * k) (dial * g) (dial * l) (dial * k) z at_low (spread low l k g is) (spread dial l k g is) step
      where
        plain : (hg hl hk dg dl dk : ℕ) (z : ℤ) → z ≤ℤ (pos hg -ℤ pos hl) → hg ≡ hl + hk → dg ≡ dl + dk → hk ≤ dk → z ≤ℤ (pos dg -ℤ pos dl)
        plain hg hl hk dg dl dk z a h d b = omega (arith, ints, a, h, d, b)

-- weighted constants are what rows ask for less what they grant
module _ (case : Case) where
  abbrev pub asked_of : Weight → ℕ
  asked_of w = w.weight * asked_ps case.study (row_at case w.row)

  abbrev pub granted_of : Weight → ℕ
  granted_of w = w.weight * granted_ps case.study (row_at case w.row)

  one_constant : (y a g : ℕ) (z : ℤ) → z ≡ pos a -ℤ pos g → pos y *ℤ z ≡ pos (y * a) -ℤ pos (y * g)
  one_constant y a g (pos n) is = let whole : a ≡ n + g = omega (arith, ints, is) in rw whole (split (y * (n + g)) (y * n) (y * g) (omega arith))
    where
      split : (s p q : ℕ) → s ≡ p + q → pos p ≡ pos s -ℤ pos q
      split s p q is = omega (arith, ints, is)
  one_constant y a g (negsuc n) is = let whole : g ≡ a + suc n = omega (arith, ints, is) in rw whole (split (y * (a + suc n)) (y * a) (y * suc n) (omega arith))
    where
      split : (s p q : ℕ) → s ≡ p + q → neg_ℤ (pos q) ≡ pos p -ℤ pos s
      split s p q is = omega (arith, ints, is)

  constants_are : (vs : List Weight) → total (map (weighted_constant case) vs) ≡ pos (sum_by asked_of vs) -ℤ pos (sum_by granted_of vs)
  unfolding row_constant
  constants_are [] = refl
  constants_are (w ∷ vs) =
      let row = row_at case w.row in
      rw (sum_by-cons asked_of w vs, sum_by-cons granted_of w vs)
      (plain (weighted_constant case w) (total (map (weighted_constant case) vs)) (asked_of w) (granted_of w) (sum_by asked_of vs) (sum_by granted_of vs)
      (one_constant w.weight (asked_ps case.study row) (granted_ps case.study row) (row_constant case.study row) refl) (constants_are vs))
    where
      plain : (z t : ℤ) (a g bs gs : ℕ) → z ≡ pos a -ℤ pos g → t ≡ pos bs -ℤ pos gs → z +ℤ t ≡ pos (a + bs) -ℤ pos (g + gs)
      plain z t a g bs gs one others = omega (arith, ints, one, others)

module _ (case : Case) (box : Box) (lambda : ℕ) (ws : List Weight) (settings : Settings) where
  -- the weighted times of a row's fast relay, and of its slow relay, with the settings
  abbrev pub fast_of : Weight → ℕ
  fast_of w = let row = row_at case w.row in dial_of case.study settings row.primary * fast_part row.kind (w.weight * (time_of case settings row.fault row.primary).lower)

  abbrev pub slow_of : Weight → ℕ
  slow_of w = let row = row_at case w.row in dial_of case.study settings row.backup * slow_part row.kind (w.weight * (time_of case settings row.fault row.backup).upper)

  -- the least part of a relay is at most its part with the settings
  least_below : (i : ℕ) (least : ℤ) → IsIn (pickups_of box i) (slice_index settings.pickup i) → IsIn (dials_of box i) (slice_index settings.dial i)
      → IsLeastPart case lambda ws i (pickups_of box i) (dials_of box i) least → least ≤ℤ part case lambda ws i (slice_index settings.pickup i) (slice_index settings.dial i)
  least_below i least in_pickups in_dials is =
      let s = slice_index settings.pickup i in
      let d = slice_index settings.dial i in
      let dials = dials_of box i in
      let last : suc (dials.past - 1) ≡ dials.past = omega (arith, in_dials.before) in
      ends_suffice (dial_at_step case.study i dials.low) (dial_at_step case.study i d) (dial_at_step case.study i (dials.past - 1)) (gain case lambda ws i s) (loss case ws i s) least
      (dial_rises case.study i dials.low d in_dials.from) (dial_rises case.study i d (dials.past - 1) (omega (arith, in_dials.before)))
      (is.none_less s dials.low in_pickups (inl refl)) (is.none_less s (dials.past - 1) in_pickups (inr last))

  -- weighted rows that are met: the primaries and what is asked are at most the backups and what is granted
  pub rows_met : (vs : List Weight) → All (λ w. w.row < length (rows_in case)) vs → All (MeetsLoosely case settings) (rows_in case)
      → sum_by fast_of vs + sum_by (asked_of case) vs ≤ sum_by slow_of vs + sum_by (granted_of case) vs
  rows_met [] within met = omega arith
  rows_met (w ∷ vs) within met =
      let P = λ (v : Weight). v.row < length (rows_in case) in
      let row = row_at case w.row in
      let here = met w.row (record { kind = Interval; fault = 0; backup = 0; primary = 0 }) (All-head P w vs within) in
      let others = rows_met vs (All-tail P w vs within) met in
      let more = mul-le-mul_left w.weight here in
      rw (sum_by-cons fast_of w vs, sum_by-cons slow_of w vs, sum_by-cons (asked_of case) w vs, sum_by-cons (granted_of case) w vs)
      (plain row.kind w.weight (dial_of case.study settings row.primary) (time_of case settings row.fault row.primary).lower (dial_of case.study settings row.backup) (time_of case settings row.fault row.backup).upper
      (asked_ps case.study row) (granted_ps case.study row) (sum_by fast_of vs) (sum_by (asked_of case) vs) (sum_by slow_of vs) (sum_by (granted_of case) vs) more others)
    where
      plain : (kind : RowKind) (y dp lp db ub a g fs bs ss gs : ℕ) → y * (fast_part kind (dp * lp) + a) ≤ y * (slow_part kind (db * ub) + g) → fs + bs ≤ ss + gs
          → (dp * fast_part kind (y * lp) + fs) + (y * a + bs) ≤ (db * slow_part kind (y * ub) + ss) + (y * g + gs)
      plain Interval y dp lp db ub a g fs bs ss gs one others = omega (arith, one, others)
      plain Least y dp lp db ub a g fs bs ss gs one others = omega (arith, one, others)
      plain Most y dp lp db ub a g fs bs ss gs one others = omega (arith, one, others)

  -- where the settings lie in the box, the least parts add up to at most the parts with the settings
  leasts_below : (leasts : List ℤ) → LiesIn box settings → FitsBox case box → length leasts ≡ length case.study.relays
      → ((i : ℕ) → i < length case.study.relays → IsSomeAnd (slice_get leasts i) (IsLeastPart case lambda ws i (pickups_of box i) (dials_of box i)))
      → total leasts ≤ℤ (pos (between (λ i. dial_of case.study settings i * gain case lambda ws i (slice_index settings.pickup i)) 0 (length case.study.relays))
      -ℤ pos (between (λ i. dial_of case.study settings i * loss case ws i (slice_index settings.pickup i)) 0 (length case.study.relays)))
  leasts_below leasts lies fits count each =
      let g = λ (i : ℕ). dial_of case.study settings i * gain case lambda ws i (slice_index settings.pickup i) in
      let l = λ (i : ℕ). dial_of case.study settings i * loss case ws i (slice_index settings.pickup i) in
      subst (λ (n : ℕ). total leasts ≤ℤ (pos (between g 0 n) -ℤ pos (between l 0 n))) count
      (total_le leasts g l 0 (λ k z found. subst (λ (n : ℕ). z ≤ℤ (pos (g n) -ℤ pos (l n))) (omega arith) (here k z found)))
    where
      here : (k : ℕ) (z : ℤ) → slice_get leasts k ≡ Some z → z ≤ℤ part case lambda ws k (slice_index settings.pickup k) (slice_index settings.dial k)
      here k z found =
          let none : Steps = record { low = 0; past = 0 } in
          let below : k < length case.study.relays = omega (arith, slice_get_within leasts k z found, count) in
          let in_pickups = of_some (slice_get box.pickup k) (λ span. IsIn span (slice_index settings.pickup k)) (pickups_of box k) (slice_get-get_or box.pickup k none (omega (arith, below, fits.pickups))) (lies.pickup.each k) in
          let in_dials = of_some (slice_get box.dial k) (λ span. IsIn span (slice_index settings.dial k)) (dials_of box k) (slice_get-get_or box.dial k none (omega (arith, below, fits.dials))) (lies.dial.each k) in
          let is : IsLeastPart case lambda ws k (pickups_of box k) (dials_of box k) z = rw found at (each k below) in
          least_below k z in_pickups in_dials is

  -- so the dual value is at most lambda times the cost
  pub weak_duality : (value : ℤ) → FitsBox case box → FitWeights case ws → IsDualValue case box lambda ws value → LiesIn box settings
      → sum_by fast_of ws + sum_by (asked_of case) ws ≤ sum_by slow_of ws + sum_by (granted_of case) ws → value ≤ℤ pos (lambda * least_sum case settings)
  weak_duality value fits fit is lies balanced =
      let n = length case.study.relays in
      let d = λ (i : ℕ). dial_of case.study settings i in
      let s = λ (i : ℕ). slice_index settings.pickup i in
      let t = λ (i : ℕ). sum_by (term_part case i (s i)) (terms_in case) in
      let p = λ (i : ℕ). sum_by (primary_part case i (s i)) ws in
      let of_terms : between (λ i. d i * t i) 0 n ≡ _ = swap d (λ (x : Term). x.relay) (λ x i. weight_of case.study x.fault * (time_at case x.fault i (s i)).lower) n (terms_in case)
      (λ k e below. (term_facts case (get_or (terms_in case) k e) (Contains-get_or (terms_in case) k e below)).relay) in
      let of_primaries : between (λ i. d i * p i) 0 n ≡ sum_by fast_of ws = swap d (λ (w : Weight). (row_at case w.row).primary) (λ w i. fast_part (row_at case w.row).kind (w.weight * (time_at case (row_at case w.row).fault i (s i)).lower)) n ws
      (λ k e below. (row_facts case (row_at case (get_or ws k e).row) (at_number case (get_or ws k e).row (fit.rows k e below))).primary) in
      let of_backups : between (λ i. d i * loss case ws i (s i)) 0 n ≡ sum_by slow_of ws = swap d (λ (w : Weight). (row_at case w.row).backup) (λ w i. slow_part (row_at case w.row).kind (w.weight * (time_at case (row_at case w.row).fault i (s i)).upper)) n ws
      (λ k e below. (row_facts case (row_at case (get_or ws k e).row) (at_number case (get_or ws k e).row (fit.rows k e below))).backup) in
      let cost : _ ≤ least_sum case settings * 1 = sums_le (λ (x : Term). d x.relay * (weight_of case.study x.fault * (time_at case x.fault x.relay (s x.relay)).lower))
      (λ (x : Term). weight_of case.study x.fault * dial_of case.study settings x.relay * (time_of case settings x.fault x.relay).lower) 1 1 (terms_in case)
      (λ k e below. turned (dial_of case.study settings (get_or (terms_in case) k e).relay) (weight_of case.study (get_or (terms_in case) k e).fault) _) in
      plain value (total (map (weighted_constant case) ws)) (total is.leasts) lambda _ _ _ (between (λ i. d i * t i) 0 n) (between (λ i. d i * p i) 0 n) _ _ _ _ (least_sum case settings) is.adds_up (constants_are case ws)
      (leasts_below is.leasts lies fits is.count is.each) (between_mixed lambda d t p n) of_terms of_primaries of_backups cost balanced
    where
      turned : (d w l : ℕ) → (d * (w * l)) * 1 ≤ (w * d * l) * 1
      turned d w l = omega arith

      plain : (v fixed total : ℤ) (lambda a g gains t p l ts ps ls s : ℕ) → v ≡ fixed +ℤ total → fixed ≡ pos a -ℤ pos g → total ≤ℤ (pos gains -ℤ pos l) → gains ≡ lambda * t + p → t ≡ ts → p ≡ ps → l ≡ ls
          → ts * 1 ≤ s * 1 → ps + a ≤ ls + g → v ≤ℤ pos (lambda * s)
      plain v fixed total lambda a g gains t p l ts ps ls s is const under mixed x b c cost met =
          let scaled : lambda * t ≤ lambda * s = mul-le-mul_left lambda (omega (arith, x, cost)) in
          atoms v fixed total a g gains (lambda * t) (lambda * s) p l ps ls is const under mixed scaled b c met
        where
          atoms : (v fixed total : ℤ) (a g gains x y p l ps ls : ℕ) → v ≡ fixed +ℤ total → fixed ≡ pos a -ℤ pos g → total ≤ℤ (pos gains -ℤ pos l) → gains ≡ x + p → x ≤ y → p ≡ ps → l ≡ ls → ps + a ≤ ls + g → v ≤ℤ pos y
          atoms v fixed total a g gains x y p l ps ls is const under mixed scaled b c met = omega (arith, ints, is, const, under, mixed, scaled, b, c, met)

-- the bound of a number that is at most lambda times the least sum is at most the least that the settings cost
pub bound_below : (lambda least : ℕ) (v : ℤ) → 1 ≤ lambda → v ≤ℤ pos (lambda * least) → bound_at v lambda ≤ least / 1000000
bound_below lambda least (pos v) some under =
    let few : v ≤ lambda * least = omega (arith, ints, under) in
    let q = v / (lambda * 1000000) in
    let whole : q * (lambda * 1000000) ≤ v = div-mul-le_self v (lambda * 1000000) in
    let scaled : lambda * (q * 1000000) ≤ lambda * least = omega (arith, whole, few) in
    let falls : q ≤ least / 1000000 = le-div q least 1000000 (omega arith) (le_of_mul-le-mul_left scaled some) in
    omega (arith, falls)
bound_below lambda least (negsuc v) some under = omega arith

-- settings of the box that loosely meet every row cost at least the bound of its dual value
pub bound_costs : (case : Case) (box : Box) (settings : Settings) (lambda : ℕ) (value : ℤ) → FitsCase case → FitsBox case box → LiesIn box settings → 1 ≤ lambda
    → value ≤ℤ pos (lambda * least_sum case settings) → CostsAtLeast case.study case.currents settings (bound_at value lambda)
unfolding lower_cost_of
bound_costs case box settings lambda value limits fits lies some under q n positive over =
    let inside = box_lies_first case box settings fits lies in
    let whole = costs_at_least case settings (set_terms case settings limits inside) q n positive over in
    let lower = bound_below lambda (least_sum case settings) value some under in
    let more : bound_at value lambda * q ≤ (least_sum case settings / 1000000) * q = mul-le-mul_right q lower in
    omega (arith, more, whole)
