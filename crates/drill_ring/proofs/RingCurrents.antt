-- The currents of a ring of 3 to 48 buses are within the limits.
use Rattle.std.proofs.Common.{◌≡◌, ℕ, ◌+◌, ◌*◌, ◌<◌, ◌≤◌, List, [], ◌∷◌, refl, arith}
use Rattle.std.proofs.lemmas.List.Elements.{All-nil, All-cons, All-append}
use Rattle.std.proofs.lemmas.Nat.{mod_below}
use Rattle.std.specs.List.{All}
use Rattle.coord_model.specs.Limits.{FitsStudy, FitsCurrent, FitsCurrents}
use Rattle.coord_model.specs.StudyData.{StudyData}
use Rattle.coord_model.specs.declared.study.Current.{Current}
use Rattle.drill_ring.specs.Drill.{after, drill_data}
use Rattle.drill_ring.specs.DrillCurrents.{before, first, second, variation, current_of, currents_at, at_x, at_y, currents_of, drill_currents}
use Rattle.drill_ring.proofs.Joined.{all_joined, length_joined}
use Rattle.drill_ring.proofs.Ring.{IsRing, IsOn, on_ring, after_on, before_on, relay_count, fault_count, study_fits}

first_below : (n k : ℕ) → IsOn n k → first k < 2 * n
first_below n k on = omega arith

second_below : (n k : ℕ) → IsOn n k → second k < 2 * n
second_below n k on = omega arith

small : (k : ℕ) → variation k ≤ 10
small k = omega (arith, mod_below (7 * k) 11 (omega arith))

current_fits : (n fault relay amps : ℕ) → fault < 2 * n → relay < 2 * n → amps ≤ 100000 → FitsCurrent (drill_data n) (current_of fault relay amps)
current_fits n fault relay amps is_fault is_relay few = record {
  fault = omega (arith, fault_count n);
  relay = omega (arith, relay_count n);
  amps = few;
}

at_fits : (n fault near near_backup far far_backup v : ℕ) → fault < 2 * n → near < 2 * n → near_backup < 2 * n → far < 2 * n → far_backup < 2 * n → v ≤ 10
    → All (FitsCurrent (drill_data n)) (currents_at fault near near_backup far far_backup v)
at_fits n fault near near_backup far far_backup v f a b c d few =
    let P = FitsCurrent (drill_data n) in
    let one : Current = current_of fault near (4000 + 50 * v) in
    let two : Current = current_of fault near_backup (1600 + 25 * v) in
    let three : Current = current_of fault far (2200 + 50 * v) in
    let four : Current = current_of fault far_backup (1200 + 25 * v) in
    All-cons P one (two ∷ three ∷ four ∷ []) (current_fits n fault near one.amps f a (omega (arith, few)))
    (All-cons P two (three ∷ four ∷ []) (current_fits n fault near_backup two.amps f b (omega (arith, few)))
    (All-cons P three (four ∷ []) (current_fits n fault far three.amps f c (omega (arith, few)))
    (All-cons P four [] (current_fits n fault far_backup four.amps f d (omega (arith, few))) (All-nil P))))

line_fits : (n k : ℕ) → IsOn n k → All (FitsCurrent (drill_data n)) (currents_of n k)
line_fits n k on =
    let f = first_below n k on in
    let g = second_below n k on in
    let f_before = first_below n (before n k) (before_on n k on) in
    let g_after = second_below n (after n k) (after_on n k on) in
    All-append (FitsCurrent (drill_data n)) (at_x n k) (at_y n k)
    (at_fits n (first k) (first k) (first (before n k)) (second k) (second (after n k)) (variation k) f f f_before g g_after (small k))
    (at_fits n (second k) (second k) (second (after n k)) (first k) (first (before n k)) (variation k) g g g_after f f_before (small k))

currents_fit : (n : ℕ) → IsRing n → FitsCurrents (drill_data n) (drill_currents n)
currents_fit n ring = record {
  few = omega (arith, length_joined (currents_of n) 8 1 n (λ k. refl));
  each = all_joined (FitsCurrent (drill_data n)) (currents_of n) 1 n (λ k above below. line_fits n k (on_ring n k above below));
}

-- so are a study and currents that are those of the ring
pub both_fit : (n : ℕ) (study : StudyData) (entries : List Current) → IsRing n → study ≡ drill_data n → entries ≡ drill_currents n
    → FitsStudy study × FitsCurrents study entries
both_fit n study entries ring is are = rw (is, are) (study_fits n ring, currents_fit n ring)
