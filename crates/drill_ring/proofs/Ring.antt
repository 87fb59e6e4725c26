-- The study of a ring of 3 to 48 buses is within the limits.
use Rattle.std.specs.Prelude.{◌≢◌, ◌==◌, ◌||◌, IsTrue, codes, slice_get}
use Rattle.std.proofs.Common.{◌≡◌, ℕ, ◌+◌, ◌-◌, ◌*◌, ◌<◌, ◌≤◌, ◌⊎◌, inl, inr, Option, Some, List, [], ◌∷◌, ◌++◌, map, length, zero, suc, refl, arith, ap, sym, ◌∙◌, subst}
use Rattle.std.proofs.lemmas.Bool.Decides.{nat_tests}
use Rattle.std.proofs.lemmas.List.Elements.{All-nil, All-cons, All-weaker}
use Rattle.std.proofs.lemmas.List.FromFn.{length-map-range_with_len, get_or-map-range_with_len}
use Rattle.std.proofs.lemmas.List.Kept.{AllPairs-cons}
use Rattle.std.proofs.lemmas.Option.{slice_get-get_or}
use Rattle.std.specs.Fmt.{decimal}
use Rattle.std.specs.List.{range_with_len, flat_map, All, AllPairs}
use Rattle.coord_model.specs.Limits.{FitsStudy, StandTogether}
use Rattle.coord_model.specs.PartLimits.{FitsLine, FitsRelay, FitsFault, FitsExempt, FitsInterval}
use Rattle.coord_model.specs.Pairs.{ends_at}
use Rattle.coord_model.specs.StudyData.{StudyData}
use Rattle.coord_model.specs.declared.name.Name.{Name}
use Rattle.coord_model.specs.declared.study.Fault.{Fault}
use Rattle.coord_model.specs.declared.study.Line.{Line}
use Rattle.coord_model.specs.declared.study.Relay.{Relay}
use Rattle.drill_ring.specs.Drill.{after, bus_of, line_of, relay_of, relays_of, fault_of, faults_of, numbers, drill_data}
use Rattle.drill_ring.specs.DrillCurrents.{before}
use Rattle.drill_ring.proofs.Joined.{all_mapped, all_joined, sum_joined, length_joined}

-- ---- numbers round the ring

-- a number of the ring
pub record IsOn (n k : ℕ) : Type 0 where
  pub at_least : 1 ≤ k
  pub at_most : k ≤ n

pub after_on : (n k : ℕ) → IsOn n k → IsOn n (after n k)
after_on n k on = record { at_least = grind (arith, nat_tests); at_most = grind (arith, nat_tests) }

pub before_on : (n k : ℕ) → IsOn n k → IsOn n (before n k)
before_on n k on = record { at_least = grind (arith, nat_tests); at_most = grind (arith, nat_tests) }

-- in a ring of two or more the number after k is another
after_differs : (n k : ℕ) → 2 ≤ n → IsOn n k → k - 1 ≢ after n k - 1
after_differs n k two on = grind (arith, nat_tests)

-- ---- the study

-- how many buses a ring has
pub record IsRing (n : ℕ) : Type 0 where
  pub at_least : 3 ≤ n
  pub at_most : n ≤ 48

bus_count : (n : ℕ) → length (map bus_of (numbers n)) ≡ n
bus_count n = length-map-range_with_len bus_of 1 n

line_count : (n : ℕ) → length (map (line_of n) (numbers n)) ≡ n
line_count n = length-map-range_with_len (line_of n) 1 n

pub relay_count : (n : ℕ) → length (flat_map (relays_of n) (numbers n)) ≡ 2 * n
relay_count n = length_joined (relays_of n) 2 1 n (λ k. refl)

pub fault_count : (n : ℕ) → length (flat_map faults_of (numbers n)) ≡ 2 * n
fault_count n = length_joined faults_of 2 1 n (λ k. refl)

-- the number of bus Bk, and of line Lk
number_below : (n k m : ℕ) → IsOn n k → m ≡ n → k - 1 < m
number_below n k m on is = omega arith

line_fits : (n k : ℕ) → IsRing n → IsOn n k → FitsLine (drill_data n) (line_of n k)
line_fits n k ring on = record {
  from = number_below n k _ on (bus_count n);
  to = number_below n (after n k) _ (after_on n k on) (bus_count n);
  no_loop = after_differs n k (omega arith) on;
}

-- line Lk of the study
line_there : (n k : ℕ) → IsOn n k → slice_get (map (line_of n) (numbers n)) (k - 1) ≡ Some (line_of n k)
line_there n k on =
    slice_get-get_or (map (line_of n) (numbers n)) (k - 1) (line_of n k) (number_below n k _ on (line_count n))
    ∙ ap Some (get_or-map-range_with_len (line_of n) 1 n (k - 1) k (line_of n k) (omega arith) (omega arith))

either_end : (a b j : ℕ) → (j ≡ a) ⊎ (j ≡ b) → IsTrue ((a - 1 == j - 1) || (b - 1 == j - 1))
either_end a b j is = grind (arith, nat_tests)

relay_fits : (n k j : ℕ) (name : Name) → IsOn n k → (j ≡ k) ⊎ (j ≡ after n k) → FitsRelay (drill_data n) (relay_of name k j)
relay_fits n k j name on is = record {
  on_line = number_below n k _ on (line_count n);
  at_end = subst (λ (line : Option Line). IsTrue (ends_at line (j - 1))) (sym (line_there n k on)) (either_end k (after n k) j is);
  curve = tt;
  ct_primary = record { at_least = omega arith; at_most = omega arith };
  ct_secondary = inl refl;
  plug_first = record { at_least = omega arith; at_most = omega arith };
  plug_step = record { at_least = omega arith; at_most = omega arith };
  plug_count = record { at_least = omega arith; at_most = omega arith };
  last_plug = omega arith;
  dial_first = record { at_least = omega arith; at_most = omega arith };
  dial_step = record { at_least = omega arith; at_most = omega arith };
  dial_count = record { at_least = omega arith; at_most = omega arith };
  last_dial = omega arith;
  load_amps = omega arith;
  least_ms = omega arith;
  most_ms = omega arith;
}

fault_fits : (n k : ℕ) (name : Name) → IsOn n k → FitsFault (drill_data n) (fault_of name k)
fault_fits n k name on = record {
  on_line = number_below n k _ on (line_count n);
  weight = record { at_least = omega arith; at_most = omega arith };
}

faults_fit : (n k : ℕ) → IsOn n k → All (FitsFault (drill_data n)) (faults_of k)
faults_fit n k on =
    let P = FitsFault (drill_data n) in
    let x : Fault = fault_of (codes "X" ++ decimal k) k in
    let y : Fault = fault_of (codes "Y" ++ decimal k) k in
    All-cons P x (y ∷ []) (fault_fits n k x.name on) (All-cons P y [] (fault_fits n k y.name on) (All-nil P))

-- relays Fk and Gk
abbrev front : ℕ → Relay
front k = relay_of (codes "F" ++ decimal k) k k

abbrev back : ℕ → ℕ → Relay
back n k = relay_of (codes "G" ++ decimal k) k (after n k)

relays_fit : (n k : ℕ) → IsOn n k → All (FitsRelay (drill_data n)) (relays_of n k)
relays_fit n k on =
    let P = FitsRelay (drill_data n) in
    All-cons P (front k) (back n k ∷ []) (relay_fits n k k (codes "F" ++ decimal k) on (inl refl))
    (All-cons P (back n k) [] (relay_fits n k (after n k) (codes "G" ++ decimal k) on (inr refl)) (All-nil P))

-- two relays are not at one end of a line
abbrev Apart : Relay → Relay → Type 0
Apart relay other = ¬ (StandTogether relay other)

none_apart : AllPairs Apart []
none_apart i j d before below = absurd (omega (arith, below))

-- relays on later lines are apart from one on an earlier line
later_apart : (relay : Relay) (xs : List Relay) → All (λ other. relay.line < other.line) xs → All (Apart relay) xs
later_apart relay xs later = All-weaker (λ other. relay.line < other.line) (Apart relay) (λ other above together. absurd (omega (arith, above, together.line))) xs later

later_both : (n a k : ℕ) → a - 1 < k - 1 → All (λ (other : Relay). a - 1 < other.line) (relays_of n k)
later_both n a k later =
    let P : Relay → Type 0 = λ other. a - 1 < other.line in
    All-cons P (front k) (back n k ∷ []) later (All-cons P (back n k) [] later (All-nil P))

lines_later : (n a m : ℕ) → 1 ≤ a → All (λ (other : Relay). a - 1 < other.line) (flat_map (relays_of n) (range_with_len (a + 1) m))
lines_later n a m some =
    let P : Relay → Type 0 = λ other. a - 1 < other.line in
    all_joined P (relays_of n) (a + 1) m (λ k above below. later_both n a k (omega (arith, above)))

relays_apart : (n a m : ℕ) → IsRing n → 1 ≤ a → a + m ≤ n + 1 → AllPairs Apart (flat_map (relays_of n) (range_with_len a m))
relays_apart n a zero ring some within = none_apart
relays_apart n a (suc m) ring some within =
    let f = front a in
    let g = back n a in
    let rest : List Relay = flat_map (relays_of n) (range_with_len (a + 1) m) in
    let later = lines_later n a m some in
    let differs = after_differs n a (omega arith) (record { at_least = some; at_most = omega arith }) in
    AllPairs-cons Apart f (g ∷ rest) (All-cons (Apart f) g rest (λ together. differs together.bus) (later_apart f rest later))
    (AllPairs-cons Apart g rest (later_apart g rest later) (relays_apart n (a + 1) m ring (omega arith) (omega arith)))

-- a number of the ring, by how far it is from the first
pub on_ring : (n k : ℕ) → 1 ≤ k → k < 1 + n → IsOn n k
on_ring n k above below = record { at_least = above; at_most = omega (arith, below) }

pub study_fits : (n : ℕ) → IsRing n → FitsStudy (drill_data n)
study_fits n ring =
    let study : StudyData = drill_data n in
    record {
      format = record { at_least = omega arith; at_most = omega arith };
      cti_ms = record { at_least = omega arith; at_most = omega arith };
      sense = record { at_least = omega arith; at_most = omega arith };
      cap = record { at_least = omega arith; at_most = omega arith };
      load_percent = record { at_least = omega arith; at_most = omega arith };
      bus_count = omega (arith, bus_count n);
      line_count = record { at_least = omega (arith, line_count n); at_most = omega (arith, line_count n) };
      relay_count = record { at_least = omega (arith, relay_count n); at_most = omega (arith, relay_count n) };
      fault_count = omega (arith, fault_count n);
      exempt_count = omega arith;
      interval_count = omega arith;
      pickup_steps = omega (arith, sum_joined (λ (relay : Relay). relay.plug_count) (relays_of n) 6 1 n (λ k. refl));
      lines = all_mapped (FitsLine study) (line_of n) 1 n (λ k above below. line_fits n k ring (on_ring n k above below));
      relays = all_joined (FitsRelay study) (relays_of n) 1 n (λ k above below. relays_fit n k (on_ring n k above below));
      apart = relays_apart n 1 n ring (omega arith) (omega arith);
      faults = all_joined (FitsFault study) faults_of 1 n (λ k above below. faults_fit n k (on_ring n k above below));
      exempt = All-nil (FitsExempt study);
      intervals = All-nil (FitsInterval study);
    }
