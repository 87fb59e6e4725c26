-- A ring has few rows: where a fault has few entries, few relays have a current at it, and so few rows are of it.
use Rattle.std.specs.Prelude.{◌==◌, ◌&&◌, nat_lt, slice_get}
use Rattle.std.proofs.Common.{◌≡◌, ℕ, ◌+◌, ◌*◌, ◌<◌, ◌≤◌, Bool, true, false, cond, List, [], ◌∷◌, ◌++◌, map, length, zero, suc, arith, le_refl, refl, ap, ◌∙◌}
use Rattle.std.proofs.lemmas.Bool.Decides.{nat_tests}
use Rattle.std.proofs.lemmas.List.{length-append, length-map}
use Rattle.std.proofs.lemmas.List.Concat.{length-flat_map}
use Rattle.std.proofs.lemmas.List.FromFn.{length-range_with_len}
use Rattle.std.proofs.lemmas.Nat.{mul-le}
use Rattle.std.proofs.lemmas.List.Sums.{length-filter, count_by-le-length, sum_by-append, sum_by-cons, sum_by-le, sum_by-le-sum_by}
use Rattle.std.specs.List.{range_with_len, flat_map, filter, count_by}
use Rattle.coord_model.specs.Pairs.{backs, relay_numbers}
use Rattle.coord_model.specs.Rows.{amps_at, fault_numbers, interval_rows, is_primary, least_ms_of, least_rows, limit_row, most_ms_of, most_rows, rows_at, rows_behind, rows_of, stands_on, terms_at, terms_of, waits}
use Rattle.coord_model.specs.StudyData.{StudyData}
use Rattle.coord_model.specs.declared.study.Current.{Current}
use Rattle.coord_model.specs.declared.study.Row.{Row}
use Rattle.coord_model.specs.declared.study.RowKind.{RowKind}
use Rattle.coord_model.specs.declared.study.RowKind.TheVariants.{Interval, Least, Most}
use Rattle.coord_model.specs.declared.study.Term.{Term}
use Rattle.drill_ring.specs.Drill.{drill_data}
use Rattle.drill_ring.specs.DrillCurrents.{currents_of, drill_currents, first, second}
use Rattle.drill_ring.proofs.Ring.{IsRing, fault_count}

-- ---- relays with a current

-- 1 for a test that passes
abbrev one : Bool → ℕ
one b = cond b 1 0

-- how many relays have a current at a fault, of those with these numbers
abbrev with_current : List Current → ℕ → List ℕ → ℕ
with_current entries f relays = count_by (λ r. nat_lt 0 (amps_at entries f r)) relays

-- how many entries are of a fault
abbrev of_fault : ℕ → List Current → ℕ
of_fault f entries = count_by (λ (e : Current). e.fault == f) entries

none_passes : (xs : List ℕ) → count_by (λ _. false) xs ≡ 0
none_passes [] = refl
none_passes (x ∷ xs) = omega (arith, sum_by-cons (λ (x : ℕ). 0) x xs, none_passes xs)

-- what passes one test passes one of two others
count_split : (p q r : ℕ → Bool) (xs : List ℕ) → ((x : ℕ) → one (p x) ≤ one (q x) + one (r x)) → count_by p xs ≤ count_by q xs + count_by r xs
count_split p q r [] each = omega arith
count_split p q r (x ∷ xs) each =
    omega (arith, sum_by-cons (λ x. one (p x)) x xs, sum_by-cons (λ x. one (q x)) x xs, sum_by-cons (λ x. one (r x)) x xs, each x, count_split p q r xs each)

-- a number is at most once among numbers in a row
past : (b : Bool) (x a m : ℕ) → x < a → count_by (λ r. b && (x == r)) (range_with_len a m) ≡ 0
past b x a zero before = refl
past b x a (suc m) before =
    let here : one (b && (x == a)) ≡ 0 = grind (arith, nat_tests) in
    omega (arith, sum_by-cons (λ r. one (b && (x == r))) a (range_with_len (a + 1) m), here, past b x (a + 1) m (omega (arith, before)))

once : (b : Bool) (x a m : ℕ) → count_by (λ r. b && (x == r)) (range_with_len a m) ≤ one b
once b x a zero = omega arith
once b x a (suc m) = grind (arith, nat_tests, sum_by-cons (λ r. one (b && (x == r))) a (range_with_len (a + 1) m), past b x (a + 1) m, once b x (a + 1) m)

at_most_one : (b : Bool) → one b ≤ 1
at_most_one true = omega arith
at_most_one false = omega arith

entry_gives : (b c d : Bool) (amps rest : ℕ) → one (nat_lt 0 (cond (b && c && d) amps rest)) ≤ one (b && c) + one (nat_lt 0 rest)
entry_gives true true d amps rest = omega (arith, at_most_one (nat_lt 0 (cond d amps rest)))
entry_gives true false d amps rest = omega arith
entry_gives false c d amps rest = omega arith

-- an entry gives a current to one relay
pub few_relays : (entries : List Current) (f m : ℕ) → with_current entries f (range_with_len 0 m) ≤ of_fault f entries
few_relays [] f m = omega (arith, none_passes (range_with_len 0 m))
few_relays (e ∷ es) f m =
    let relays = range_with_len 0 m in
    let split = count_split (λ r. nat_lt 0 (amps_at (e ∷ es) f r)) (λ r. (e.fault == f) && (e.relay == r)) (λ r. nat_lt 0 (amps_at es f r)) relays
    (λ r. entry_gives (e.fault == f) (e.relay == r) (nat_lt 0 e.amps) e.amps (amps_at es f r)) in
    omega (arith, split, once (e.fault == f) e.relay 0 m, few_relays es f m, sum_by-cons (λ (e : Current). one (e.fault == f)) e es)

-- ---- rows

pieces_few : {X A : Type 0} (f : X → List A) (m : ℕ) (xs : List X) → ((x : X) → length (f x) ≤ m) → length (flat_map f xs) ≤ length xs * m
pieces_few f m xs each = omega (arith, length-flat_map f xs, sum_by-le (λ x. length (f x)) m xs (λ k d below. each _))

-- a test that asks for more passes no more
narrower : (p q : ℕ → Bool) (xs : List ℕ) → length (filter (λ x. p x && q x) xs) ≤ count_by q xs
narrower p q xs =
    omega (arith, length-filter (λ x. p x && q x) xs, sum_by-le-sum_by (λ x. one (p x && q x)) (λ x. one (q x)) xs (λ x. second_test (p x) (q x)))
  where
    second_test : (b c : Bool) → one (b && c) ≤ one c
    second_test true c = omega arith
    second_test false c = omega arith

fewer : {X : Type 0} (p : X → Bool) (xs : List X) → length (filter p xs) ≤ length xs
fewer p xs = omega (arith, length-filter p xs, count_by-le-length p xs)

module _ (study : StudyData) (entries : List Current) (k : ℕ) (few : (f : ℕ) → of_fault f entries ≤ k) where
  abbrev has : ℕ → ℕ → Bool
  has f r = nat_lt 0 (amps_at entries f r)

  primaries_few : (f : ℕ) → length (filter (is_primary study entries f) (relay_numbers study)) ≤ k
  primaries_few f =
      omega (
        arith,
        narrower (λ r. stands_on (slice_get study.faults f) (slice_get study.relays r)) (has f) (relay_numbers study),
        few_relays entries f (length study.relays),
        few f,
      )

  backups_few : (f p : ℕ) → length (rows_behind study entries f p) ≤ k
  backups_few f p =
      omega (
        arith,
        length-map {B = Row} (filter (waits study entries f p) (relay_numbers study)) (λ b. record { kind = Interval; fault = f; backup = b; primary = p }),
        narrower (λ b. backs study b p) (has f) (relay_numbers study),
        few_relays entries f (length study.relays),
        few f,
      )

  rows_at_few : (f : ℕ) → length (rows_at study entries f) ≤ k * k
  rows_at_few f =
      let primaries = filter (is_primary study entries f) (relay_numbers study) in
      omega (arith, pieces_few (rows_behind study entries f) k primaries (backups_few f), mul-le (length primaries) k k k (primaries_few f) (le_refl k))

  terms_at_few : (f : ℕ) → length (terms_at study entries f) ≤ k
  terms_at_few f =
      omega (arith, length-map {B = Term} (filter (is_primary study entries f) (relay_numbers study)) (λ p. record { fault = f; relay = p }), primaries_few f)

  by_fault : {A : Type 0} (f : ℕ → List A) (m : ℕ) → ((fault : ℕ) → length (f fault) ≤ m) → length (flat_map f (fault_numbers study)) ≤ length study.faults * m
  by_fault f m each = rw (length-range_with_len 0 (length study.faults)) at (pieces_few f m (fault_numbers study) each)

  limit_few : (kind : RowKind) (is_limited : Term → Bool) → length (map (limit_row kind) (filter is_limited (terms_of study entries))) ≤ length study.faults * k
  limit_few kind is_limited =
      let terms = terms_of study entries in
      omega (arith, length-map (filter is_limited terms) (limit_row kind), fewer is_limited terms, by_fault (terms_at study entries) k terms_at_few)

  -- a fault has at most k * k interval rows, and k rows of the least and of the greatest times
  pub rows_few : length (rows_of study entries) ≤ length study.faults * (k * k) + 2 * (length study.faults * k)
  rows_few =
      let interval = interval_rows study entries in
      let least = least_rows study entries in
      let most = most_rows study entries in
      let whole : length (rows_of study entries) ≡ length interval + length least + length most = length-append (interval ++ least) most ∙ ap (λ n. n + length most) (length-append interval least) in
      omega (arith, whole, by_fault (rows_at study entries) (k * k) rows_at_few, limit_few Least (λ t. nat_lt 0 (least_ms_of study t.relay)), limit_few Most (λ t. nat_lt 0 (most_ms_of study t.relay)))

-- ---- the ring

-- the entries of the faults of a line are of one or the other
line_entries : (n f k : ℕ) → of_fault f (currents_of n k) ≡ 4 * one (first k == f) + 4 * one (second k == f)
line_entries n f k = omega arith

-- a fault of an earlier line has no entry on these lines
earlier : (n f a m : ℕ) → 1 ≤ a → f < first a → of_fault f (flat_map (currents_of n) (range_with_len a m)) ≡ 0
earlier n f a zero some before = refl
earlier n f a (suc m) some before =
    let here : one (first a == f) + one (second a == f) ≡ 0 = grind (arith, nat_tests) in
    omega (
      arith,
      line_entries n f a,
      here,
      earlier n f (a + 1) m (omega arith) (omega (arith, before)),
      sum_by-append (λ (e : Current). one (e.fault == f)) (currents_of n a) (flat_map (currents_of n) (range_with_len (a + 1) m)),
    )

-- a fault has four entries at most
four : (n f a m : ℕ) → 1 ≤ a → of_fault f (flat_map (currents_of n) (range_with_len a m)) ≤ 4
four n f a zero some = omega arith
four n f a (suc m) some =
    grind (
      arith,
      nat_tests,
      line_entries n f a,
      earlier n f (a + 1) m,
      four n f (a + 1) m,
      sum_by-append (λ (e : Current). one (e.fault == f)) (currents_of n a) (flat_map (currents_of n) (range_with_len (a + 1) m)),
    )

-- the ring has at most 4,096 rows
pub few_rows : (n : ℕ) → IsRing n → length (rows_of (drill_data n) (drill_currents n)) ≤ 4096
few_rows n ring = omega (arith, rows_few (drill_data n) (drill_currents n) 4 (λ f. four n f 1 n (omega arith)), fault_count n, ring.at_most)
