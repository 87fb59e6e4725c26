-- The rows of a fault are its pairs whose primary clears it first and whose backup has a current.
use Rattle.std.specs.Prelude.{◌&&◌, nat_lt}
use Rattle.std.proofs.Common.{◌≡◌, ℕ, ◌+◌, ◌<◌, ◌≤◌, Bool, true, false, cond, zero, suc, add-zero, ◌-◌, List, [], ◌∷◌, ◌++◌, length, map, take, get_or, arith, refl, ap, ◌∙◌, subst}
use Rattle.std.specs.List.{filter, flat_map, range_with_len, Contains}
use Rattle.std.proofs.lemmas.List.{map-append, take_more, append-nil, append_assoc, length-append, take_all}
use Rattle.std.proofs.lemmas.List.Elements.{filter-append, Contains-get_or}
use Rattle.coord_model.specs.Rows.{amps_at, is_primary, waits, interval_rows, least_rows, most_rows, rows_at, rows_behind}
use Rattle.coord_model.specs.Pairs.{backs, pairs_of, pairs_behind, relay_numbers}
use Rattle.coord_model.specs.StudyData.{StudyData}
use Rattle.coord_model.specs.declared.study.Pair.{Pair}
use Rattle.coord_model.specs.declared.study.Row.{Row}
use Rattle.coord_model.specs.declared.study.RowKind.TheVariants.{Interval}
use Rattle.margin_rows.specs.Case.{Case, rows_in}
use Rattle.margin_rows.specs.Waiting.{waits_at, row_from}
use Rattle.relay_pairs.proofs.Counted.{pieces_more, piece_yes}
use Rattle.relay_pairs.proofs.Members.{member_map, member_filter, member_flat_map, member_number}

kept_test : {B Y Z : Type 0} (h : B → Y) (g : Y → Z) (k : B → Z) (b : B) (ys : List Y) (ws : List B) (current clears : Bool) → g (h b) ≡ k b
    → map g ys ≡ cond clears (map k ws) [] → map g (cond (clears && current) (h b ∷ ys) ys) ≡ cond clears (map k (cond current (b ∷ ws) ws)) []
kept_test h g k b ys ws true true same rest = cc
kept_test h g k b ys ws false true same rest = rest
kept_test h g k b ys ws true false same rest = rest
kept_test h g k b ys ws false false same rest = rest

kept_pair : {B Y Z : Type 0} (h : B → Y) (w : Y → Bool) (g : Y → Z) (k : B → Z) (b : B) (fs ws : List B) (backing current clears : Bool) → w (h b) ≡ (clears && current) → g (h b) ≡ k b
    → map g (filter w (map h fs)) ≡ cond clears (map k ws) [] → map g (filter w (map h (cond backing (b ∷ fs) fs))) ≡ cond clears (map k (cond (backing && current) (b ∷ ws) ws)) []
kept_pair h w g k b fs ws false current clears test same rest = rest
kept_pair h w g k b fs ws true current clears test same rest = rw test (kept_test h g k b (filter w (map h fs)) ws current clears same rest)

none_either : (c : Bool) → let none : List Row = [] in none ≡ cond c none none
none_either true = refl
none_either false = refl

-- the pairs of one primary
one_primary : (case : Case) (f p : ℕ) (bs : List ℕ)
    → map (row_from f) (filter (waits_at case f) (map (λ b. record { backup = b; primary = p }) (filter (λ b. backs case.study b p) bs)))
    ≡ cond (is_primary case.study case.currents f p) (map (λ b. record { kind = Interval; fault = f; backup = b; primary = p }) (filter (waits case.study case.currents f p) bs)) []
one_primary case f p [] = none_either (is_primary case.study case.currents f p)
one_primary case f p (b ∷ bs) =
    kept_pair (λ (b : ℕ). record { backup = b; primary = p }) (waits_at case f) (row_from f) (λ b. record { kind = Interval; fault = f; backup = b; primary = p }) b
    (filter (λ b. backs case.study b p) bs) (filter (waits case.study case.currents f p) bs) (backs case.study b p) (nat_lt 0 (amps_at case.currents f b)) (is_primary case.study case.currents f p)
    refl refl (one_primary case f p bs)

-- the rows of some primaries
some_primaries : (case : Case) (f : ℕ) (ps : List ℕ)
    → map (row_from f) (filter (waits_at case f) (flat_map (pairs_behind case.study) ps)) ≡ flat_map (rows_behind case.study case.currents f) (filter (is_primary case.study case.currents f) ps)
some_primaries case f [] = refl
some_primaries case f (p ∷ ps) =
    rw (filter-append, map-append)
    (joined (is_primary case.study case.currents f p) (one_primary case f p (relay_numbers case.study)) (some_primaries case f ps))
  where
    joined : (clears : Bool) → {xs ys : List Row} → xs ≡ cond clears (rows_behind case.study case.currents f p) []
        → ys ≡ flat_map (rows_behind case.study case.currents f) (filter (is_primary case.study case.currents f) ps)
        → xs ++ ys ≡ flat_map (rows_behind case.study case.currents f) (cond clears (p ∷ filter (is_primary case.study case.currents f) ps) (filter (is_primary case.study case.currents f) ps))
    joined true first others = cc
    joined false first others = cc

pub rows_from_pairs : (case : Case) (f : ℕ) → map (row_from f) (filter (waits_at case f) (pairs_of case.study)) ≡ rows_at case.study case.currents f
rows_from_pairs case f = some_primaries case f (relay_numbers case.study)

-- a pair names relays of the study
pub pair_relays : (study : StudyData) (pair : Pair) → Contains (pairs_of study) pair → (pair.backup < length study.relays) × (pair.primary < length study.relays)
pair_relays study pair listed =
    let behind = member_flat_map (pairs_behind study) (relay_numbers study) pair listed in
    let p = behind.0 in
    let mapped = member_map (λ b. record { backup = b; primary = p }) (filter (λ b. backs study b p) (relay_numbers study)) pair behind.2 in
    let kept = member_filter (λ b. backs study b p) (relay_numbers study) mapped.0 mapped.1 in (
      omega (arith, ap (λ (q : Pair). q.backup) mapped.2, member_number (length study.relays) mapped.0 kept.0),
      omega (arith, ap (λ (q : Pair). q.primary) mapped.2, member_number (length study.relays) p behind.1),
    )

-- one element more: it passes the test, or it does not
pub passes_yes : {A B : Type 0} (w : A → Bool) (g : A → B) (xs : List A) (i : ℕ) (d : A) (old base new : List B) → i < length xs → base ≡ old ++ map g (filter w (take i xs))
    → w (get_or xs i d) ≡ true → new ≡ base ++ g (get_or xs i d) ∷ [] → new ≡ old ++ map g (filter w (take (i + 1) xs))
passes_yes {A} {B} w g xs i d old base new below so_far passes pushed =
    rw (take_more xs i d below, filter-append, map-append, passes)
    (pushed ∙ ap (λ (t : List B). t ++ g (get_or xs i d) ∷ []) so_far ∙ append_assoc old (map g (filter w (take i xs))) (g (get_or xs i d) ∷ []))

pub passes_no : {A B : Type 0} (w : A → Bool) (g : A → B) (xs : List A) (i : ℕ) (d : A) (old base new : List B) → i < length xs → base ≡ old ++ map g (filter w (take i xs))
    → w (get_or xs i d) ≡ false → new ≡ base → new ≡ old ++ map g (filter w (take (i + 1) xs))
passes_no w g xs i d old base new below so_far fails same =
    rw (take_more xs i d below, filter-append, map-append, fails, append-nil) (same ∙ so_far)

-- the interval rows so far are a front of the rows
pub rows_front : (case : Case) (f : ℕ) → f ≤ length case.study.faults → length (flat_map (rows_at case.study case.currents) (range_with_len 0 f)) ≤ length (rows_in case)
rows_front case f below =
    let front = go (length case.study.faults - f) (omega (arith, below)) in
    omega (arith, front, length-append (interval_rows case.study case.currents) (least_rows case.study case.currents), length-append (interval_rows case.study case.currents ++ least_rows case.study case.currents) (most_rows case.study case.currents))
  where
    go : (more : ℕ) → f + more ≡ length case.study.faults → length (flat_map (rows_at case.study case.currents) (range_with_len 0 f)) ≤ length (interval_rows case.study case.currents)
    go more sum = rw (← sum) (grown f more)
      where
        grown : (f more : ℕ) → length (flat_map (rows_at case.study case.currents) (range_with_len 0 f)) ≤ length (flat_map (rows_at case.study case.currents) (range_with_len 0 (f + more)))
        grown f zero = rw add-zero (omega arith)
        grown f (suc more) =
            let step = pieces_more (rows_at case.study case.currents) (f + more) in
            let shape : f + suc more ≡ f + more + 1 = omega arith in
            rw (shape, step) (omega (arith, grown f more, length-append (flat_map (rows_at case.study case.currents) (range_with_len 0 (f + more))) (rows_at case.study case.currents (f + more))))

pub listed_relays : (study : StudyData) (pairs : List Pair) (i : ℕ) (d : Pair) → pairs ≡ pairs_of study → i < length pairs
    → ((get_or pairs i d).backup < length study.relays) × ((get_or pairs i d).primary < length study.relays)
listed_relays study pairs i d is below =
    pair_relays study (get_or pairs i d) (let P : List Pair → Type 0 = λ ps. Contains ps (get_or pairs i d) in subst P is (Contains-get_or pairs i d below))

-- once all pairs are tried, the rows of the fault stand there
pub rows_all : (case : Case) (f : ℕ) (pairs : List Pair) (i : ℕ) (old new : List Row) → pairs ≡ pairs_of case.study → length pairs ≤ i
    → new ≡ old ++ map (row_from f) (filter (waits_at case f) (take i pairs)) → new ≡ old ++ rows_at case.study case.currents f
rows_all case f pairs i old new is past so_far =
    so_far ∙ ap (λ (t : List Row). old ++ t) (ap (λ (ps : List Pair). map (row_from f) (filter (waits_at case f) ps)) (take_all i pairs past ∙ is) ∙ rows_from_pairs case f)

-- where the rows so far are more than a limit, so are all rows
pub too_many : (case : Case) (f limit : ℕ) (base new : List Row) → f < length case.study.faults → base ≡ flat_map (rows_at case.study case.currents) (range_with_len 0 f)
    → new ≡ base ++ rows_at case.study case.currents f → limit < length new → limit < length (rows_in case)
too_many case f limit base new below so_far pushed above =
    let is = piece_yes (rows_at case.study case.currents) f base new so_far pushed in
    omega (arith, above, ap (λ (rs : List Row). length rs) is, rows_front case (f + 1) (omega (arith, below)))
