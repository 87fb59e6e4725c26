-- How far a relay's pickup steps reach, current by current, and the span that this leaves.
use Rattle.std.specs.Prelude.{slice_get, slice_index}
use Rattle.std.proofs.Common.{◌≡◌, ℕ, ◌+◌, ◌-◌, ◌<◌, ◌≤◌, List, [], ◌∷◌, ◌++◌, length, take, set, get_or, Some, None, Option, arith, refl, sym, ap, ◌∙◌, ◌⊎◌, inl, inr, subst}
use Rattle.std.proofs.Math.Nat.{mul-le-mul_left, mul-le-mul_right}
use Rattle.std.proofs.lemmas.Bool.{cases_eq, cases_lt}
use Rattle.std.proofs.lemmas.List.{length-set, get_or-set_same, get_or-set_other, take_more, take_all}
use Rattle.std.proofs.lemmas.List.Elements.{Contains-append_cases, Contains-append_left, Contains-append_right}
use Rattle.std.proofs.lemmas.Option.{slice_get-get_or}
use Rattle.std.specs.List.{Contains}
use Rattle.std.specs.Option.{IsSomeAnd, option_map_or}
use Rattle.coord_model.specs.Allowed.{IsUsed, Senses, ClearsLoad, IsSensible}
use Rattle.coord_model.specs.Rows.{amps_at}
use Rattle.coord_model.specs.StudyData.{StudyData}
use Rattle.coord_model.specs.declared.study.Relay.{Relay}
use Rattle.coord_model.specs.declared.study.Row.{Row}
use Rattle.coord_model.specs.declared.study.RowKind.TheVariants.{Interval}
use Rattle.coord_model.specs.declared.study.Term.{Term}
use Rattle.margin_rows.specs.Case.{Case, rows_in, terms_in}
use Rattle.margin_rows.specs.FirstBox.{IsFirstStep, IsFirstSpanOf}
use Rattle.margin_rows.specs.Reach.{steps_of, SensesAt, ClearsAt, IsCut, ReachesTo, AreReaches, IsClearSpan}
use Rattle.relay_pairs.proofs.Members.{member_here, member_cases, member_none}
use Rattle.margin_rows.proofs.Listed.{backup_used, interval_listed}
use Rattle.margin_rows.proofs.Multiples.{plug_rises}

-- what one relay reaches once one more current is looked at
cut_reaches : (case : Case) (used used' : ℕ → Type 0) (f i past cut : ℕ) → ReachesTo case used i past → IsCut case f i past cut
    → ((g : ℕ) → used' g → used g ⊎ (g ≡ f)) → ((g : ℕ) → used g → used' g) → used' f → ReachesTo case used' i cut
cut_reaches case used used' f i past cut reaches is_cut back along here =
    record {
      within = omega (arith, reaches.within, is_cut.within);
      senses = λ g step uses below. elim (back g uses) [
        | inl old ↦ reaches.senses g step old (omega (arith, below, is_cut.within))
        | inr same ↦ let P : ℕ → Type 0 = λ h. SensesAt case h i step in subst P (sym same) (is_cut.senses step below)
      ];
      blind = λ step below all. elim (cases_lt step cut) [
        | inl under ↦ under
        | inr past_cut ↦ absurd (is_cut.blind step past_cut (reaches.blind step below (λ g old. all g (along g old))) (all f here))
      ];
    }

-- another relay reaches as far as before
other_reaches : (case : Case) (used used' : ℕ → Type 0) (i past : ℕ) → ReachesTo case used i past → ((g : ℕ) → used' g → used g) → ((g : ℕ) → used g → used' g) → ReachesTo case used' i past
other_reaches case used used' i past reaches back along =
    record {
      within = reaches.within;
      senses = λ g step uses below. reaches.senses g step (back g uses) below;
      blind = λ step below all. reaches.blind step below (λ g old. all g (along g old));
    }

reaches_at : (case : Case) (used : ℕ → Type 0) (i : ℕ) (n m : ℕ) → n ≡ m → ReachesTo case used i m → ReachesTo case used i n
reaches_at case used i n m same reaches = let P : ℕ → Type 0 = λ k. ReachesTo case used i k in subst P (sym same) reaches

-- one current more
pub reach_more : (case : Case) (used used' : ℕ → ℕ → Type 0) (reach : List ℕ) (f i cut : ℕ) → AreReaches case used reach → i < length case.study.relays → IsCut case f i (slice_index reach i) cut
    → ((g j : ℕ) → used' g j → used g j ⊎ ((g ≡ f) × (j ≡ i))) → ((g j : ℕ) → used g j → used' g j) → used' f i → AreReaches case used' (set reach i cut)
reach_more case used used' reach f i cut reaches below is_cut back along here =
    record {
      count = length-set reach i cut ∙ reaches.count;
      each = λ j inside. elim (cases_eq j i) [
        | inl same ↦ let Q : ℕ → Type 0 = λ k. ReachesTo case (λ g. used' g k) k (get_or (set reach i cut) k 0) in
            subst Q (sym same) (reaches_at case (λ g. used' g i) i (get_or (set reach i cut) i 0) cut (get_or-set_same reach i cut 0 (omega (arith, reaches.count, below)))
            (cut_reaches case (λ g. used g i) (λ g. used' g i) f i (slice_index reach i) cut (reaches.each i below) is_cut
            (λ g uses. elim (back g i uses) [ inl old ↦ inl old | inr p ↦ inr p.0 ]) (λ g old. along g i old) here))
        | inr apart ↦ reaches_at case (λ g. used' g j) j (get_or (set reach i cut) j 0) (get_or reach j 0) (get_or-set_other reach i j cut 0 apart)
            (other_reaches case (λ g. used g j) (λ g. used' g j) j (get_or reach j 0) (reaches.each j inside)
            (λ g uses. elim (back g j uses) [ inl old ↦ old | inr p ↦ absurd (apart p.1) ]) (λ g old. along g j old))
      ];
    }

-- the same list for uses that are the same
pub reach_same : (case : Case) (used used' : ℕ → ℕ → Type 0) (reach : List ℕ) → AreReaches case used reach
    → ((g j : ℕ) → used' g j → used g j) → ((g j : ℕ) → used g j → used' g j) → AreReaches case used' reach
reach_same case used used' reach reaches back along =
    record { count = reaches.count; each = λ i below. other_reaches case (λ g. used g i) (λ g. used' g i) i (get_or reach i 0) (reaches.each i below) (λ g uses. back g i uses) (λ g old. along g i old) }

-- a higher step clears the load where a lower one does
pub clears_up : (case : Case) (i step later : ℕ) → step ≤ later → ClearsAt case i step → ClearsAt case i later
clears_up case i step later below clears = go (slice_get case.study.relays i) clears
  where
    go : (o : Option Relay) → IsSomeAnd o (λ r. ClearsLoad case.study r step) → IsSomeAnd o (λ r. ClearsLoad case.study r later)
    go None h = h
    go (Some r) h = omega (arith, h, mul-le-mul_right r.ct_primary (plug_rises r step later below))

-- a lower step senses what a higher one does
pub senses_down : (case : Case) (f i step later : ℕ) → step ≤ later → SensesAt case f i later → SensesAt case f i step
senses_down case f i step later below senses = go (slice_get case.study.relays i) senses
  where
    go : (o : Option Relay) → IsSomeAnd o (λ r. Senses case.study r later (amps_at case.currents f i)) → IsSomeAnd o (λ r. Senses case.study r step (amps_at case.currents f i))
    go None h = h
    go (Some r) h = omega (arith, h, mul-le-mul_left case.study.sense (mul-le-mul_right r.ct_primary (plug_rises r step later below)))

-- a step is one of the first box exactly where it is on the steps, senses each current and clears the load
first_from : (case : Case) (i step : ℕ) → step < steps_of case i → ((f : ℕ) → IsUsed case.study case.currents f i → SensesAt case f i step) → ClearsAt case i step → IsFirstStep case i step
first_from case i step below senses clears =
    go (slice_get case.study.relays i) below senses clears
  where
    go : (o : Option Relay) → step < option_map_or (λ relay. relay.plug_count) o 0 → ((f : ℕ) → IsUsed case.study case.currents f i → IsSomeAnd o (λ relay. Senses case.study relay step (amps_at case.currents f i)))
        → IsSomeAnd o (λ relay. ClearsLoad case.study relay step) → IsSomeAnd o (λ r. (step < r.plug_count) × IsSensible case.study case.currents i r step)
    go None below senses clears = clears
    go (Some r) below senses clears = (below, record { senses = senses; load = clears })

first_parts : (case : Case) (i step : ℕ) → IsFirstStep case i step → (step < steps_of case i) × ((f : ℕ) → IsUsed case.study case.currents f i → SensesAt case f i step) × ClearsAt case i step
first_parts case i step first = go (slice_get case.study.relays i) first
  where
    go : (o : Option Relay) → IsSomeAnd o (λ r. (step < r.plug_count) × IsSensible case.study case.currents i r step)
        → (step < option_map_or (λ relay. relay.plug_count) o 0) × ((f : ℕ) → IsUsed case.study case.currents f i → IsSomeAnd o (λ relay. Senses case.study relay step (amps_at case.currents f i)))
        × IsSomeAnd o (λ relay. ClearsLoad case.study relay step)
    go None first = absurd first
    go (Some r) first = (first.0, first.1.senses, first.1.load)

-- the steps that are reached and clear the load are those of the first box
pub span_is_first : (case : Case) (i past : ℕ) (span : Option (ℕ × ℕ)) → ReachesTo case (λ f. IsUsed case.study case.currents f i) i past → IsClearSpan case i past span → IsFirstSpanOf case i span
span_is_first case i past None reaches none = λ step first.
    let parts = first_parts case i step first in
    none step (reaches.blind step parts.0 parts.1) parts.2
span_is_first case i past (Some span) reaches clear =
    record {
      ordered = omega (arith, clear.2, clear.3);
      inside = λ step low high. first_from case i step (omega (arith, high, clear.3, reaches.within))
          (λ f used. reaches.senses f step used (omega (arith, high, clear.3))) (clears_up case i span.0 step low clear.1);
      no_other = λ step first.
          let parts = first_parts case i step first in
          (at_least step parts.2, at_most step (reaches.blind step parts.0 parts.1));
    }
  where
    at_least : (step : ℕ) → ClearsAt case i step → span.0 ≤ step
    at_least step clears = elim (cases_lt step span.0) [ inl under ↦ absurd (clear.0 step under clears) | inr above ↦ above ]

    at_most : (step : ℕ) → step < past → step ≤ span.1
    at_most step below = omega (arith, below, clear.3)

-- the relay that a study has at a place is the case's
pub relay_there : (case : Case) (study : StudyData) (i : ℕ) (relay : Relay) → study ≡ case.study → i < length study.relays → relay ≡ get_or study.relays i relay → slice_get case.study.relays i ≡ Some relay
relay_there case study i relay same below is =
    let P : StudyData → Type 0 = λ s. slice_get s.relays i ≡ Some relay in
    subst P same (slice_get-get_or study.relays i relay below ∙ ap Some (sym is))

-- a relay that senses the current at a step, and one that does not
pub senses_there : (case : Case) (study : StudyData) (f i step amps : ℕ) (relay : Relay) → study ≡ case.study → slice_get case.study.relays i ≡ Some relay → amps ≡ amps_at case.currents f i
    → Senses study relay step amps → SensesAt case f i step
senses_there case study f i step amps relay same found is senses = rw (found, ← same, ← is) senses

pub blind_there : (case : Case) (study : StudyData) (f i step amps : ℕ) (relay : Relay) → study ≡ case.study → slice_get case.study.relays i ≡ Some relay → amps ≡ amps_at case.currents f i
    → SensesAt case f i step → Senses study relay step amps
blind_there case study f i step amps relay same found is senses = rw (same, is) (rw found at senses)

-- one step fewer, which does not sense the current
pub blind_more : (case : Case) (f i past reach : ℕ) → 0 < past → ((step : ℕ) → past ≤ step → step < reach → SensesAt case f i step → ⊥) → (SensesAt case f i (past - 1) → ⊥)
    → (step : ℕ) → past - 1 ≤ step → step < reach → SensesAt case f i step → ⊥
blind_more case f i past reach some above here step low high senses =
    elim (cases_eq step (past - 1)) [
      | inl same ↦ here (let P : ℕ → Type 0 = λ k. SensesAt case f i k in subst P same senses)
      | inr apart ↦ above step (omega (arith, some, low, apart)) high senses
    ]

-- the highest step that senses the current: all below it do
pub cut_found : (case : Case) (f i past reach : ℕ) → past ≤ reach → ((step : ℕ) → past ≤ step → step < reach → SensesAt case f i step → ⊥)
    → (0 < past → SensesAt case f i (past - 1)) → IsCut case f i reach past
cut_found case f i past reach within above here =
    record { within = within; senses = λ step below. senses_down case f i step (past - 1) (omega (arith, below)) (here (omega (arith, below))); blind = above }

-- one term more
pub term_step : (case : Case) (terms : List Term) (k : ℕ) (d : Term) (reach : List ℕ) (place cut : ℕ) → k < length terms → place ≡ (get_or terms k d).relay → (get_or terms k d).relay < length case.study.relays
    → AreReaches case (λ f i. Contains (take k terms) (record { fault = f; relay = i })) reach → IsCut case (get_or terms k d).fault (get_or terms k d).relay (get_or reach place 0) cut
    → AreReaches case (λ f i. Contains (take (k + 1) terms) (record { fault = f; relay = i })) (set reach place cut)
term_step case terms k d reach place cut below is inside reaches is_cut =
    let t = get_or terms k d in
    let Q : List Term → Type 0 = λ ts. AreReaches case (λ f i. Contains ts (record { fault = f; relay = i })) (set reach place cut) in
    let S : ℕ → Type 0 = λ p. IsCut case t.fault t.relay (get_or reach p 0) cut → AreReaches case (λ f i. Contains (take k terms ++ t ∷ []) (record { fault = f; relay = i })) (set reach p cut) in
    subst Q (sym (take_more terms k d below))
    (subst S (sym is) (λ the_cut. reach_more case (λ f i. Contains (take k terms) (record { fault = f; relay = i })) (λ f i. Contains (take k terms ++ t ∷ []) (record { fault = f; relay = i })) reach t.fault t.relay cut
    reaches inside the_cut
    (λ g j listed. elim (Contains-append_cases (take k terms) (t ∷ []) (record { fault = g; relay = j }) listed) [
      | inl old ↦ inl old
      | inr new ↦ elim (member_cases t (record { fault = g; relay = j }) [] new) [
        | inl e ↦ inr (ap (λ (x : Term). x.fault) (sym e), ap (λ (x : Term). x.relay) (sym e))
        | inr none ↦ absurd (member_none (record { fault = g; relay = j }) none)
      ]
    ])
    (λ g j old. Contains-append_left (take k terms) (t ∷ []) (record { fault = g; relay = j }) old)
    (Contains-append_right (take k terms) (t ∷ []) t (member_here t t [] refl))) is_cut)

-- the uses of terms and of a front of the rows
abbrev pub UsedBy : List Term → List Row → ℕ → ℕ → Type 0
UsedBy terms rows f i = Contains terms (record { fault = f; relay = i }) ⊎ ((row : Row) × Contains rows row × (f ≡ row.fault) × (i ≡ row.backup))

-- one row more
pub row_step : (case : Case) (terms : List Term) (rows : List Row) (k : ℕ) (d : Row) (reach : List ℕ) (place cut : ℕ) → k < length rows → place ≡ (get_or rows k d).backup → (get_or rows k d).backup < length case.study.relays
    → AreReaches case (UsedBy terms (take k rows)) reach → IsCut case (get_or rows k d).fault (get_or rows k d).backup (get_or reach place 0) cut
    → AreReaches case (UsedBy terms (take (k + 1) rows)) (set reach place cut)
row_step case terms rows k d reach place cut below is inside reaches is_cut =
    let t = get_or rows k d in
    let Q : List Row → Type 0 = λ rs. AreReaches case (UsedBy terms rs) (set reach place cut) in
    let S : ℕ → Type 0 = λ p. IsCut case t.fault t.backup (get_or reach p 0) cut → AreReaches case (UsedBy terms (take k rows ++ t ∷ [])) (set reach p cut) in
    subst Q (sym (take_more rows k d below))
    (subst S (sym is) (λ the_cut. reach_more case (UsedBy terms (take k rows)) (UsedBy terms (take k rows ++ t ∷ [])) reach t.fault t.backup cut
    reaches inside the_cut
    (λ g j used. elim used [
      | inl term ↦ inl (inl term)
      | inr row ↦ elim (Contains-append_cases (take k rows) (t ∷ []) row.0 row.1) [
        | inl old ↦ inl (inr (row.0, old, row.2, row.3))
        | inr new ↦ elim (member_cases t row.0 [] new) [
          | inl e ↦ inr (row.2 ∙ ap (λ (x : Row). x.fault) (sym e), row.3 ∙ ap (λ (x : Row). x.backup) (sym e))
          | inr none ↦ absurd (member_none row.0 none)
        ]
      ]
    ])
    (λ g j used. elim used [ inl term ↦ inl term | inr row ↦ inr (row.0, Contains-append_left (take k rows) (t ∷ []) row.0 row.1, row.2, row.3) ])
    (inr (t, Contains-append_right (take k rows) (t ∷ []) t (member_here t t [] refl), refl, refl))) is_cut)

-- before the first row the uses are those of the terms, and after the last they are all
pub rows_none : (case : Case) (terms : List Term) (reach : List ℕ) → AreReaches case (λ f i. Contains terms (record { fault = f; relay = i })) reach → AreReaches case (UsedBy terms []) reach
rows_none case terms reach reaches =
    reach_same case (λ f i. Contains terms (record { fault = f; relay = i })) (UsedBy terms []) reach reaches
    (λ g j used. elim used [ inl term ↦ term | inr row ↦ absurd (member_none row.0 row.1) ]) (λ g j term. inl term)

pub rows_all_used : (case : Case) (terms : List Term) (rows : List Row) (k : ℕ) (reach : List ℕ) → terms ≡ terms_in case → rows ≡ rows_in case → length rows ≤ k → AreReaches case (UsedBy terms (take k rows)) reach
    → AreReaches case (IsUsed case.study case.currents) reach
rows_all_used case terms rows k reach term_list row_list past reaches =
    let P : List Term → Type 0 = λ ts. AreReaches case (UsedBy ts rows) reach in
    let Q : List Row → Type 0 = λ rs. AreReaches case (UsedBy (terms_in case) rs) reach in
    let R : List Row → Type 0 = λ rs. AreReaches case (UsedBy terms rs) reach in
    reach_same case (UsedBy (terms_in case) (rows_in case)) (IsUsed case.study case.currents) reach (subst Q row_list (subst P term_list (subst R (take_all k rows past) reaches)))
    (λ g j used. elim used [
      | inl term ↦ inl term
      | inr row ↦ inr (record { kind = Interval; fault = g; backup = j; primary = row.0 }, interval_listed case _ row.1, refl, refl)
    ])
    (λ g j by. elim by [
      | inl term ↦ inl term
      | inr row ↦ rw (row.2, row.3) (backup_used case row.0 row.1)
    ])
