-- Runs of times: where they begin, and that they stay as the list grows.
use Rattle.std.specs.Prelude.{slice_get, slice_index}
use Rattle.std.proofs.Common.{◌≡◌, ℕ, ◌+◌, ◌*◌, ◌<◌, Bool, true, false, cond, leb, List, [], ◌∷◌, ◌++◌, length, set, get_or, Some, Option, arith, refl, sym, ap, ◌∙◌, inl, inr, subst}
use Rattle.std.specs.Option.{IsSomeAnd}
use Rattle.std.proofs.lemmas.Bool.{le-leb, leb-true, cases_eq}
use Rattle.std.proofs.lemmas.List.{append_assoc, get_or_append_left, get_or-append-add, length-append, length-set, get_or-set_same, get_or-set_other, get_or_push, length_push}
use Rattle.std.proofs.lemmas.List.FromFn.{length-map-range_with_len, get_or-map-range_with_len}
use Rattle.std.proofs.lemmas.Nat.{same_from_place}
use Rattle.std.proofs.lemmas.Option.{slice_get-get_or, slice_get_within, get_or_from_slice_get}
use Rattle.coord_model.specs.Allowed.{Senses}
use Rattle.coord_model.specs.Rows.{amps_at}
use Rattle.coord_model.specs.StudyData.{StudyData}
use Rattle.coord_model.specs.Time.{plug_at}
use Rattle.coord_model.specs.declared.study.Relay.{Relay}
use Rattle.coord_model.specs.declared.study.Row.{Row}
use Rattle.coord_model.specs.declared.study.Term.{Term}
use Rattle.margin_rows.specs.declared.runs.RowRuns.{RowRuns}
use Rattle.margin_rows.specs.Case.{Case, terms_in}
use Rattle.margin_rows.specs.Tables.{no_time, cell, cells, Extends, HoldsRun, HoldsRuns, HoldTermRuns}
use Rattle.margin_rows.specs.declared.runs.Runs.{Runs}
use Rattle.margin_rows.specs.declared.ends.Ends.{Ends}
use Rattle.margin_rows.specs.Times.{relay_time, time_at, ends_of}
use Rattle.margin_rows.proofs.Places.{some_and, and_some}
use Rattle.margin_rows.proofs.Timed.{steps_there, time_found}

-- the cell of a step that senses the current is its time
pub cell_sensed : (study : StudyData) (relay : Relay) (amps step : ℕ) → Senses study relay step amps → cell study relay amps step ≡ ends_of (relay_time study.cap relay step amps)
unfolding cell
cell_sensed study relay amps step senses = rw (le-leb _ _ senses) refl

-- that of a step that does not is zeros
pub cell_blind : (study : StudyData) (relay : Relay) (amps step : ℕ) → (Senses study relay step amps → ⊥) → cell study relay amps step ≡ no_time
unfolding cell
cell_blind study relay amps step blind = zeros (ends_of (relay_time study.cap relay step amps)) (leb (study.sense * (plug_at relay step * relay.ct_primary)) (100 * (100 * amps * relay.ct_secondary))) (λ yes_it_does. blind (leb-true _ _ yes_it_does))
  where
    zeros : (x : Ends) (b : Bool) → (b ≡ true → ⊥) → cond b x no_time ≡ no_time
    zeros x true not_so = absurd (not_so refl)
    zeros x false not_so = refl

-- what stands in a list stays as it grows
pub slice_get_grown : {X : Type 0} (xs ys : List X) (k : ℕ) (x : X) → slice_get xs k ≡ Some x → slice_get (xs ++ ys) k ≡ Some x
slice_get_grown xs ys k x found =
    let below = slice_get_within xs k x found in
    slice_get-get_or (xs ++ ys) k x (omega (arith, below, length-append xs ys)) ∙ ap Some (get_or_append_left xs ys x k below ∙ get_or_from_slice_get xs k x x found)

pub run_grown : (case : Case) (old new : List Ends) (f r start : ℕ) → Extends old new → HoldsRun case old f r start → HoldsRun case new f r start
run_grown case old new f r start extends run =
    record {
      each = λ step timed. let P : List Ends → Type 0 = λ ts. slice_get ts (start + step) ≡ Some (ends_of (time_at case f r step)) in
          subst P (sym extends.1) (slice_get_grown old extends.0 (start + step) (ends_of (time_at case f r step)) (run.each step timed));
    }

pub extends_again : (old mid new : List Ends) → Extends old mid → Extends mid new → Extends old new
extends_again old mid new first second = (first.0 ++ second.0, second.1 ∙ (ap (λ (t : List Ends). t ++ second.0) first.1 ∙ append_assoc old first.0 second.0))

-- the cells of a relay at its current, put at the end, are its run
pub run_pushed : (case : Case) (times : List Ends) (f r : ℕ) (relay : Relay) → slice_get case.study.relays r ≡ Some relay
    → HoldsRun case (times ++ cells case.study relay (amps_at case.currents f r)) f r (length times)
run_pushed case times f r relay found =
    record {
      each = λ step timed.
          let senses = subst (λ (o : Option Relay). IsSomeAnd o (λ x. Senses case.study x step (amps_at case.currents f r))) found timed.1 in
          placed step (omega (arith, timed.0, steps_there case r relay found)) senses;
    }
  where
    placed : (step : ℕ) → step < relay.plug_count → Senses case.study relay step (amps_at case.currents f r)
        → slice_get (times ++ cells case.study relay (amps_at case.currents f r)) (length times + step) ≡ Some (ends_of (time_at case f r step))
    placed step below senses =
        let run = cells case.study relay (amps_at case.currents f r) in
        let count = length-map-range_with_len (cell case.study relay (amps_at case.currents f r)) 0 relay.plug_count in
        slice_get-get_or (times ++ run) (length times + step) no_time (omega (arith, below, count, length-append times run))
        ∙ ap Some (get_or-append-add times run step no_time
        ∙ get_or-map-range_with_len (cell case.study relay (amps_at case.currents f r)) 0 relay.plug_count step step no_time below (omega arith)
        ∙ cell_sensed case.study relay (amps_at case.currents f r) step senses
        ∙ ap (λ (e : _). ends_of e) (sym (time_found case f r step relay found)))

-- the run that the code puts at the end
pub run_made : (case : Case) (study : StudyData) (times new : List Ends) (f r start amps : ℕ) (relay : Relay) → study ≡ case.study → slice_get case.study.relays r ≡ Some relay
    → amps ≡ amps_at case.currents f r → start ≡ length times → new ≡ times ++ cells study relay amps → HoldsRun case new f r start
run_made case study times new f r start amps relay same found is at made =
    let P : List Ends → ℕ → Type 0 = λ ts k. HoldsRun case ts f r k in
    let whole : new ≡ times ++ cells case.study relay (amps_at case.currents f r) = made ∙ ap (λ (s : StudyData). times ++ cells s relay amps) same ∙ ap (λ (a : ℕ). times ++ cells case.study relay a) is in
    let Q : List Ends → Type 0 = λ ts. HoldsRun case ts f r start in
    let S : ℕ → Type 0 = λ k. HoldsRun case (times ++ cells case.study relay (amps_at case.currents f r)) f r k in
    subst Q (sym whole) (subst S (sym at) (run_pushed case times f r relay found))

-- a start that is read is one that stands
pub start_there : (starts : List (Option ℕ)) (place start : ℕ) (d : Option ℕ) → place < length starts → d ≡ get_or starts place d → d ≡ Some start → slice_get starts place ≡ Some (Some start)
start_there starts place start d below read is = slice_get-get_or starts place d below ∙ ap Some (sym read ∙ is)

-- one run more
pub runs_more : (case : Case) (runs later : Runs) (f r start : ℕ) → HoldsRuns case runs → f < length case.study.faults → r < length case.study.relays → Extends runs.times.items later.times.items
    → later.starts.items ≡ set runs.starts.items (f * length case.study.relays + r) (Some start) → HoldsRun case later.times.items f r start → HoldsRuns case later
runs_more case runs later f r start holds fault relay extends written run =
    let place = f * length case.study.relays + r in
    record {
      count = ap (λ (ss : List (Option ℕ)). length ss) written ∙ length-set runs.starts.items place (Some start) ∙ holds.count;
      each = λ g j begin g_in j_in stands.
          let there : slice_get (set runs.starts.items place (Some start)) (g * length case.study.relays + j) ≡ Some (Some begin) =
          let P : List (Option ℕ) → Type 0 = λ ss. slice_get ss (g * length case.study.relays + j) ≡ Some (Some begin) in subst P written stands in
          elim (cases_eq (g * length case.study.relays + j) place) [
            | inl same ↦
                let parts = same_from_place g j f r (length case.study.relays) j_in relay same in
                let value = set_there runs.starts.items place (Some start) (Some begin) (let P : ℕ → Type 0 = λ k. slice_get (set runs.starts.items place (Some start)) k ≡ Some (Some begin) in subst P same there) in
                let start_is : start ≡ begin = cc in
                let T : ℕ → ℕ → ℕ → Type 0 = λ a b k. HoldsRun case later.times.items a b k in
                rw (parts.0, parts.1, ← start_is) run
            | inr apart ↦ run_grown case runs.times.items later.times.items g j begin extends (holds.each g j begin g_in j_in (set_else runs.starts.items place (g * length case.study.relays + j) (Some start) (Some begin) apart there))
          ];
    }
  where
    set_there : {X : Type 0} (xs : List X) (k : ℕ) (x y : X) → slice_get (set xs k x) k ≡ Some y → x ≡ y
    set_there xs k x y found =
        let below = slice_get_within (set xs k x) k y found in
        sym (get_or-set_same xs k x y (omega (arith, below, length-set xs k x))) ∙ get_or_from_slice_get (set xs k x) k y y found

    set_else : {X : Type 0} (xs : List X) (k j : ℕ) (x y : X) → (j ≡ k → ⊥) → slice_get (set xs k x) j ≡ Some y → slice_get xs j ≡ Some y
    set_else xs k j x y apart found =
        let below = slice_get_within (set xs k x) j y found in
        slice_get-get_or xs j y (omega (arith, below, length-set xs k x)) ∙ ap Some (sym (get_or-set_other xs k j x y apart) ∙ get_or_from_slice_get (set xs k x) j y y found)

-- the place of a relay at a fault, as the code works it out
pub place_is : (a n b f r w : ℕ) → a ≡ f → n ≡ w → b ≡ r → a * n + b ≡ f * w + r
place_is a n b f r w x y z = rw (x, y, z) refl

-- the runs of the terms, one term on
pub term_runs_more : (case : Case) (terms : List Term) (old new : List Ends) (starts later : List ℕ) (i start : ℕ) (d : Term) → i < length terms → length starts ≡ i → later ≡ starts ++ start ∷ [] → Extends old new
    → ((k : ℕ) → k < i → IsSomeAnd (slice_get terms k) (λ term. HoldsRun case old term.fault term.relay (get_or starts k 0))) → HoldsRun case new (get_or terms i d).fault (get_or terms i d).relay start
    → (k : ℕ) → k < i + 1 → IsSomeAnd (slice_get terms k) (λ term. HoldsRun case new term.fault term.relay (get_or later k 0))
term_runs_more case terms old new starts later i start d below count pushed extends each run k inside =
    elim (cases_eq k i) [
      | inl same ↦
          let value : get_or later k 0 ≡ start = ap (λ (ss : List ℕ). get_or ss k 0) pushed ∙ get_or_push starts start 0 k (count ∙ sym same) in
          let found : slice_get terms k ≡ Some (get_or terms i d) = ap (λ (j : ℕ). slice_get terms j) same ∙ slice_get-get_or terms i d below in
          let P : ℕ → Type 0 = λ s. HoldsRun case new (get_or terms i d).fault (get_or terms i d).relay s in
          and_some (slice_get terms k) (λ term. HoldsRun case new term.fault term.relay (get_or later k 0)) (get_or terms i d) found (subst P (sym value) run)
      | inr apart ↦
          let old_fact = some_and (slice_get terms k) (λ term. HoldsRun case old term.fault term.relay (get_or starts k 0)) (each k (omega (arith, inside, apart))) in
          let value : get_or later k 0 ≡ get_or starts k 0 = ap (λ (ss : List ℕ). get_or ss k 0) pushed ∙ get_or_append_left starts (start ∷ []) 0 k (omega (arith, inside, apart, count)) in
          let P : ℕ → Type 0 = λ s. HoldsRun case new old_fact.0.fault old_fact.0.relay s in
          and_some (slice_get terms k) (λ term. HoldsRun case new term.fault term.relay (get_or later k 0)) old_fact.0 old_fact.1
          (subst P (sym value) (run_grown case old new old_fact.0.fault old_fact.0.relay (get_or starts k 0) extends old_fact.2))
    ]

-- the runs of the terms stay as the list grows
pub term_runs_grown : (case : Case) (old new : List Ends) (starts : List ℕ) → Extends old new → HoldTermRuns case old starts → HoldTermRuns case new starts
term_runs_grown case old new starts extends holds = record {
  count = holds.count;
  each = λ k below.
      let found = some_and (slice_get (terms_in case) k) (λ t. HoldsRun case old t.fault t.relay (slice_index starts k)) (holds.each k below) in
      and_some (slice_get (terms_in case) k) (λ t. HoldsRun case new t.fault t.relay (slice_index starts k)) found.0 found.1 (run_grown case old new found.0.fault found.0.relay (slice_index starts k) extends found.2);
}

-- the two runs of a row stand in the list
abbrev pub HoldsBoth : Case → List Ends → Row → RowRuns → Type 0
HoldsBoth case times row at = HoldsRun case times row.fault row.backup at.backup × HoldsRun case times row.fault row.primary at.primary

both_grown : (case : Case) (old new : List Ends) (row : Row) (at : RowRuns) → Extends old new → HoldsBoth case old row at → HoldsBoth case new row at
both_grown case old new row at extends both = (run_grown case old new row.fault row.backup at.backup extends both.0, run_grown case old new row.fault row.primary at.primary extends both.1)

-- the runs of the rows, one row on
pub row_runs_more : (case : Case) (rows : List Row) (old new : List Ends) (starts later : List RowRuns) (i : ℕ) (at : RowRuns) (d : Row) → i < length rows → length starts ≡ i → later ≡ starts ++ at ∷ [] → Extends old new
    → ((k : ℕ) → k < i → IsSomeAnd (slice_get rows k) (λ row. IsSomeAnd (slice_get starts k) (λ runs. HoldsBoth case old row runs))) → HoldsBoth case new (get_or rows i d) at
    → (k : ℕ) → k < i + 1 → IsSomeAnd (slice_get rows k) (λ row. IsSomeAnd (slice_get later k) (λ runs. HoldsBoth case new row runs))
row_runs_more case rows old new starts later i at d below count pushed extends each both k inside =
    elim (cases_eq k i) [
      | inl same ↦
          let found : slice_get rows k ≡ Some (get_or rows i d) = ap (λ (j : ℕ). slice_get rows j) same ∙ slice_get-get_or rows i d below in
          let value : slice_get later k ≡ Some at = rw pushed (slice_get-get_or (starts ++ at ∷ []) k at (omega (arith, same, count, length_push starts at)) ∙ ap Some (get_or_push starts at at k (count ∙ sym same))) in
          and_some (slice_get rows k) (λ row. IsSomeAnd (slice_get later k) (λ runs. HoldsBoth case new row runs)) (get_or rows i d) found
          (and_some (slice_get later k) (λ runs. HoldsBoth case new (get_or rows i d) runs) at value both)
      | inr apart ↦
          let old_row = some_and (slice_get rows k) (λ row. IsSomeAnd (slice_get starts k) (λ runs. HoldsBoth case old row runs)) (each k (omega (arith, inside, apart))) in
          let old_at = some_and (slice_get starts k) (λ runs. HoldsBoth case old old_row.0 runs) old_row.2 in
          let value : slice_get later k ≡ Some old_at.0 = rw pushed (slice_get_grown starts (at ∷ []) k old_at.0 old_at.1) in
          and_some (slice_get rows k) (λ row. IsSomeAnd (slice_get later k) (λ runs. HoldsBoth case new row runs)) old_row.0 old_row.1
          (and_some (slice_get later k) (λ runs. HoldsBoth case new old_row.0 runs) old_at.0 value (both_grown case old new old_row.0 old_at.0 extends old_at.2))
    ]
