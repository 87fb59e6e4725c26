use Rattle.std.proofs.Common.{◌≡◌, ◌≢◌, inl, inr, ℕ, ◌<◌, Option, Some, None, List, [], ◌∷◌, ◌++◌, length, replicate, get_or, refl, sym, ap, subst, ◌∙◌, arith}
use Rattle.std.specs.Prelude.{codes, slice_index, IfSome}
use Rattle.std.proofs.lemmas.List.{append_cancel_left, get_or-replicate, length-replicate}
use Rattle.std.proofs.lemmas.List.Elements.{All-get_or}
use Rattle.std.proofs.lemmas.Option.{slice_get_cases}
use Rattle.coord_model.specs.Allowed.{AreOnSteps, IsOnSteps}
use Rattle.coord_model.specs.Choice.{Settings}
use Rattle.coord_model.specs.PartLimits.{FitsRelay}
use Rattle.coord_model.specs.Limits.{FitsStudy}
use Rattle.coord_model.specs.StudyData.{StudyData}
use Rattle.coord_model.specs.declared.choice.Ending.{Ending}
use Rattle.coord_model.specs.declared.choice.Ending.TheVariants.{Closed, NoSettings, BudgetSpent, Hairline}
use Rattle.coord_model.specs.declared.study.Relay.{Relay}
use Rattle.coord_text.specs.Claims.{BoundGoesWith, CostGoesWith, IsShort, amount, ending_word, text_of}
use Rattle.coord_text.proofs.SameWords.{same_ending}
use Rattle.coord_text.proofs.ClaimLines.{ending_is_line}
use Rattle.coord_text.proofs.TextSteps.{text_step}
use Rattle.settings_sheet.specs.SheetData.{IsSheet, SheetData}
use Rattle.settings_sheet.specs.SheetFaults.{StopsAt}
use Rattle.settings_sheet.specs.SheetLines.{settings_lines, sheet_lines}
use Rattle.settings_sheet.specs.declared.refusal.SheetKind.TheVariants as due
use Rattle.settings_sheet.proofs.Peeled.{stops_here}
use Rattle.settings_sheet.proofs.Spelled.{cost_is_line, format_is_line}

-- the lowest settings of a study
abbrev pub lowest : StudyData → Settings
lowest study = record { pickup = replicate (length study.relays) 0; dial = replicate (length study.relays) 0 }

-- each relay of a study fits
pub relay_fits : (study : StudyData) → FitsStudy study → (i : ℕ) (relay : Relay) → i < length study.relays → get_or study.relays i relay ≡ relay → FitsRelay study relay
relay_fits study fits i relay within is = subst (FitsRelay study) is (All-get_or (FitsRelay study) study.relays i relay within fits.relays)

lowest_on_steps : (study : StudyData) → FitsStudy study → AreOnSteps study (lowest study)
lowest_on_steps study fits = record {
  pickups = length-replicate (length study.relays) 0;
  dials = length-replicate (length study.relays) 0;
  steps = λ i. elim ((slice_get_cases study.relays i).1) [
    | inl found ↦
        let fit = relay_fits study fits i found.0 found.1 found.3 in
        let zero_is = get_or-replicate (length study.relays) i 0 0 found.1 in
        subst (λ o. IfSome o (λ r. IsOnSteps r (slice_index (replicate (length study.relays) 0) i) (slice_index (replicate (length study.relays) 0) i))) (sym found.2)
        (record {
          pickup_step = subst (λ n. n < found.0.plug_count) (sym zero_is) fit.plug_count.at_least;
          dial_step = subst (λ n. n < found.0.dial_count) (sym zero_is) fit.dial_count.at_least;
        })
    | inr past ↦ subst (λ o. IfSome o (λ r. IsOnSteps r (slice_index (replicate (length study.relays) 0) i) (slice_index (replicate (length study.relays) 0) i))) (sym past.1) tt
  ];
}

-- a sheet with an ending, a cost and a bound that go together
abbrev pub sheet_with : StudyData → Ending → Option ℕ → Option ℕ → SheetData
sheet_with study ending None bound = record { ending = ending; cost = None; bound = bound; settings = None }
sheet_with study ending (Some cost) bound = record { ending = ending; cost = Some cost; bound = bound; settings = Some (lowest study) }

is_sheet_with : (study : StudyData) → FitsStudy study → (ending : Ending) (cost bound : Option ℕ)
    → CostGoesWith ending cost → BoundGoesWith ending bound → IsShort cost → IsShort bound → IsSheet study (sheet_with study ending cost bound)
is_sheet_with study fits ending None bound cost_goes bound_goes cost_short bound_short = record {
  cost_goes = cost_goes;
  bound_goes = bound_goes;
  cost_short = cost_short;
  bound_short = bound_short;
  issued = refl;
  on_steps = tt;
}
is_sheet_with study fits ending (Some cost) bound cost_goes bound_goes cost_short bound_short = record {
  cost_goes = cost_goes;
  bound_goes = bound_goes;
  cost_short = cost_short;
  bound_short = bound_short;
  issued = refl;
  on_steps = lowest_on_steps study fits;
}

-- the lines of that sheet
lines_with : (study : StudyData) (ending : Ending) (cost bound : Option ℕ)
    → (more : List (List ℕ)) × (sheet_lines study (sheet_with study ending cost bound)
    ≡ codes "coord-sheet 1" ∷ (codes "ending " ++ ending_word ending) ∷ (codes "cost " ++ amount cost) ∷ (codes "bound " ++ amount bound) ∷ more)
lines_with study ending None bound = (codes "end" ∷ [], refl)
lines_with study ending (Some cost) bound = (settings_lines study (Some (lowest study)) ++ codes "end" ∷ [], refl)

-- a cost and a bound that go with an ending
abbrev any_cost : Ending → Option ℕ
any_cost Closed = Some 0
any_cost NoSettings = None
any_cost BudgetSpent = None
any_cost Hairline = None

abbrev any_bound : Ending → Option ℕ
any_bound Closed = Some 0
any_bound NoSettings = None
any_bound BudgetSpent = Some 0
any_bound Hairline = Some 0

any_cost_goes : (ending : Ending) → CostGoesWith ending (any_cost ending) × IsShort (any_cost ending)
any_cost_goes Closed = (refl, omega arith)
any_cost_goes NoSettings = (refl, tt)
any_cost_goes BudgetSpent = (tt, tt)
any_cost_goes Hairline = (tt, tt)

any_bound_goes : (ending : Ending) → BoundGoesWith ending (any_bound ending) × IsShort (any_bound ending)
any_bound_goes Closed = (refl, omega arith)
any_bound_goes NoSettings = (refl, tt)
any_bound_goes BudgetSpent = (refl, omega arith)
any_bound_goes Hairline = (refl, omega arith)

-- one line more is read
pub said_more : (bytes : List ℕ) (lines : List (List ℕ)) (left line rest : List ℕ) → bytes ≡ text_of lines ++ left → left ≡ line ++ 10 ∷ rest → bytes ≡ text_of (lines ++ line ∷ []) ++ rest
said_more bytes lines left line rest said next = said ∙ ap (λ w. text_of lines ++ w) next ∙ sym (text_step lines line rest)

-- the endings of two sheets whose second lines agree
endings_agree : (study : StudyData) (other : SheetData) (ending : Ending) (more : List (List ℕ))
    → sheet_lines study other ≡ codes "coord-sheet 1" ∷ (codes "ending " ++ ending_word ending) ∷ more → other.ending ≡ ending
endings_agree study other ending more parts =
    same_ending other.ending ending (append_cancel_left (codes "ending ") (ending_word other.ending) (ending_word ending) (ap (λ l. get_or l 1 []) parts))

module _ (study : StudyData) (fits : FitsStudy study) (bytes left : List ℕ) where
  -- the first line isn't that of the format
  pub format_stops : bytes ≡ left → ((rest : List ℕ) → left ≢ codes "coord-sheet 1" ++ 10 ∷ rest) → StopsAt study bytes 1 due.Format
  format_stops split no_such =
      let sheet = sheet_with study NoSettings None None in
      stops_here study bytes sheet (is_sheet_with study fits NoSettings None None refl refl tt tt) [] (sheet_lines study sheet) refl left split due.Format refl
      tt (λ other is. tt) (λ other is same. cc (ap length same))
      (λ other is line after parts rest stands. no_such rest (stands ∙ ap (λ l. l ++ 10 ∷ rest) (sym (ap (λ l. get_or l 0 []) parts)))) 1 refl

  -- the second line is that of no ending
  pub ending_stops : bytes ≡ text_of (codes "coord-sheet 1" ∷ []) ++ left
      → ((ending : Ending) (rest : List ℕ) → left ≢ (codes "ending " ++ ending_word ending) ++ 10 ∷ rest) → StopsAt study bytes 2 due.Ending
  ending_stops split no_such =
      let sheet = sheet_with study NoSettings None None in
      let with = lines_with study NoSettings None None in
      stops_here study bytes sheet (is_sheet_with study fits NoSettings None None refl refl tt tt) (codes "coord-sheet 1" ∷ [])
      ((codes "ending " ++ ending_word NoSettings) ∷ (codes "cost " ++ amount None) ∷ (codes "bound " ++ amount None) ∷ with.0) with.1 left split due.Ending refl
      (format_is_line, tt) (λ other is. (format_is_line, tt)) (λ other is same. cc (ap length same))
      (λ other is line after parts rest stands. no_such other.ending rest (stands ∙ ap (λ l. l ++ 10 ∷ rest) (sym (ap (λ l. get_or l 1 []) parts)))) 2 refl

  -- the third line is that of no cost that goes with the ending
  pub cost_stops : (ending : Ending) → bytes ≡ text_of (codes "coord-sheet 1" ∷ (codes "ending " ++ ending_word ending) ∷ []) ++ left
      → ((cost : Option ℕ) (rest : List ℕ) → IsShort cost → CostGoesWith ending cost → left ≢ (codes "cost " ++ amount cost) ++ 10 ∷ rest) → StopsAt study bytes 3 due.Cost
  cost_stops ending split no_such =
      let sheet = sheet_with study ending (any_cost ending) (any_bound ending) in
      let with = lines_with study ending (any_cost ending) (any_bound ending) in
      stops_here study bytes sheet
      (is_sheet_with study fits ending (any_cost ending) (any_bound ending) (any_cost_goes ending).0 (any_bound_goes ending).0 (any_cost_goes ending).1 (any_bound_goes ending).1)
      (codes "coord-sheet 1" ∷ (codes "ending " ++ ending_word ending) ∷ [])
      ((codes "cost " ++ amount (any_cost ending)) ∷ (codes "bound " ++ amount (any_bound ending)) ∷ with.0) with.1 left split due.Cost refl
      (format_is_line, (ending_is_line ending, tt)) (λ other is. (format_is_line, (ending_is_line other.ending, tt))) (λ other is same. cc (ap length same))
      (λ other is line after parts rest stands.
      let agree = endings_agree study other ending (line ∷ after) parts in
      no_such other.cost rest is.cost_short (subst (λ e. CostGoesWith e other.cost) agree is.cost_goes)
      (stands ∙ ap (λ l. l ++ 10 ∷ rest) (sym (ap (λ l. get_or l 2 []) parts)))) 3 refl

  -- the fourth line is that of no bound that goes with the ending
  pub bound_stops : (ending : Ending) (cost : Option ℕ) → CostGoesWith ending cost → IsShort cost
      → bytes ≡ text_of (codes "coord-sheet 1" ∷ (codes "ending " ++ ending_word ending) ∷ (codes "cost " ++ amount cost) ∷ []) ++ left
      → ((bound : Option ℕ) (rest : List ℕ) → IsShort bound → BoundGoesWith ending bound → left ≢ (codes "bound " ++ amount bound) ++ 10 ∷ rest) → StopsAt study bytes 4 due.Bound
  bound_stops ending cost goes short split no_such =
      let sheet = sheet_with study ending cost (any_bound ending) in
      let with = lines_with study ending cost (any_bound ending) in
      stops_here study bytes sheet
      (is_sheet_with study fits ending cost (any_bound ending) goes (any_bound_goes ending).0 short (any_bound_goes ending).1)
      (codes "coord-sheet 1" ∷ (codes "ending " ++ ending_word ending) ∷ (codes "cost " ++ amount cost) ∷ [])
      ((codes "bound " ++ amount (any_bound ending)) ∷ with.0) with.1 left split due.Bound refl
      (format_is_line, (ending_is_line ending, (cost_is_line cost short, tt))) (λ other is. (format_is_line, (ending_is_line other.ending, (cost_is_line other.cost is.cost_short, tt)))) (λ other is same. cc (ap length same))
      (λ other is line after parts rest stands.
      let agree = endings_agree study other ending ((codes "cost " ++ amount cost) ∷ line ∷ after) parts in
      no_such other.bound rest is.bound_short (subst (λ e. BoundGoesWith e other.bound) agree is.bound_goes)
      (stands ∙ ap (λ l. l ++ 10 ∷ rest) (sym (ap (λ l. get_or l 3 []) parts)))) 4 refl
