use Rattle.std.proofs.Common.{◌≡◌, ◌+◌, inl, inr, ℕ, List, Option, length, Result, Ok, Err, sym, subst}
use Rattle.std.specs.Prelude.{IfErr, IsSome}
use Rattle.std.specs.Result.{IsErrAnd}
use Rattle.std.specs.Option.{option_map}
use Rattle.coord_model.specs.Choice.{Settings, choice_data}
use Rattle.coord_model.specs.Limits.{FitsStudy}
use Rattle.coord_model.specs.StudyData.{StudyData, study_data}
use Rattle.settings_sheet.specs.SheetFaults.{IsRefusalOf}
use Rattle.settings_sheet.specs.declared.refusal.SheetRefusal.{SheetRefusal}
use Rattle.settings_sheet.specs.declared.sheet.Sheet.{Sheet}
use Rattle.settings_sheet.specs.RelayStops.{IsRelayStop}
use Rattle.settings_sheet.specs.SheetLines.{settings_lines}
use Rattle.settings_sheet.specs.Stages.{HasHead, HasSettings, IsEndStop}
use Rattle.settings_sheet.specs.declared.head.Head.{Head}
use Rattle.settings_sheet.specs.declared.refusal.SheetRefusal.TheVariants.{Fault, NoMemory}
use Rattle.settings_sheet.proofs.BodyStops.{after_stops, end_stops, only_sheet, relay_stops, said_whole}
use Rattle.settings_sheet.proofs.reader.sheet_in.Goals as goal

-- a refusal that is handed on
handed_on : (P : SheetRefusal → Type 0) (r : Result Sheet SheetRefusal) (refusal : SheetRefusal) → IsErrAnd r (λ e. e ≡ refusal) → P refusal → IfErr r P
handed_on P (Ok sheet) refusal given holds = tt
handed_on P (Err e) refusal given holds = subst P (sym given) holds

pub returns-in_err-head-clause-stops : goal.returns-in_err-head-clause-stops
returns-in_err-head-clause-stops c =
    let study = study_data c.args.study.now in
    handed_on (IsRefusalOf study c.args.bytes.now) c.from_residual.result c.in_err-head.field-0.0 c.from_residual.ensures.1
    (c.in_err-head.ensures.stops study c.requires.fits)

-- a stop in the lines of the relays is one of the sheet
relays_stop : (study : StudyData) → FitsStudy study → (bytes left : List ℕ) (head : Head) → HasHead bytes head left → IsSome head.cost
    → (refusal : SheetRefusal) → IsRelayStop study left refusal → IsRefusalOf study bytes refusal
relays_stop study fits bytes left head has some (Fault line kind) stop = relay_stops study fits bytes left head has some line kind stop
relays_stop study fits bytes left head has some NoMemory stop = tt

pub returns-in_err-choice-clause-stops : goal.returns-in_err-choice-clause-stops
returns-in_err-choice-clause-stops c =
    let study = study_data c.args.study.now in
    handed_on (IsRefusalOf study c.args.bytes.now) c.from_residual-in_err-choice.result c.in_err-choice.field-0.0 c.from_residual-in_err-choice.ensures.1
    (relays_stop study c.requires.fits c.args.bytes.now c.in_ok-head.left.now c.in_ok-head.head c.in_ok-head.ensures.said c.in_err-choice.ensures.issued c.in_err-choice.field-0.0 c.in_err-choice.ensures.stops)

-- and so is one at the end
end_stop : (study : StudyData) (fits : FitsStudy study) (bytes body left : List ℕ) (head : Head) (has : HasHead bytes head body) (settings : Option Settings)
    → HasSettings study head.cost body settings left → (last : ℕ) → last ≡ 5 + length (settings_lines study settings)
    → (refusal : SheetRefusal) → IsEndStop left last refusal → IsRefusalOf study bytes refusal
end_stop study fits bytes body left head has settings with last last_is (Fault line kind) stop =
    elim stop [
      | inl lacks ↦ end_stops study fits bytes body left head has settings with last line kind last_is lacks
      | inr goes ↦ after_stops study fits bytes body left head has settings with last line kind last_is goes
    ]
end_stop study fits bytes body left head has settings with last last_is NoMemory stop = tt

pub returns-in_err-read_close-clause-stops : goal.returns-in_err-read_close-clause-stops
returns-in_err-read_close-clause-stops c =
    let study = study_data c.args.study.now in
    handed_on (IsRefusalOf study c.args.bytes.now) c.from_residual-in_err-read_close.result c.in_err-read_close.field-0.0 c.from_residual-in_err-read_close.ensures.1
    (end_stop study c.requires.fits c.args.bytes.now c.in_ok-head.left.now c.in_ok-choice.left.now c.in_ok-head.head c.in_ok-head.ensures.said (option_map choice_data c.in_ok-choice.choice)
    c.in_ok-choice.ensures.said c.end_line.result c.end_line.ensures.exact c.in_err-read_close.field-0.0 c.in_err-read_close.ensures.stops)

pub returns-clause-said : goal.returns-clause-said
returns-clause-said c =
    said_whole (study_data c.args.study.now) c.requires.fits c.args.bytes.now c.in_ok-head.left.now c.in_ok-choice.left.now c.in_ok-head.head c.in_ok-head.ensures.said
    (option_map choice_data c.in_ok-choice.choice) c.in_ok-choice.ensures.said c.in_ok-read_close.ensures.said

pub returns-clause-only : goal.returns-clause-only
returns-clause-only c =
    only_sheet (study_data c.args.study.now) c.requires.fits c.args.bytes.now c.in_ok-head.left.now c.in_ok-choice.left.now c.in_ok-head.head c.in_ok-head.ensures.said
    (option_map choice_data c.in_ok-choice.choice) c.in_ok-choice.ensures.said
