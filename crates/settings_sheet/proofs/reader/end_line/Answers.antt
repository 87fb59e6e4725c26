use Rattle.std.proofs.Common.{length, ap, arith}
use Rattle.std.specs.Option.{option_map}
use Rattle.std.proofs.lemmas.List.FromFn.{length-map-range_with_len}
use Rattle.coord_model.specs.Choice.{choice_data}
use Rattle.coord_model.specs.StudyData.{study_data}
use Rattle.settings_sheet.specs.SheetLines.{relay_words_at, settings_lines}
use Rattle.settings_sheet.proofs.reader.end_line.Goals as goal

pub returns-in-Some-clause-exact : goal.returns-in-Some-clause-exact
returns-in-Some-clause-exact c =
    let study = study_data c.args.study.now in
    let settings = choice_data c.in-Some.field-0 in
    let lines = length-map-range_with_len (relay_words_at study settings) 0 (length study.relays) in
    let there = ap (λ o. length (settings_lines study (option_map choice_data o))) c.in-Some.is in
    omega (arith, lines, there, c.len.ensures, c.args.study.now.relays.ok.0)
