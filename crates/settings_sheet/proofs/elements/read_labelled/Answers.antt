use Rattle.std.proofs.Common.{◌∷◌, ◌++◌, Some, None, ap, subst, sym, ◌∙◌}
use Rattle.std.proofs.lemmas.Bool.Decides.{Decides-eqb}
use Rattle.std.proofs.lemmas.Slice.Eq.{strip_prefix_is}
use Rattle.coord_text.proofs.Breaks.{same_first_line}
use Rattle.coord_text.specs.Lines.{IsLine}
use Rattle.settings_sheet.proofs.elements.read_labelled.Goals as goal

pub returns-in_err-strip_prefix-clause-no_such : goal.returns-in_err-strip_prefix-clause-no_such
returns-in_err-strip_prefix-clause-no_such c none word rest of_line is =
    let here = c.in_ok-line.ensures.line in
    let line = c.in_ok-line.line.now in
    let label = c.args.label.now in
    let same = same_first_line line (label ++ word) c.in_ok-line.rest.now rest here.0 of_line (sym here.1 ∙ is) in
    strip_prefix_is Decides-eqb line label None c.in_err-strip_prefix.ensures.cases word same.0

pub returns-clause-said : goal.returns-clause-said
returns-clause-said c =
    let line = c.in_ok-line.line.now in
    let parts = strip_prefix_is Decides-eqb line c.args.label.now (Some c.in_ok-strip_prefix.field-0) c.in_ok-strip_prefix.ensures.cases in
    c.in_ok-line.ensures.line.1 ∙ ap (λ l. l ++ 10 ∷ c.in_ok-line.rest.now) parts

pub returns-clause-line : goal.returns-clause-line
returns-clause-line c =
    let line = c.in_ok-line.line.now in
    let parts = strip_prefix_is Decides-eqb line c.args.label.now (Some c.in_ok-strip_prefix.field-0) c.in_ok-strip_prefix.ensures.cases in
    subst IsLine parts c.in_ok-line.ensures.line.0
