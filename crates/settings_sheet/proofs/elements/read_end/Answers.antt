use Rattle.std.proofs.Common.{◌≡◌, true, refl, sym, ◌∙◌, rules}
use Rattle.std.specs.Prelude.{codes}
use Rattle.coord_text.proofs.Breaks.{same_first_line}
use Rattle.settings_sheet.proofs.Spelled.{end_is_line}
use Rattle.settings_sheet.proofs.elements.read_end.Goals as goal

pub returns-in_err-line-clause-no_such : goal.returns-in_err-line-clause-no_such
returns-in_err-line-clause-no_such c none rest is = c.in_err-line.ensures.no_line refl (codes "end") rest end_is_line is

pub returns-else-eq-clause-no_such : goal.returns-else-eq-clause-no_such
returns-else-eq-clause-no_such c none rest is =
    let here = c.in_ok-line.ensures.line in
    let same = same_first_line c.in_ok-line.line.now (codes "end") c.in_ok-line.rest.now rest here.0 end_is_line (sym here.1 ∙ is) in
    let line : c.in_ok-line.line.now ≡ codes "end" = same.0 in
    let equal : c.eq.result ≡ true = search rules in
    absurd (cc equal)
