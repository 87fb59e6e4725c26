use Rattle.std.proofs.Common.{refl, sym, ◌∙◌}
use Rattle.std.specs.Prelude.{codes}
use Rattle.coord_text.specs.Claims.{ending_word}
use Rattle.coord_text.proofs.ClaimLines.{ending_is_line}
use Rattle.settings_sheet.proofs.Spelled.{same_word}
use Rattle.settings_sheet.proofs.elements.read_ending.Goals as goal

pub returns-in_err-word-clause-no_such : goal.returns-in_err-word-clause-no_such
returns-in_err-word-clause-no_such c none ending rest is = c.in_err-word.ensures.no_such refl (ending_word ending) rest (ending_is_line ending) is

pub returns-in_err-read_ending-clause-no_such : goal.returns-in_err-read_ending-clause-no_such
returns-in_err-read_ending-clause-no_such c none ending rest is =
    let read = c.in_ok-word.ensures in
    c.in_err-read_ending.ensures.no_such refl ending
    (same_word (codes "ending ") c.in_ok-word.word.now (ending_word ending) c.in_ok-word.rest.now rest read.line (ending_is_line ending) (sym read.said ∙ is))
