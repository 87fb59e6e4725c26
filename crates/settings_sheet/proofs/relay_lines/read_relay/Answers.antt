use Rattle.std.proofs.Common.{refl, sym, ◌∙◌}
use Rattle.coord_text.proofs.Breaks.{same_first_line}
use Rattle.settings_sheet.specs.SheetLines.{relay_words}
use Rattle.settings_sheet.proofs.Spelled.{relay_is_line}
use Rattle.settings_sheet.proofs.relay_lines.read_relay.Goals as goal

pub returns-in_err-line-clause-no_such : goal.returns-in_err-line-clause-no_such
returns-in_err-line-clause-no_such c none pickup dial rest on is =
    let relay = c.args.relay.now in
    c.in_err-line.ensures.no_line refl (relay_words relay pickup dial) rest (relay_is_line c.requires.fits.0 relay c.requires.fits.1 c.bytes-name.ensures.name pickup dial on) is

pub returns-in_err-pickup-clause-no_such : goal.returns-in_err-pickup-clause-no_such
returns-in_err-pickup-clause-no_such c none pickup dial rest on is =
    let relay = c.args.relay.now in
    let here = c.in_ok-line.ensures.line in
    let same = same_first_line c.in_ok-line.line.now (relay_words relay pickup dial) c.in_ok-line.rest.now rest here.0
    (relay_is_line c.requires.fits.0 relay c.requires.fits.1 c.bytes-name.ensures.name pickup dial on) (sym here.1 ∙ is) in
    c.in_err-pickup.ensures.no_such refl pickup dial on same.0
