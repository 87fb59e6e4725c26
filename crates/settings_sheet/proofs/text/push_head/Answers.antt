use Rattle.std.proofs.Common.{◌++◌}
use Rattle.std.specs.Prelude.{codes}
use Rattle.coord_text.specs.Claims.{amount, ended, ending_word}
use Rattle.settings_sheet.proofs.Whole.{head_pushed}
use Rattle.settings_sheet.proofs.text.push_head.Goals as goal

pub returns : goal.returns
returns c =
    let sheet = c.args.sheet.now in
    rw (c.in_ok-push_labelled_amount-2.ensures, c.in_ok-push_labelled_amount.ensures, c.in_ok-push_labelled-2.ensures, c.in_ok-push_labelled.ensures, c.ending_word.ensures)
    (head_pushed c.args.out.now.items (ended (codes "coord-sheet 1")) (ended (codes "ending " ++ ending_word sheet.ending))
    (ended (codes "cost " ++ amount sheet.cost)) (ended (codes "bound " ++ amount sheet.bound)))
