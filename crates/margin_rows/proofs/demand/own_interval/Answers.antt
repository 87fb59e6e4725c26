use Rattle.std.specs.Prelude.{◌&&◌, ◌==◌}
use Rattle.std.proofs.Common.{rules, tests}
use Rattle.std.proofs.lemmas.Iterator.{YieldsList-from_slice}
use Rattle.std.proofs.lemmas.Iterator.Search.{find_from_yields_List}
use Rattle.margin_rows.proofs.demand.own_interval.Goals as goal

pub returns : goal.returns
returns c =
    find_from_yields_List (λ own. (own.backup == c.args.backup) && (own.primary == c.args.primary)) _ _ _ c.find.ensures.ran (YieldsList-from_slice c.args.intervals.now cc) (λ x b q k. search (rules, tests))
