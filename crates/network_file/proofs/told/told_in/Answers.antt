use Rattle.std.proofs.Common.{sym}
use Rattle.network_file.proofs.Lacking.{no_intervals}
use Rattle.toml.specs.View.{table_view}
use Rattle.network_file.proofs.told.told_in.Goals as goal

pub returns-clause-suits : goal.returns-clause-suits
returns-clause-suits c =
    λ early. no_intervals c.in_ok-format.format early (table_view c.args.document.now) _ (sym c.in_ok-only.ensures)
    c.in_ok-intervals_at.field-0.items c.in_ok-intervals_at.ensures.exact
