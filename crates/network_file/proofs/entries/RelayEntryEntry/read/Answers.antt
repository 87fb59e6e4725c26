use Rattle.std.proofs.Common.{sym}
use Rattle.network_file.proofs.Lacking.{no_least, no_most}
use Rattle.toml.specs.View.{table_view}
use Rattle.network_file.proofs.entries.RelayEntryEntry.read.Goals as goal

pub returns-clause-keeps : goal.returns-clause-keeps
returns-clause-keeps c =
    let members = table_view c.args.fields.table.now in
    let passed = sym c.in_ok-only_relay.ensures in
    record {
      keeps = record {
        curve = c.in_ok-relay_curve.ensures.keeps;
        ct_primary = c.in_ok-number.ensures.between;
        ct_secondary = c.in_ok-secondary.ensures.rated;
        plug_first = c.in_ok-number-2.ensures.between;
        plug_step = c.in_ok-number_or.ensures.between;
        plug_count = c.in_ok-number_or-2.ensures.between;
        dial_first = c.in_ok-number-3.ensures.between;
        dial_step = c.in_ok-number_or-3.ensures.between;
        dial_count = c.in_ok-number_or-4.ensures.between;
        load_amps = c.in_ok-number_or-5.ensures.between;
        least_ms = c.in_ok-number_or-6.ensures.between;
        most_ms = c.in_ok-number_or-7.ensures.between;
      };
      no_times = λ early. (
        no_least c.args.format early c.args.fields.place members _ _ passed c.in_ok-number_or-6.field-0 (sym c.in_ok-number_or-6.ensures.exact),
        no_most c.args.format early c.args.fields.place members _ _ passed c.in_ok-number_or-7.field-0 (sym c.in_ok-number_or-7.ensures.exact),
      );
      named = c.in_ok-relay_curve.ensures.named;
    }
