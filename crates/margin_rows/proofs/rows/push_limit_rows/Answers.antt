use Rattle.margin_rows.proofs.Listed.{term_facts_at}
use Rattle.margin_rows.proofs.rows.push_limit_rows.Goals as goal

pub has_limit-requires : goal.has_limit-requires
has_limit-requires c = (term_facts_at c.args.given.now c.args.terms.now c.loop-term.term-index (record { fault = 0; relay = 0 }) c.requires c.loop-term-test.true).relay
