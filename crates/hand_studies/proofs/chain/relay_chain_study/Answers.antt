use Rattle.std.proofs.Common.{rules}
use Rattle.hand_studies.proofs.chain.relay_chain_study.Goals as goal

pub returns-clause-fits : goal.returns-clause-fits
returns-clause-fits c = record {
  format = search rules;
  cti_ms = search rules;
  sense = search rules;
  cap = search rules;
  load_percent = search rules;
  bus_count = search rules;
  line_count = search rules;
  relay_count = search rules;
  fault_count = search rules;
  exempt_count = search rules;
  interval_count = search rules;
  pickup_steps = search rules;
  lines = search rules;
  relays = search rules;
  apart = search rules;
  faults = search rules;
  exempt = search rules;
  intervals = search rules;
}
