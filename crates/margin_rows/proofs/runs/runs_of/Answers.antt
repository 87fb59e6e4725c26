use Rattle.margin_rows.proofs.Listed.{row_facts}
use Rattle.margin_rows.proofs.Ran.{run_grown}
use Rattle.margin_rows.proofs.runs.runs_of.Goals as goal

pub run_of-requires-clause-fault : goal.run_of-requires-clause-fault
run_of-requires-clause-fault c = (row_facts c.args.given.now c.args.row.now c.requires.row).fault

pub run_of-requires-clause-relay : goal.run_of-requires-clause-relay
run_of-requires-clause-relay c = (row_facts c.args.given.now c.args.row.now c.requires.row).backup

pub run_of-requires-2-clause-fault : goal.run_of-requires-2-clause-fault
run_of-requires-2-clause-fault c = (row_facts c.args.given.now c.args.row.now c.requires.row).fault

pub run_of-requires-2-clause-relay : goal.run_of-requires-2-clause-relay
run_of-requires-2-clause-relay c = (row_facts c.args.given.now c.args.row.now c.requires.row).primary

pub returns-clause-backup : goal.returns-clause-backup
returns-clause-backup c = run_grown c.args.given.now c.run_of.new.runs.times.items c.run_of-2.new.runs.times.items c.args.row.now.fault c.args.row.now.backup c.in_ok-backup.backup c.in_ok-primary.ensures.extends c.in_ok-backup.ensures.run
