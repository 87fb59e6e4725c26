use Rattle.network_file.proofs.Putting.{members_with}
use Rattle.network_file.proofs.new_table.NewTable.put.Goals as goal

pub returns : goal.returns
returns c =
    rw (c.in_ok-insert.ensures.entries, members_with c.args.self.now.table.entries c.in_ok-word.word c.args.value, c.in_ok-word.ensures.ok, c.word.ensures)
