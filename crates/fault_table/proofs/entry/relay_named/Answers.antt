use Rattle.std.proofs.Common.{sym, ◌∙◌}
use Rattle.std.specs.Str.{bytes_eq}
use Rattle.fault_table.proofs.TableReads.{position-first}
use Rattle.fault_table.proofs.entry.relay_named.Goals as goal

pub returns-then-is_named-clause-exact : goal.returns-then-is_named-clause-exact
returns-then-is_named-clause-exact c =
    let items = c.args.study.now.relays.items in
    let found = c.relay-item.result in
    sym (position-first (λ x. bytes_eq x.name c.args.name.now) items c.loop-i.i found
    (rw c.deref-relay-items.ensures.value at c.loop-i-test.true) (rw c.deref-relay-items.ensures.value at c.relay-item.is)
    (sym c.is_named.ensures ∙ c.if-is_named.true) c.loop-i.invariant)
