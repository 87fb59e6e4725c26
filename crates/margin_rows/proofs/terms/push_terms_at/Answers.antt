use Rattle.std.proofs.Common.{sym, ap, ◌∙◌}
use Rattle.relay_pairs.proofs.Counted.{kept_yes, kept_no}
use Rattle.margin_rows.proofs.terms.push_terms_at.Goals as goal
use Rattle.margin_rows.proofs.terms.push_terms_at.Goals.{then-is_primary+in_ok-push, else-is_primary}

pub loop-relay-preserved : goal.loop-relay-preserved
loop-relay-preserved c =
    elim c.if-is_primary.branch [
      | then-is_primary+in_ok-push w ↦ kept_yes _ _ c.loop-relay.relay c.args.terms.now.items c.loop-relay.terms.items c.if-is_primary.terms.items
          c.loop-relay.invariant (sym c.is_primary.ensures ∙ w.if-is_primary.true) (ap (λ v. v.items) w.terms-is ∙ w.in_ok-push.ensures.items)
      | else-is_primary w ↦ kept_no _ _ c.loop-relay.relay c.args.terms.now.items c.loop-relay.terms.items c.if-is_primary.terms.items
          c.loop-relay.invariant (sym c.is_primary.ensures ∙ w.if-is_primary.false) (ap (λ v. v.items) w.terms-is)
    ]
