use Rattle.std.proofs.Common.{◌≡◌, suc, ◌+◌, ◌∷◌, length, get_or, set, refl, ap, ◌∙◌, arith, add-one}
use Rattle.std.proofs.lemmas.List.{get_or_default}
use Rattle.cert_text.specs.DueNodes.{stack}
use Rattle.cert_text.proofs.Stacks.{length_stack, stack_split}
use Rattle.cert_text.proofs.dues.Dues.split.Goals as goal

pub returns-then-self-top-gt-MOST_NODES-clause-refused : goal.returns-then-self-top-gt-MOST_NODES-clause-refused
returns-then-self-top-gt-MOST_NODES-clause-refused c none d dues is may room =
    let long : 1 + length dues ≡ c.args.self.now.pending = omega (arith, ap length is, length_stack c.args.self.now.depths.items c.args.self.now.pending) in
    omega (arith, long, room, c.if-self-top-gt-MOST_NODES.true, c.requires.first)

pub returns-clause-taken : goal.returns-clause-taken
returns-clause-taken c done relay at =
    let depths = c.args.self.now.depths.items in
    let top = c.args.top in
    let pending : c.args.self.now.pending ≡ suc top = omega (arith, c.requires.first) in
    let d = get_or depths top 0 in
    let here : c.index-above.result.now ≡ d = c.index-above.ensures ∙ get_or_default depths top c.index-above.result.now 0 (omega (arith, c.requires.first, c.args.self.now.room, c.args.self.now.pending_room)) in
    let halves = stack_split depths top (d + 1) (omega (arith, c.requires.first, c.args.self.now.room, c.args.self.now.stairs top (omega (arith, c.requires.first)), here, c.if-above-ge-MOST_SPLITS.false)) in
    record {
      above = d;
      others = stack depths top;
      first = ap (stack depths) pending;
      may = omega (arith, here, c.if-above-ge-MOST_SPLITS.false);
      dues = ap (λ v. stack (set (set depths top v) (top + 1) v) (top + 2)) (ap (λ v. v + 1) here) ∙ halves ∙ ap (λ v. v ∷ v ∷ stack depths top) (add-one d);
      counted = refl;
      room = omega (arith, length_stack (set (set depths top (c.index-above.result.now + 1)) (top + 1) (c.index-above.result.now + 1)) (top + 2), c.if-self-top-gt-MOST_NODES.false);
    }
