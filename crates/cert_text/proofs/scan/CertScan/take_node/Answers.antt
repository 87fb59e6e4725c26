use Rattle.std.proofs.Common.{◌+◌, ◌≤◌, [], ◌∷◌, ◌++◌, length, take, refl, sym, subst, ◌∙◌}
use Rattle.coord_model.specs.Tree.{Single}
use Rattle.cert_text.specs.DueNodes.{MayStand, due_after, stack}
use Rattle.cert_text.specs.ScanState.{settings_with, state_of}
use Rattle.cert_text.specs.Scanning.{ReachedAt, State}
use Rattle.cert_text.specs.declared.kinds.CertKind.TheVariants as kind
use Rattle.cert_text.proofs.NodeSteps.{next_node, node_goes}
use Rattle.cert_text.proofs.SameNodes.{same_node}
use Rattle.cert_text.proofs.scan.CertScan.take_node.Goals as goal

pub returns-in_err-node-clause-stops : goal.returns-in_err-node-clause-stops
returns-in_err-node-clause-stops c none lines to some begins =
    let next = next_node (state_of c.args.self.now) lines c.args.line.now to some begins in
    c.in_err-node.ensures.no_such refl next.node.line next.node.weights next.is next.said

pub returns-then-not-take-clause-stops : goal.returns-then-not-take-clause-stops
returns-then-not-take-clause-stops c none lines to some begins =
    let next = next_node (state_of c.args.self.now) lines c.args.line.now to some begins in
    let read : Single = record { line = c.in_ok-node.node; weights = take c.in_ok-node.count c.read_node.new.weights } in
    let one = same_node next.node read next.is c.in_ok-node.ensures.is (sym next.said ∙ c.in_ok-node.ensures.said) in
    c.if-not-take.ensures.refused refl next.above next.others next.first (subst (λ n. MayStand n.line next.above) one next.may)
    (subst (λ n. c.args.self.now.dues.taken + 1 + length (due_after n.line next.above next.others) ≤ 400001) one next.room)

pub returns-then-is_empty-clause-goes : goal.returns-then-is_empty-clause-goes
returns-then-is_empty-clause-goes c lines to =
    let old = c.args.self.now in
    let dues = c.take.new.self in
    let read : Single = record { line = c.in_ok-node.node; weights = take c.in_ok-node.count c.read_node.new.weights } in
    let later : State = record { due = kind.End; head = old.head; settings = settings_with old.head.cost old.choice; dues = stack dues.depths.items dues.pending; taken = dues.taken } in
    (node_goes (state_of old) later lines c.args.line.now read refl refl c.in_ok-node.ensures.is c.in_ok-node.ensures.said (c.if-not-take.ensures.taken refl) to, c.if-is_empty.ensures.none refl)

pub returns-clause-goes : goal.returns-clause-goes
returns-clause-goes c lines to =
    let old = c.args.self.now in
    let dues = c.take.new.self in
    let read : Single = record { line = c.in_ok-node.node; weights = take c.in_ok-node.count c.read_node.new.weights } in
    let later : State = record { due = old.due; head = old.head; settings = settings_with old.head.cost old.choice; dues = stack dues.depths.items dues.pending; taken = dues.taken } in
    subst (λ k. ReachedAt k later (lines ++ c.args.line.now ∷ [])) (sym c.requires.due) (
      node_goes (state_of old) later lines c.args.line.now read refl refl c.in_ok-node.ensures.is c.in_ok-node.ensures.said (c.if-not-take.ensures.taken refl) to,
      λ none. (let empty = c.is_empty.ensures.some none in cc (empty, c.if-is_empty.false)),
    )
