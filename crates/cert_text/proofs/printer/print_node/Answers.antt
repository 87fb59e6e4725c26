use Rattle.std.proofs.Common.{◌+◌, ◌<◌, ◌∷◌, ◌++◌, length, vec_len, vec_capacity, arith, sym, ap, subst, ◌∙◌, length-append}
use Rattle.std.specs.Prelude.{codes}
use Rattle.coord_model.specs.Tree.{root, shape}
use Rattle.coord_text.specs.Claims.{ended}
use Rattle.cert_text.specs.Forests.{FitPath, nodes_on, waiting}
use Rattle.cert_text.specs.Nodes.{node_line}
use Rattle.cert_text.proofs.LineLengths.{node_short}
use Rattle.cert_text.proofs.Printed.{popped, pushed, root_is, root_next}
use Rattle.cert_text.proofs.printer.print_node.Goals as goal

pub push_halves-requires-clause-fit : goal.push_halves-requires-clause-fit
push_halves-requires-clause-fit c =
    subst FitPath (popped c.args.path.now.items c.pop.new.self.items c.pop.result c.in-Some.node c.pop.ensures.items c.in-Some.is) c.requires.fit

pub returns-clause-prints : goal.returns-clause-prints
returns-clause-prints c cert =
    let first = popped c.args.path.now.items c.pop.new.self.items c.pop.result c.in-Some.node c.pop.ensures.items c.in-Some.is in
    let after = waiting c.pop.new.self.items in
    let tree = shape c.in-Some.node.now in
    let text = node_line (root tree) in
    let fit = subst FitPath first c.requires.fit in
    let fits : ¬ (vec_capacity c.args.line.now < vec_len c.args.line.now + length (ended text)) =
    λ full. omega (arith, full, c.requires.room, ap length c.requires.empty, length-append text (codes "\n"), node_short (root tree) (root_is tree fit.1)) in
    let added = pushed c.push_line.result c.push_line.ensures.added c.push_line.ensures.full fits in
    record {
      line = text;
      first = ap nodes_on first ∙ root_next tree after ∙ ap (λ ts. text ∷ nodes_on ts) (sym c.push_halves.ensures.waits);
      whole = added ∙ ap (λ l. l ++ ended text) c.requires.empty;
    }
