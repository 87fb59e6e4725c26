use Rattle.std.proofs.Common.{◌+◌, ◌<◌, ◌∷◌, ◌++◌, length, vec_len, vec_capacity, arith, sym, ap, ◌∙◌, length-append}
use Rattle.coord_text.specs.Claims.{ended}
use Rattle.std.specs.Prelude.{codes}
use Rattle.cert_text.specs.CertData.{cert_data}
use Rattle.cert_text.specs.LinesLeft.{lines_from}
use Rattle.cert_text.specs.Printing.{front_line}
use Rattle.cert_text.proofs.Printed.{front_next, front_short, pushed}
use Rattle.cert_text.proofs.printer.print_front.Goals as goal

pub returns-clause-prints : goal.returns-clause-prints
returns-clause-prints c trees =
    let cert = cert_data c.args.cert.now in
    let due = c.args.due in
    let text = front_line due cert in
    let fits : ¬ (vec_capacity c.args.line.now < vec_len c.args.line.now + length (ended text)) =
    λ full. omega (arith, full, c.requires.room, ap length c.requires.empty, length-append text (codes "\n"), front_short due cert c.requires.is) in
    let added = pushed c.push_front.result c.push_front.ensures.added c.push_front.ensures.full fits in
    record {
      line = text;
      first = front_next due c.requires.front cert trees ∙ ap (λ k. text ∷ lines_from k cert trees) (sym c.following.ensures);
      whole = added ∙ ap (λ l. l ++ ended text) c.requires.empty;
    }
