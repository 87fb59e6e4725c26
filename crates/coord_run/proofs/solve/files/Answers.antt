use Rattle.std.proofs.Common.{◌≡◌, ℕ, List, Option, sym, subst}
use Rattle.std.specs.Option.{option_map}
use Rattle.cert_text.specs.CertData.{IsCert}
use Rattle.coord_model.specs.Choice.{choice_data}
use Rattle.coord_model.specs.Tree.{shape}
use Rattle.coord_model.specs.declared.cert.StudyHead.{StudyHead}
use Rattle.coord_run.specs.RefusalText.{write_fault_text}
use Rattle.coord_run.proofs.solve.files.Goals as goal

pub returns-clause-writable : goal.returns-clause-writable
returns-clause-writable c =
    let outcome = c.args.outcome in
    record {
      cert = subst (λ (study : Option StudyHead). IsCert (record {
        head = record {
          study = study;
          ending = outcome.ending;
          gap = outcome.gap;
          budget = outcome.budget;
          boxes = outcome.boxes;
          bound = outcome.bound;
          cost = outcome.cost;
        };
        settings = option_map choice_data outcome.issued;
        tree = shape outcome.tree;
      })) (sym c.study_shown.ensures) c.requires.cert;
      cert_line = subst (λ (name : List ℕ). c.in_ok-cert_line.cert_line.items ≡ write_fault_text name) c.as_bytes.ensures.value c.in_ok-cert_line.ensures;
      sheet_line = subst (λ (name : List ℕ). c.in_ok-sheet_line.sheet_line.items ≡ write_fault_text name) c.as_bytes-2.ensures.value c.in_ok-sheet_line.ensures;
    }
