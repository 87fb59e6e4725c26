-- The certificate of an outcome (ours): it claims what the outcome says, and has its tree.
use Rattle.std.specs.Prelude.{nat_le, Option, Some, None, if◌then◌else◌}
use Rattle.std.specs.Option.{option_map}
use Rattle.branch_bound.specs.declared.outcome.Outcome.{Outcome}
use Rattle.cert_check.specs.Claims.{study_head}
use Rattle.cert_text.specs.CertData.{CertData}
use Rattle.coord_model.specs.Choice.{choice_data}
use Rattle.coord_model.specs.Tree.{shape}
use Rattle.coord_model.specs.declared.cert.StudyHead.{StudyHead}
use Rattle.margin_rows.specs.Case.{Case}

-- the certificate tells the study from format 3 on
abbrev pub study_shown : Case → Option StudyHead
study_shown case = if nat_le case.study.format 2 then None else Some (study_head case)

-- the certificate of an outcome
abbrev pub cert_of : Case → Outcome → CertData
cert_of case outcome = record {
  head = record {
    study = study_shown case;
    ending = outcome.ending;
    gap = outcome.gap;
    budget = outcome.budget;
    boxes = outcome.boxes;
    bound = outcome.bound;
    cost = outcome.cost;
  };
  settings = option_map choice_data outcome.issued;
  tree = shape outcome.tree;
}
