use Rattle.std.specs.Prelude.{Bool, true, false, Option, Some, None, IsNone, IsTrue}
use Rattle.std.specs.Option.{is_some}
use Rattle.std.proofs.Common.{◌≡◌, ℕ, not, refl}
use Rattle.coord_model.specs.Choice.{choice_data}
use Rattle.margin_rows.proofs.Boxed.{strict_allowed}
use Rattle.margin_rows.proofs.unmet.strict_ok.Goals as goal

none_found : (o : Option ℕ) (none : Bool) → is_some o ≡ not none → IsTrue none → IsNone o
none_found None none is holds = refl
none_found (Some row) true is holds = absurd cc
none_found (Some row) false is holds = absurd cc

pub returns-clause-allowed : goal.returns-clause-allowed
returns-clause-allowed c met =
    strict_allowed c.args.inst.now (choice_data c.args.choice.now) c.first_unmet.ensures.fits c.requires
    (c.first_unmet.ensures.met (none_found c.first_unmet.result c.is_none.result c.is_none.ensures met))
