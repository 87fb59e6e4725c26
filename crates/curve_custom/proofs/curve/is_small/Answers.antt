-- The time at the lowest multiple is the one that is asked about.
use Rattle.std.proofs.Common.{ℕ, ◌<◌, ◌^◌, ◌≡◌, ap, arith, subst, sym}
use Rattle.coord_model.specs.CustomForm.{lowest}
use Rattle.curve_custom.specs.Ends.{custom_enclosure}
use Rattle.curve_custom.specs.Laws.{small_is_meant, small_means}
use Rattle.curve_custom.proofs.curve.is_small.Goals as goal

pub returns : goal.returns
returns c =
    let upper : c.ends.result.1 ≡ (custom_enclosure c.args.form lowest).upper = ap (λ (p : ℕ × ℕ). p.1) c.ends.ensures in (
      (λ yes. small_is_meant c.args.form c.requires.range (subst (λ u. u < 2 ^ 40) upper (grind arith))),
      λ small. let within : c.ends.result.1 < 2 ^ 40 = subst (λ u. u < 2 ^ 40) (sym upper) (small_means c.args.form c.requires.range c.requires.exponent small) in grind arith,
    )
