-- What two numbers keep that are the ends of the enclosure.
use Rattle.std.specs.Prelude.{true}
use Rattle.std.proofs.Common.{ℕ, ◌+◌, ◌^◌, ◌<◌, ◌≤◌, ◌≡◌, subst, sym}
use Rattle.coord_model.specs.CustomForm.{IsCustomForm}
use Rattle.coord_model.specs.Enclosure.{width_of, IsEnclosable}
use Rattle.coord_model.specs.Time.{Multiple, IsUnder, IsOver}
use Rattle.coord_model.specs.declared.curve.CurveForm.{CurveForm}
use Rattle.curve_custom.specs.Ends.{custom_enclosure}
use Rattle.curve_custom.specs.Laws.{keeps}

pub record Encloses (form : CurveForm) (m : Multiple) (ends : ℕ × ℕ) : Type 0 where
  pub under : IsUnder form m ends.0 (10 ^ 9)
  pub over : IsOver form m ends.1 (10 ^ 9)
  pub ordered : ends.0 ≤ ends.1
  pub narrow : ends.1 ≤ ends.0 + width_of true form
  pub bounded : (0 < ends.0) × (ends.1 < 2 ^ 40)

pub encloses : (shown form : CurveForm) (m : Multiple) (ends : ℕ × ℕ) → shown ≡ form → IsCustomForm form → IsEnclosable m
    → ends ≡ ((custom_enclosure form m).lower, (custom_enclosure form m).upper) → Encloses shown m ends
encloses shown form m ends same custom is ends_are =
    subst (λ f. Encloses f m ends) (sym same) (subst (Encloses form m) (sym ends_are) (
    let k = keeps form m custom is in
    record { under = k.under; over = k.over; ordered = k.ordered; narrow = k.narrow; bounded = k.bounded }))
