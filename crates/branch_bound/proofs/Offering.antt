-- Settings that are offered only make the issued ones cheaper.
use Rattle.std.specs.Prelude.{nat_lt}
use Rattle.std.specs.Option.{IfSome}
use Rattle.std.proofs.Common.{ℕ, Option, Some, None, arith}
use Rattle.std.proofs.lemmas.Bool.{cond_both, ltb-true, ltb-false}
use Rattle.coord_model.specs.Choice.{Settings}
use Rattle.margin_rows.specs.Case.{Case}
use Rattle.margin_rows.specs.Price.{cost_of}
use Rattle.step_rules.specs.Offers.{Reaches, offered}
use Rattle.branch_bound.specs.Facts.{AreNoDearer}

pub as_dear : (case : Case) (issued : Option Settings) → AreNoDearer case issued issued
as_dear case None = tt
as_dear case (Some held) = omega arith

pub no_dearer : (case : Case) (a b c : Option Settings) → AreNoDearer case a b → AreNoDearer case b c → AreNoDearer case a c
no_dearer case None b c x y = tt
no_dearer case (Some a) None c x y = absurd x
no_dearer case (Some a) (Some b) None x y = absurd y
no_dearer case (Some a) (Some b) (Some c) x y = omega (arith, x, y)

-- what is issued after an offer costs no more than before
pub offer_no_dearer : (case : Case) (issued offer : Option Settings) → AreNoDearer case issued (offered case issued offer)
offer_no_dearer case issued None = as_dear case issued
offer_no_dearer case None (Some offer) = tt
offer_no_dearer case (Some held) (Some offer) =
    cond_both (nat_lt (cost_of case offer) (cost_of case held)) (Some offer) (Some held) (AreNoDearer case (Some held))
    (λ less. omega (arith, ltb-true (cost_of case offer) (cost_of case held) less)) (λ no. omega arith)

-- and no more than the offer
pub offer_covered : (case : Case) (issued offer : Option Settings) → AreNoDearer case offer (offered case issued offer)
offer_covered case issued None = tt
offer_covered case None (Some offer) = omega arith
offer_covered case (Some held) (Some offer) =
    cond_both (nat_lt (cost_of case offer) (cost_of case held)) (Some offer) (Some held) (AreNoDearer case (Some offer))
    (λ less. omega arith) (λ no. omega (arith, ltb-false (cost_of case offer) (cost_of case held) no))

-- it is the offer or what was issued
pub offer_keeps : (case : Case) (P : Settings → Type 0) (issued offer : Option Settings) → IfSome issued P → IfSome offer P → IfSome (offered case issued offer) P
offer_keeps case P issued None x y = x
offer_keeps case P None (Some offer) x y = y
offer_keeps case P (Some held) (Some offer) x y =
    cond_both (nat_lt (cost_of case offer) (cost_of case held)) (Some offer) (Some held) (λ o. IfSome o P) (λ less. y) (λ no. x)

-- a bound that reaches the cutoff still does
pub still_reaches : (case : Case) (gap bound : ℕ) (before after : Option Settings) → AreNoDearer case before after → Reaches case gap before bound → Reaches case gap after bound
still_reaches case gap bound None after less reaches = absurd reaches
still_reaches case gap bound (Some held) None less reaches = absurd less
still_reaches case gap bound (Some held) (Some now) less reaches = omega (arith, less, reaches)
