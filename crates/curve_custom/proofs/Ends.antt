-- Halving a range: what fails at the middle fails on one side of it.
use Rattle.std.proofs.Common.{ℕ, ◌<◌, arith, inl, inr}
use Rattle.std.proofs.lemmas.Bool.{cases_lt}
use Rattle.coord_model.proofs.CustomPowers.{power_down-le, power_up-le}
use Rattle.coord_model.specs.CustomRoot.{IsAtLeastRoot, IsAtMostRoot, power_down, power_up}

-- what fails at r fails above it, and below it
pub below_failing : (h power r s : ℕ) → power < power_up r h → IsAtMostRoot h power s → s < r
below_failing h power r s fails is =
    elim (cases_lt s r) [ inl less ↦ less | inr not_less ↦ absurd (omega (arith, fails, is.meets, power_up-le h r s not_less)) ]

pub above_failing : (h power r s : ℕ) → power_down r h < power → IsAtLeastRoot h power s → r < s
above_failing h power r s fails is =
    elim (cases_lt r s) [ inl more ↦ more | inr not_more ↦ absurd (omega (arith, fails, is.meets, power_down-le h s r not_more)) ]
