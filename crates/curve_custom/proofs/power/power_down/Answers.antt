-- Up to the fourth power, a multiple of at most thirty keeps below 2^68.
use Rattle.std.proofs.Common.{◌*◌, ◌^◌, arith}
use Rattle.std.proofs.lemmas.Nat.{mul-le}
use Rattle.coord_model.proofs.CustomPowers.{fits_down}
use Rattle.curve_custom.proofs.power.power_down.Goals as goal

pub product_down-power-requires : goal.product_down-power-requires
product_down-power-requires c =
    let small = fits_down c.loop.counter c.args.a (omega arith) (omega arith) in
    record { fits = omega (arith, mul-le c.loop.power c.args.a (2 ^ 68) (30 * 2 ^ 48) (omega (arith, small)) (omega arith)) }

pub returns-clause-small : goal.returns-clause-small
returns-clause-small c = omega (arith, fits_down c.loop.counter c.args.a (omega arith) (omega arith))
