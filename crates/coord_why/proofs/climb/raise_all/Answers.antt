use Rattle.std.proofs.Common.{arith}
use Rattle.coord_model.specs.Choice.{choice_data}
use Rattle.coord_why.proofs.Added.{steps_bounded}
use Rattle.coord_why.proofs.climb.raise_all.Goals as goal

pub loop-climb-smaller : goal.loop-climb-smaller
loop-climb-smaller c =
    omega (
      arith,
      c.in_ok-raise_round.ensures.higher c.if-not-branch.false,
      steps_bounded c.args.inst.now (choice_data c.raise_round.new.climb.low) c.in_ok-raise_round.ensures.climb.first_box.on_steps,
    )
