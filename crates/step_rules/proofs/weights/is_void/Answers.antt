use Rattle.std.specs.Prelude.{ℤ, pos, IsTrue, ◌<ℤ◌}
use Rattle.std.specs.Int.Signed.{lt_z}
use Rattle.std.proofs.Common.{◌≡◌, arith, rules}
use Rattle.std.proofs.lemmas.Int.{ints, to_z-of_z}
use mir.Syntax.{w128}
use mir.Val.{SFits}
use Rattle.step_rules.specs.Usable.{AreUsable}
use Rattle.step_rules.proofs.weights.is_void.Goals as goal

above : (v : ℤ) → IsTrue (lt_z (pos 0) v) → pos 0 <ℤ v
above v holds = grind (arith, ints)

is_above : (v w : ℤ) → w ≡ v → pos 0 <ℤ w → IsTrue (lt_z (pos 0) v)
is_above v w same more = grind (arith, ints)

pub returns-then-are_usable : goal.returns-then-are_usable
returns-then-are_usable c =
    let fits : SFits w128 c.value.result = search rules in
    let usable : AreUsable c.args.inst.now c.args.rows.now = search rules in
    rw (to_z-of_z w128 c.value.result fits) (
      λ holds. record { usable = usable; shows = record { value = c.value.result; dual = c.value.ensures.exact; above = above c.value.result holds } },
      λ void. is_above c.value.result void.shows.value (c.value.ensures.only void.shows.value void.shows.dual) void.shows.above,
    )
