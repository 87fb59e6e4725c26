use Rattle.std.proofs.Common.{arith}
use Rattle.std.proofs.lemmas.Grind.{common_steps}
use Rattle.coord_text.proofs.Fronts.{low_digits-more}
use Rattle.coord_text.proofs.numbers.+push_digits.Goals as goal

pub returns-clause-added : goal.returns-clause-added
returns-clause-added t c = rw (low_digits-more c.args.places c.args.n c.if-places-eq0.false) (grind (arith, common_steps))
