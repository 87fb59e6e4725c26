-- There is such a curve exactly if its time is small.
use Rattle.network_file.proofs.CurveFits.{told_small}
use Rattle.network_file.proofs.numbered.has_small_time.Goals as goal

pub returns-in-Custom : goal.returns-in-Custom
returns-in-Custom c =
    rw c.is_some.ensures (told_small c.in-Custom.k4 c.in-Custom.c4 c.in-Custom.e c.in-Custom.h c.args.curve c.new.result c.in-Custom.is c.requires.keeps c.requires.exponent
    c.new.ensures.given c.new.ensures.allowed c.new.ensures.refused)
