-- What one read answers at an error of the system, and how a reading refusal carries on what it answered.
use Rattle.std.specs.declared.io.ErrorKind.{ErrorKind}
use Rattle.std.specs.declared.io.ErrorKind.TheVariants.{NotFound}
use Rattle.coord_io.specs.declared.refusals.ReadFail.{ReadFail}
use Rattle.coord_io.specs.declared.refusals.ReadFail.TheVariants.{Missing as no_file, Failed as no_read}
use Rattle.coord_io.specs.declared.refusals.ReadRefusal.{ReadRefusal}
use Rattle.coord_io.specs.declared.refusals.ReadRefusal.TheVariants.{Missing, Failed}

-- the refusal of the same cause
abbrev pub refusal_of : ReadFail → ReadRefusal
refusal_of no_file = Missing
refusal_of no_read = Failed

-- what a read answers at an error of this kind: there is no such file exactly if nothing was found
abbrev pub fail_of : ErrorKind → ReadFail
fail_of NotFound = no_file
fail_of _ = no_read
