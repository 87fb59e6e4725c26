-- The most bytes of the files that a command reads (ours).
use Rattle.std.specs.Prelude.{ℕ}
use Rattle.coord_run.specs.Inputs.{most_bytes}
use Rattle.coord_run.specs.declared.refusal.File.{File}
use Rattle.coord_run.specs.declared.refusal.File.TheVariants as file

-- 512 MiB for a certificate, and 4 MiB for any other file
abbrev pub most_bytes_of : File → ℕ
most_bytes_of file.Network = most_bytes
most_bytes_of file.Currents = most_bytes
most_bytes_of file.Sheet = most_bytes
most_bytes_of file.Cert = 536870912
