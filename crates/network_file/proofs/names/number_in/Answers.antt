use Rattle.std.proofs.Common.{refl, sym}
use Rattle.std.proofs.lemmas.List.Quantifiers.{position-Some}
use Rattle.std.proofs.lemmas.Option.{slice_get_read}
use Rattle.std.specs.Cmp.Lexicographic.{bytes_decides}
use Rattle.std.specs.Str.{bytes_eq}
use Rattle.network_file.proofs.names.number_in.Goals as goal

pub returns-clause-stored : goal.returns-clause-stored
returns-clause-stored c =
    let found = position-Some (bytes_eq c.args.name) c.args.names.now.keys c.in_ok-number.number c.args.name (sym c.in_ok-number.ensures.index) in
    slice_get_read c.args.names.now.keys _ c.in_ok-number.number c.args.name refl found.0 ((bytes_decides c.args.name _).0 found.1)
