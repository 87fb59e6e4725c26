use Rattle.std.proofs.Common.{refl, ◌∙◌}
use Rattle.coord_io.specs.declared.quiet_file.QuietFile.{QuietFile}
use Rattle.coord_io.proofs.Places.{Changed}
use Rattle.coord_io.proofs.QuietPlaces.{found_alike, grown_nowhere, grown_there, own_bytes, own_name, rooms_stay}
use Rattle.coord_io.proofs.quiet_file.add.Goals as goal

pub returns-in_default-clause-exact : goal.returns-in_default-clause-exact
returns-in_default-clause-exact c =
    grown_nowhere _ _ _ (found_alike _ _ _ _ _ c.as_bytes.ensures.value c.deref.ensures.value c.place_of.ensures ∙ c.in_default.is)

pub returns-clause-exact : goal.returns-clause-exact
returns-clause-exact c =
    let new : QuietFile = record { name = c.index_mut-file.result.now.name; bytes = c.add_within.new.bytes; room = c.index_mut-file.result.now.room } in
    let change : Changed own_name own_bytes c.args.name.now c.args.files.now.items c.in-Some.at c.index_mut-file.result.now new = record {
      found = found_alike _ _ _ _ _ c.as_bytes.ensures.value c.deref.ensures.value c.place_of.ensures ∙ c.in-Some.is;
      is = c.index_mut-file.ensures.value;
      named = refl;
    } in
    grown_there _ _ _ _ c.index_mut-file.result.now new _ change c.add_within.ensures.exact

pub returns-clause-rooms : goal.returns-clause-rooms
returns-clause-rooms c = rooms_stay _ _ c.index_mut-file.result.now _ c.index_mut-file.ensures.value refl refl
