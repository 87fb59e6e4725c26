use Rattle.std.proofs.Common.{◌≡◌, Some, None, refl, sym, ◌∙◌, ap, position}
use Rattle.coord_io.specs.Files.{with_file}
use Rattle.coord_io.specs.Memory.{files_of, name_of}
use Rattle.coord_io.specs.declared.mem_file.MemFile.{MemFile}
use Rattle.coord_io.proofs.Places.{Changed, mem_bytes, is_named, becomes_empty, files_by-push}
use Rattle.coord_io.proofs.mem_file.make_empty.Goals as goal

pub returns-in-Some-clause-ok : goal.returns-in-Some-clause-ok
returns-in-Some-clause-ok c =
    let found : position (is_named name_of mem_bytes c.args.name.now) c.args.files.now.items ≡ Some c.in-Some.at =
    ap (position (is_named name_of mem_bytes c.args.name.now)) (sym c.deref.ensures.value) ∙ sym c.place_of.ensures ∙ c.in-Some.is in
    let new : MemFile = record { name = c.index_mut.result.now.name; bytes = c.clear.new.self } in
    let change : Changed name_of mem_bytes c.args.name.now c.args.files.now.items c.in-Some.at c.index_mut.result.now new = record { found = found; is = c.index_mut.ensures.value; named = refl } in
    becomes_empty name_of mem_bytes _ _ _ c.index_mut.result.now new change c.clear.ensures.items

pub returns-in_ok-push-in-None-clause-ok : goal.returns-in_ok-push-in-None-clause-ok
returns-in_ok-push-in-None-clause-ok c =
    let none : position (is_named name_of mem_bytes c.args.name.now) c.args.files.now.items ≡ None =
    ap (position (is_named name_of mem_bytes c.args.name.now)) (sym c.deref.ensures.value) ∙ sym c.place_of.ensures ∙ c.in-None.is in
    let new : MemFile = record { name = c.in_ok-name-in-None.name; bytes = c.new.result } in
    ap files_of c.in_ok-push-in-None.ensures.items ∙ files_by-push name_of mem_bytes c.args.name.now c.args.files.now.items new none c.in_ok-name-in-None.ensures.ok
    ∙ ap (with_file (files_of c.args.files.now.items) c.args.name.now) c.new.ensures.items
