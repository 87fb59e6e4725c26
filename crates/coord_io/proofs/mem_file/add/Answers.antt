use Rattle.std.proofs.Common.{◌≡◌, Some, refl, sym, ◌∙◌, ap, position}
use Rattle.coord_io.specs.Memory.{name_of}
use Rattle.coord_io.specs.declared.mem_file.MemFile.{MemFile}
use Rattle.coord_io.proofs.Outcomes.{on_ok, on_err}
use Rattle.coord_io.proofs.Places.{Changed, mem_bytes, is_named, place_there, gains_there, stays_there}
use Rattle.coord_io.proofs.mem_file.add.Goals as goal

pub unwrap-at-requires : goal.unwrap-at-requires
unwrap-at-requires c = rw (c.place_of.ensures, c.deref.ensures.value) (place_there name_of mem_bytes _ _ c.requires)

pub returns-clause-ok : goal.returns-clause-ok
returns-clause-ok c =
    let found : position (is_named name_of mem_bytes c.args.name.now) c.args.files.now.items ≡ Some c.unwrap-at.result =
    ap (position (is_named name_of mem_bytes c.args.name.now)) (sym c.deref.ensures.value) ∙ sym c.place_of.ensures ∙ c.unwrap-at.ensures in
    let new : MemFile = record { name = c.index_mut.result.now.name; bytes = c.extend_from_slice.new.self } in
    let change : Changed name_of mem_bytes c.args.name.now c.args.files.now.items c.unwrap-at.result c.index_mut.result.now new = record { found = found; is = c.index_mut.ensures.value; named = refl } in
    on_ok _ _ _ _ c.extend_from_slice.ensures.items (gains_there name_of mem_bytes _ _ _ c.index_mut.result.now new _ change)

pub returns-clause-err : goal.returns-clause-err
returns-clause-err c =
    let found : position (is_named name_of mem_bytes c.args.name.now) c.args.files.now.items ≡ Some c.unwrap-at.result =
    ap (position (is_named name_of mem_bytes c.args.name.now)) (sym c.deref.ensures.value) ∙ sym c.place_of.ensures ∙ c.unwrap-at.ensures in
    let new : MemFile = record { name = c.index_mut.result.now.name; bytes = c.extend_from_slice.new.self } in
    let change : Changed name_of mem_bytes c.args.name.now c.args.files.now.items c.unwrap-at.result c.index_mut.result.now new = record { found = found; is = c.index_mut.ensures.value; named = refl } in
    on_err _ _ _ _ c.extend_from_slice.ensures.items (stays_there name_of mem_bytes _ _ _ c.index_mut.result.now new change)
