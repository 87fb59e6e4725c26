use Rattle.std.proofs.Common.{◌<◌, length, slice_index_or, refl, arith}
use Rattle.std.proofs.lemmas.List.{get_or_default}
use Rattle.coord_io.specs.Quiet.{IsWithin}
use Rattle.coord_io.specs.declared.quiet_file.QuietFile.{QuietFile}
use Rattle.coord_io.proofs.QuietPlaces.{one_reserved}
use Rattle.coord_io.proofs.quiet_file.reserve_rooms.Goals as goal

pub loop-file-init : goal.loop-file-init
loop-file-init c = record { files = refl; rooms = refl; within = c.requires; reserved = λ k d low high. absurd (omega arith) }

pub reserve_room-requires : goal.reserve_room-requires
reserve_room-requires c = c.loop-file.invariant.within _ _ (omega arith)

pub loop-file-preserved : goal.loop-file-preserved
loop-file-preserved c =
    let old : QuietFile = slice_index_or c.loop-file.files c.loop-file.file-index c.file-item.result in
    let inside : c.loop-file.file-index < length c.loop-file.files = omega arith in
    let fits : IsWithin c.reserve_room.new.file =
    rw (c.reserve_room.ensures.bytes, c.reserve_room.ensures.room) (c.loop-file.invariant.within c.loop-file.file-index c.file-item.result inside) in
    one_reserved _ _ _ old c.reserve_room.new.file inside (get_or_default _ _ _ old inside)
    c.reserve_room.ensures.name c.reserve_room.ensures.bytes c.reserve_room.ensures.room fits c.in_ok-reserve_room.ensures.reserved c.loop-file.invariant

pub returns-clause-files : goal.returns-clause-files
returns-clause-files c = c.loop-file.invariant.files

pub returns-clause-rooms : goal.returns-clause-rooms
returns-clause-rooms c = c.loop-file.invariant.rooms

pub returns-clause-reserved : goal.returns-clause-reserved
returns-clause-reserved c = λ k d below. c.loop-file.invariant.reserved k d (omega arith) (omega arith)
