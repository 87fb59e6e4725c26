use Rattle.std.proofs.Common.{◌++◌, List, ℕ, arith, sym, subst, refl}
use Rattle.coord_io.specs.Files.{Gains, GainsPart}
use Rattle.coord_io.specs.Outside.{Changes}
use Rattle.coord_io.proofs.Changes.{gained_there}
use Rattle.coord_io.proofs.Outcomes.{always_on_err, err_as, ok_as}
use Rattle.coord_run.specs.Pieces.{LeavesRest}
use Rattle.coord_run.proofs.Gathered.{both_gone, grown, line_cut, none_gone, part_of_more}
use Rattle.coord_run.proofs.pieces.put_line.Goals as goal

pub returns-then-line-len-clause-left : goal.returns-then-line-len-clause-left
returns-then-line-len-clause-left g c =
    let before = g.F.Folder.state c.args.folder.now in
    let all = none_gone c.args.name.now (c.args.room.now.items ++ c.args.line.now) before before refl c.requires.there in
    let fits = c.extend_from_slice.ensures.succeeds (omega (arith, c.if-line-len.true, c.len.ensures, c.requires.few, c.requires.room)) in
    let is = grown c.extend_from_slice.result c.extend_from_slice.new.self.items (c.args.room.now.items ++ c.args.line.now) c.args.room.now.items c.extend_from_slice.ensures.items fits in
    subst (λ (r : List ℕ). LeavesRest c.args.name.now (c.args.room.now.items ++ c.args.line.now) r before before) (sym is) all

pub returns-in_err-append_whole-clause-part : goal.returns-in_err-append_whole-clause-part
returns-in_err-append_whole-clause-part g c =
    let before = g.F.Folder.state c.args.folder.now in
    let between = g.F.Folder.state c.append_whole.new.folder in
    always_on_err _ (subst (λ (r : List ℕ). Changes before between (GainsPart c.args.name.now (r ++ c.args.line.now))) c.deref.ensures.value
    (part_of_more c.args.name.now c.deref.result.now c.args.line.now before between c.in_err-append_whole.ensures.part))

pub append_whole-requires-2 : goal.append_whole-requires-2
append_whole-requires-2 g c = gained_there _ _ c.in_ok-append_whole.ensures.added

pub returns-clause-left : goal.returns-clause-left
returns-clause-left g c = ok_as _ c.append_whole-2.ensures.added (λ added.
    let before = g.F.Folder.state c.args.folder.now in
    let between = g.F.Folder.state c.append_whole.new.folder in
    let after = g.F.Folder.state c.append_whole-2.new.folder in
    let first = subst (λ (r : List ℕ). Changes before between (Gains c.args.name.now r)) c.deref.ensures.value c.in_ok-append_whole.ensures.added in
    let gone = both_gone c.args.name.now c.args.room.now.items c.args.line.now before between after first added in
    subst (λ (r : List ℕ). LeavesRest c.args.name.now (c.args.room.now.items ++ c.args.line.now) r before after) (sym c.clear.ensures.items) gone)

pub returns-clause-part : goal.returns-clause-part
returns-clause-part g c = err_as _ c.append_whole-2.ensures.part (λ part.
    let before = g.F.Folder.state c.args.folder.now in
    let between = g.F.Folder.state c.append_whole.new.folder in
    let first = subst (λ (r : List ℕ). Changes before between (Gains c.args.name.now r)) c.deref.ensures.value c.in_ok-append_whole.ensures.added in
    line_cut c.args.name.now c.args.room.now.items c.args.line.now before between (g.F.Folder.state c.append_whole-2.new.folder) first part)
