use Rattle.std.proofs.Common.{◌++◌, ◌≤◌, ◌∙◌, List, ℕ, arith, length, refl, sym, subst}
use Rattle.coord_io.proofs.Changes.{gained_there}
use Rattle.coord_io.proofs.Outcomes.{always_on_err, err_as, ok_as}
use Rattle.coord_io.specs.Files.{Gains, GainsPart}
use Rattle.coord_io.specs.Outside.{Changes}
use Rattle.coord_text.specs.Claims.{text_of}
use Rattle.coord_run.specs.Pieces.{LeavesRest}
use Rattle.coord_run.proofs.Gathered.{all_gone, front_gone, line_failed, line_gathered, none_gone}
use Rattle.coord_run.proofs.pieces.append_lines.Goals as goal

pub loop-folder-init : goal.loop-folder-init
loop-folder-init g c =
    let before = g.F.Folder.state c.args.folder.now in
    let text = text_of c.args.printer.now.left in
    record {
      left = subst (λ (r : List ℕ). LeavesRest c.args.name.now text (r ++ text) before before) (sym c.requires.empty) (none_gone c.args.name.now text before before refl c.requires.there);
      few = subst (λ (r : List ℕ). length r ≤ 65536) (sym c.requires.empty) (omega arith);
      room = c.requires.room;
      writes = omega arith;
      reads = refl;
    }

pub put_line-requires-clause-there : goal.put_line-requires-clause-there
put_line-requires-clause-there g c = gained_there _ _ c.loop-folder.invariant.left.given

pub loop-folder-preserved : goal.loop-folder-preserved
loop-folder-preserved g c =
    let printed = c.next.ensures.more c.loop-folder-test.true in
    record {
      left = line_gathered c.args.name.now (text_of c.args.printer.now.left) c.loop-folder.room.items c.put_line.new.room.items c.next.new.self.piece c.loop-folder.printer.left c.next.new.self.left
          (g.F.Folder.state c.args.folder.now) (g.F.Folder.state c.loop-folder.folder) (g.F.Folder.state c.put_line.new.folder) printed c.loop-folder.invariant.left
          (subst (λ (b : List ℕ). LeavesRest c.args.name.now (c.loop-folder.room.items ++ b) c.put_line.new.room.items (g.F.Folder.state c.loop-folder.folder) (g.F.Folder.state c.put_line.new.folder))
          c.piece.ensures c.in_ok-put_line.ensures.left);
      few = c.in_ok-put_line.ensures.few;
      room = c.in_ok-put_line.ensures.room;
      writes = let sofar = c.loop-folder.invariant.writes in let call = c.in_ok-put_line.ensures.writes_counted in omega arith;
      reads = c.in_ok-put_line.ensures.reads_left ∙ c.loop-folder.invariant.reads;
    }

pub returns-in_err-put_line-clause-part : goal.returns-in_err-put_line-clause-part
returns-in_err-put_line-clause-part g c =
    let printed = c.next.ensures.more c.loop-folder-test.true in
    always_on_err _ (line_failed c.args.name.now (text_of c.args.printer.now.left) c.loop-folder.room.items c.next.new.self.piece c.loop-folder.printer.left c.next.new.self.left
    (g.F.Folder.state c.args.folder.now) (g.F.Folder.state c.loop-folder.folder) (g.F.Folder.state c.put_line.new.folder) printed c.loop-folder.invariant.left
    (subst (λ (b : List ℕ). Changes (g.F.Folder.state c.loop-folder.folder) (g.F.Folder.state c.put_line.new.folder) (GainsPart c.args.name.now (c.loop-folder.room.items ++ b)))
    c.piece.ensures c.in_err-put_line.ensures.part))

pub append_whole-requires : goal.append_whole-requires
append_whole-requires g c = gained_there _ _ c.loop-folder.invariant.left.given

pub returns-clause-added : goal.returns-clause-added
returns-clause-added g c = ok_as _ c.append_whole.ensures.added (λ added.
    let none = c.next.ensures.none c.loop-folder-test.false in
    let between = g.F.Folder.state c.loop-folder.folder in
    let after = g.F.Folder.state c.append_whole.new.folder in
    all_gone c.args.name.now (text_of c.args.printer.now.left) c.loop-folder.room.items c.loop-folder.printer.left (g.F.Folder.state c.args.folder.now) between after none.0 c.loop-folder.invariant.left
    (subst (λ (r : List ℕ). Changes between after (Gains c.args.name.now r)) c.deref.ensures.value added))

pub returns-clause-part : goal.returns-clause-part
returns-clause-part g c = err_as _ c.append_whole.ensures.part (λ part.
    let between = g.F.Folder.state c.loop-folder.folder in
    let after = g.F.Folder.state c.append_whole.new.folder in
    front_gone c.args.name.now (text_of c.args.printer.now.left) c.loop-folder.room.items (text_of c.loop-folder.printer.left) (g.F.Folder.state c.args.folder.now) between after c.loop-folder.invariant.left
    (subst (λ (r : List ℕ). Changes between after (GainsPart c.args.name.now r)) c.deref.ensures.value part))
