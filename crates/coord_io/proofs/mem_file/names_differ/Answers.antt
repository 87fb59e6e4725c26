use Rattle.std.proofs.Common.{◌≡◌, ◌+◌, List, drop, true, None, is_some, position, sym, ap, ◌∙◌, below_more}
use Rattle.std.proofs.lemmas.List.{take_rest}
use Rattle.coord_io.specs.Memory.{name_of}
use Rattle.coord_io.specs.declared.mem_file.MemFile.{MemFile}
use Rattle.coord_io.proofs.Places.{is_named, mem_bytes, named_again, named_once, not_found}
use Rattle.coord_io.proofs.mem_file.names_differ.Goals as goal

pub returns-then-is_some : goal.returns-then-is_some
returns-then-is_some c =
    let found : is_some (position (is_named name_of mem_bytes c.as_str.result.now) (drop (c.loop-i.i + 1) c.args.files.now)) ≡ true =
    ap (λ (l : List MemFile). is_some (position (is_named name_of mem_bytes c.as_str.result.now) l)) (sym (take_rest c.args.files.now (c.loop-i.i + 1)))
    ∙ ap is_some (sym c.place_of.ensures) ∙ sym c.is_some.ensures ∙ c.if-is_some.true in (
      (λ yes. let no : ⊥ = cc in absurd no),
      (λ distinct. absurd (named_again name_of mem_bytes _ c.args.files.now c.loop-i.i c.index-files-i.result c.as_str.ensures.value c.index-files-i.is found distinct)),
    )

pub loop-i-preserved : goal.loop-i-preserved
loop-i-preserved c =
    let none : position (is_named name_of mem_bytes c.as_str.result.now) (drop (c.loop-i.i + 1) c.args.files.now) ≡ None =
    ap (position (is_named name_of mem_bytes c.as_str.result.now)) (sym (take_rest c.args.files.now (c.loop-i.i + 1))) ∙ sym c.place_of.ensures
    ∙ not_found c.place_of.result (sym c.is_some.ensures ∙ c.if-is_some.false) in
    below_more _ _ c.loop-i.invariant (λ j d past within.
    named_once name_of mem_bytes _ c.args.files.now c.loop-i.i j c.index-files-i.result d c.as_str.ensures.value c.index-files-i.is none past within)
