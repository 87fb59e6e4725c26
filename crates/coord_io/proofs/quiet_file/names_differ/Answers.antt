use Rattle.std.proofs.Common.{◌≡◌, ◌+◌, List, drop, true, None, is_some, position, sym, ap, ◌∙◌, below_more}
use Rattle.std.proofs.lemmas.List.{take_rest}
use Rattle.coord_io.specs.declared.quiet_file.QuietFile.{QuietFile}
use Rattle.coord_io.proofs.Places.{is_named, named_again, named_once, not_found}
use Rattle.coord_io.proofs.QuietPlaces.{own_bytes, own_name}
use Rattle.coord_io.proofs.quiet_file.names_differ.Goals as goal

pub returns-then-is_some : goal.returns-then-is_some
returns-then-is_some c =
    let found : is_some (position (is_named own_name own_bytes c.bytes.result.now) (drop (c.loop-i.i + 1) c.args.files.now)) ≡ true =
    ap (λ (l : List QuietFile). is_some (position (is_named own_name own_bytes c.bytes.result.now) l)) (sym (take_rest c.args.files.now (c.loop-i.i + 1)))
    ∙ ap is_some (sym c.place_of.ensures) ∙ sym c.is_some.ensures ∙ c.if-is_some.true in (
      (λ yes. let no : ⊥ = cc in absurd no),
      (λ distinct. absurd (named_again own_name own_bytes _ c.args.files.now c.loop-i.i c.index-files-i.result c.bytes.ensures.value c.index-files-i.is found distinct)),
    )

pub loop-i-preserved : goal.loop-i-preserved
loop-i-preserved c =
    let none : position (is_named own_name own_bytes c.bytes.result.now) (drop (c.loop-i.i + 1) c.args.files.now) ≡ None =
    ap (position (is_named own_name own_bytes c.bytes.result.now)) (sym (take_rest c.args.files.now (c.loop-i.i + 1))) ∙ sym c.place_of.ensures
    ∙ not_found c.place_of.result (sym c.is_some.ensures ∙ c.if-is_some.false) in
    below_more _ _ c.loop-i.invariant (λ j d past within.
    named_once own_name own_bytes _ c.args.files.now c.loop-i.i j c.index-files-i.result d c.bytes.ensures.value c.index-files-i.is none past within)
