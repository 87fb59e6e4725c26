use Rattle.std.proofs.Common.{◌≡◌, ◌==◌, ◌++◌, length, not, take, drop, ap, ◌∙◌, None, rules}
use Rattle.std.specs.List.{list_all, position_or_len}
use Rattle.std.specs.Prelude.{codes}
use Rattle.std.proofs.Math.Seq.{drop-append_seam}
use Rattle.std.proofs.lemmas.Bool.Decides.{Decides-eqb}
use Rattle.std.proofs.lemmas.Slice.Eq.{strip_prefix_is}
use Rattle.coord_text.proofs.Breaks.{word_ends}
use Rattle.settings_sheet.proofs.Spelled.{front_passes}
use Rattle.settings_sheet.proofs.relay_lines.cut_at_dial.Goals as goal

pub returns-in_err-strip_prefix-clause-no_such : goal.returns-in_err-strip_prefix-clause-no_such
returns-in_err-strip_prefix-clause-no_such c none plug dial free is =
    let words = c.args.words.now in
    let rest = c.split_at.result.1.now in
    let len = c.word_len.result in
    let there : len ≡ length plug = c.word_len.ensures.exact ∙ ap (position_or_len (λ b. b == 32)) is ∙ word_ends 32 plug (codes "dial " ++ dial) free in
    let behind : rest ≡ drop len words = search rules in
    let found : rest ≡ codes " dial " ++ dial =
    behind ∙ ap (λ k. drop k words) there ∙ ap (drop (length plug)) is ∙ drop-append_seam plug (codes " dial " ++ dial) in
    strip_prefix_is Decides-eqb rest (codes " dial ") None c.in_err-strip_prefix.ensures.cases dial found

pub returns-clause-plain : goal.returns-clause-plain
returns-clause-plain c =
    let words = c.args.words.now in
    let front : c.split_at.result.0.now ≡ take c.word_len.result words = search rules in
    let len : c.word_len.result ≡ position_or_len (λ b. b == 32) words = c.word_len.ensures.exact in
    ap (list_all (λ b. not (b == 32))) (front ∙ ap (λ k. take k words) len) ∙ front_passes (λ b. not (b == 32)) words
