use Rattle.std.proofs.Common.{◌≡◌, List, ℕ, ◌++◌, ap, sym, ◌∙◌, Option, Some, None}
use Rattle.std.specs.Borrow.{Bor}
use Rattle.std.specs.Prelude.{codes, IfSome}
use Rattle.std.proofs.lemmas.Bool.Decides.{Decides-eqb}
use Rattle.std.proofs.lemmas.List.{append_cancel_left}
use Rattle.std.proofs.lemmas.Slice.Eq.{strip_prefix_is}
use Rattle.settings_sheet.proofs.relay_lines.settings_on.Goals as goal
use Rattle.settings_sheet.proofs.relay_lines.settings_on.Goals.{After-cut_at_dial}

-- the line behind the name and the label of the plug
behind_name : (c : After-cut_at_dial) → c.args.line.now ≡ codes "relay " ++ (c.args.name.now ++ (codes " plug " ++ c.in_ok-words-3.words.now))
behind_name c =
    let first = strip_prefix_is Decides-eqb c.args.line.now (codes "relay ") (Some c.in_ok-words.words) c.in_ok-words.ensures.cases in
    let second = strip_prefix_is Decides-eqb c.in_ok-words.words.now c.args.name.now (Some c.in_ok-words-2.words) c.in_ok-words-2.ensures.cases in
    let third = strip_prefix_is Decides-eqb c.in_ok-words-2.words.now (codes " plug ") (Some c.in_ok-words-3.words) c.in_ok-words-3.ensures.cases in
    first ∙ ap (λ w. codes "relay " ++ w) (second ∙ ap (λ w. c.args.name.now ++ w) third)

-- what is said behind the label of the plug is said by the line
said_behind : (line name words : List ℕ) (read : Option (Bor (List ℕ) × Bor (List ℕ)))
    → line ≡ codes "relay " ++ (name ++ (codes " plug " ++ words))
    → IfSome read (λ r. words ≡ r.0.now ++ (codes " dial " ++ r.1.now))
    → IfSome read (λ r. line ≡ codes "relay " ++ (name ++ (codes " plug " ++ (r.0.now ++ (codes " dial " ++ r.1.now)))))
said_behind line name words None behind said = tt
said_behind line name words (Some r) behind said = behind ∙ ap (λ w. codes "relay " ++ (name ++ (codes " plug " ++ w))) said

pub returns-in_err-words-2-clause-no_such : goal.returns-in_err-words-2-clause-no_such
returns-in_err-words-2-clause-no_such c none plug dial free is =
    let words = c.in_ok-words.words.now in
    let parts = strip_prefix_is Decides-eqb c.args.line.now (codes "relay ") (Some c.in_ok-words.words) c.in_ok-words.ensures.cases in
    let tail = codes " plug " ++ (plug ++ (codes " dial " ++ dial)) in
    let there : words ≡ c.args.name.now ++ tail = append_cancel_left (codes "relay ") words (c.args.name.now ++ tail) (sym parts ∙ is) in
    strip_prefix_is Decides-eqb words c.args.name.now None c.in_err-words-2.ensures.cases tail there

pub returns-clause-said : goal.returns-clause-said
returns-clause-said c = said_behind c.args.line.now c.args.name.now c.in_ok-words-3.words.now c.cut_at_dial.result (behind_name c) c.cut_at_dial.ensures.said

pub returns-clause-no_such : goal.returns-clause-no_such
returns-clause-no_such c none plug dial free is =
    let words = c.in_ok-words-3.words.now in
    let tail = plug ++ (codes " dial " ++ dial) in
    let named : c.args.name.now ++ (codes " plug " ++ words) ≡ c.args.name.now ++ (codes " plug " ++ tail) =
    append_cancel_left (codes "relay ") (c.args.name.now ++ (codes " plug " ++ words)) (c.args.name.now ++ (codes " plug " ++ tail)) (sym (behind_name c) ∙ is) in
    let labelled = append_cancel_left c.args.name.now (codes " plug " ++ words) (codes " plug " ++ tail) named in
    c.cut_at_dial.ensures.no_such none plug dial free (append_cancel_left (codes " plug ") words tail labelled)
