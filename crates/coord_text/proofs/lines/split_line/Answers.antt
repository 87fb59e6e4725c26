use Rattle.std.proofs.Common.{◌≡◌, ◌+◌, ◌-◌, ◌∷◌, ◌++◌, take, drop, ap, arith, sym, ◌∙◌, length, length-drop}
use Rattle.std.proofs.lemmas.List.{take_all}
use Rattle.coord_text.proofs.Breaks.{line_found, line_there}
use Rattle.coord_text.proofs.lines.split_line.Goals as goal

pub returns-in-Line-clause-line : goal.returns-in-Line-clause-line
returns-in-Line-clause-line c =
    let left = c.args.left.now in
    let to = c.in-Line.to in
    let found = line_found left to (sym c.in-Line.ensures.exact) (omega (arith, c.in-Line.ensures.within.1)) in
    let rest : take (length left - (to + 1)) (drop (to + 1) left) ≡ drop (to + 1) left =
    take_all (length left - (to + 1)) (drop (to + 1) left) (omega (arith, length-drop (to + 1) left)) in
    (found.0, found.1 ∙ ap (λ w. take to left ++ 10 ∷ w) (sym rest))

pub returns-in_default : goal.returns-in_default
returns-in_default c = record {
  line = tt;
  no_line = λ none line rest is stands. c.in_default.not-Line (length line) (c.next_line.ensures.exact ∙ line_there c.args.left.now line rest is stands);
}
