use Rattle.std.proofs.Common.{◌≡◌, ◌++◌, length, take, drop, Some, None, refl, sym, ap, subst, ◌∙◌, arith, rules}
use Rattle.std.specs.Fmt.{decimal}
use Rattle.std.proofs.Math.Seq.{take-append_seam}
use Rattle.std.proofs.lemmas.Bool.Decides.{Decides-eqb}
use Rattle.std.proofs.lemmas.List.{append_cancel_left, take-append-drop}
use Rattle.std.proofs.lemmas.Slice.Eq.{strip_prefix_is}
use Rattle.cert_text.specs.Numbers.{StopsDigits}
use Rattle.cert_text.proofs.Cuts.{digits_of, number_ends, stops_behind}
use Rattle.cert_text.proofs.numbers.cut_number.Goals as goal

pub returns-in_err-text-clause-no_such : goal.returns-in_err-text-clause-no_such
returns-in_err-text-clause-no_such c none n rest within stops is =
    strip_prefix_is Decides-eqb c.args.text.now c.args.label.now None c.in_err-text.ensures.cases (decimal n ++ rest) is

pub returns-in_err-read_number-clause-no_such : goal.returns-in_err-read_number-clause-no_such
returns-in_err-read_number-clause-no_such c none n rest within stops is =
    let text = c.in_ok-text.text.now in
    let parts = strip_prefix_is Decides-eqb c.args.text.now c.args.label.now (Some c.in_ok-text.text) c.in_ok-text.ensures.cases in
    let there : text ≡ decimal n ++ rest = append_cancel_left c.args.label.now text (decimal n ++ rest) (sym parts ∙ is) in
    let long : c.digits_len.result ≡ length (decimal n) = c.digits_len.ensures.exact ∙ ap digits_of there ∙ number_ends n rest (omega arith) stops in
    let front : c.split_at.result.0.now ≡ take c.digits_len.result text = search rules in
    let word : c.split_at.result.0.now ≡ decimal n = front ∙ ap (λ k. take k text) long ∙ ap (take (length (decimal n))) there ∙ take-append_seam (decimal n) rest in
    c.in_err-read_number.ensures.no_such refl n within word

pub returns-clause-stops : goal.returns-clause-stops
returns-clause-stops c =
    let text = c.in_ok-text.text.now in
    let behind : c.split_at.result.1.now ≡ drop c.digits_len.result text = search rules in
    subst StopsDigits (sym (behind ∙ ap (λ k. drop k text) c.digits_len.ensures.exact)) (stops_behind text)

pub returns-clause-said : goal.returns-clause-said
returns-clause-said c =
    let text = c.in_ok-text.text.now in
    let parts = strip_prefix_is Decides-eqb c.args.text.now c.args.label.now (Some c.in_ok-text.text) c.in_ok-text.ensures.cases in
    let front : c.split_at.result.0.now ≡ take c.digits_len.result text = search rules in
    let behind : c.split_at.result.1.now ≡ drop c.digits_len.result text = search rules in
    let whole : text ≡ c.split_at.result.0.now ++ c.split_at.result.1.now = rw (front, behind) (sym (take-append-drop c.digits_len.result text)) in
    parts ∙ ap (λ w. c.args.label.now ++ w) (whole ∙ ap (λ w. w ++ c.split_at.result.1.now) c.in_ok-read_number.ensures.spelled.1)
