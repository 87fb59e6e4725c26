use Rattle.std.proofs.Common.{refl, length-drop, ◌≡◌, ◌+◌, ◌/◌, ◌^◌, ◌∙◌, sym, ap, arith, rules, length, drop}
use Rattle.std.proofs.Math.Nat.{div-le_self}
use Rattle.std.proofs.lemmas.Fmt.{decimal_injective}
use Rattle.coord_text.specs.Numbers.{low_digits}
use Rattle.coord_text.proofs.Digits.{fixed_parts, length-fixed, same_number}
use Rattle.coord_text.proofs.words.read_fixed.Goals as goal

pub returns-in_err-point-clause-no_such : goal.returns-in_err-point-clause-no_such
returns-in_err-point-clause-no_such c none n within is = c.in_err-point.ensures (omega (arith, ap length is, length-fixed c.args.places n))

pub returns-then-word-point-ne-POINT-clause-no_such : goal.returns-then-word-point-ne-POINT-clause-no_such
returns-then-word-point-ne-POINT-clause-no_such c none n within is =
    c.if-word-point-ne-POINT.true (fixed_parts c.args.places n c.in_ok-point.point c.args.word.now (omega (arith, c.in_ok-point.ensures)) is).1

pub returns-in_err-whole-clause-no_such : goal.returns-in_err-whole-clause-no_such
returns-in_err-whole-clause-no_such c none n within is =
    let parts = fixed_parts c.args.places n c.in_ok-point.point c.args.word.now (omega (arith, c.in_ok-point.ensures)) is in
    c.in_err-whole.ensures.no_such refl (n / 10 ^ c.args.places) (omega (arith, div-le_self n (10 ^ c.args.places))) parts.0

pub returns-in_err-n-clause-no_such : goal.returns-in_err-n-clause-no_such
returns-in_err-n-clause-no_such c none n within is =
    let parts = fixed_parts c.args.places n c.in_ok-point.point c.args.word.now (omega (arith, c.in_ok-point.ensures)) is in
    let digits : c.split_at.result.1.now ≡ drop (c.in_ok-point.point + 1) c.args.word.now = search rules in
    let long : length c.split_at.result.1.now ≡ c.args.places =
    omega (arith, ap length digits, length-drop (c.in_ok-point.point + 1) c.args.word.now, c.in_ok-point.ensures) in
    c.in_err-n.ensures.no_such refl n (digits ∙ parts.2 ∙ ap (λ k. low_digits k n) (sym long))

pub returns-else-n-from-clause-no_such : goal.returns-else-n-from-clause-no_such
returns-else-n-from-clause-no_such c none n within is =
    let parts = fixed_parts c.args.places n c.in_ok-point.point c.args.word.now (omega (arith, c.in_ok-point.ensures)) is in
    let whole : n / 10 ^ c.args.places ≡ c.in_ok-whole.whole =
    decimal_injective (n / 10 ^ c.args.places) c.in_ok-whole.whole (omega (arith, div-le_self n (10 ^ c.args.places))) (omega arith)
    (sym parts.0 ∙ c.in_ok-whole.ensures.spelled.1) in
    let behind : c.split_at.result.1.now ≡ drop (c.in_ok-point.point + 1) c.args.word.now = search rules in
    let long : length c.split_at.result.1.now ≡ c.args.places =
    omega (arith, ap length behind, length-drop (c.in_ok-point.point + 1) c.args.word.now, c.in_ok-point.ensures) in
    let front : c.in_ok-n.n / 10 ^ c.args.places ≡ c.in_ok-whole.whole = rw long at c.in_ok-n.ensures.spelled.0 in
    let digits : c.split_at.result.1.now ≡ low_digits c.args.places c.in_ok-n.n = rw long at c.in_ok-n.ensures.spelled.1 in
    let same = same_number c.args.places c.in_ok-n.n n (front ∙ sym whole) (sym digits ∙ behind ∙ parts.2) in
    absurd (omega (arith, same))
