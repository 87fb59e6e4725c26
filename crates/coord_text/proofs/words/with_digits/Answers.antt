use Rattle.std.proofs.Common.{◌≡◌, ◌+◌, ◌<◌, ◌∙◌, ap, sym, arith, true, false, length, get_or, take, ◌++◌, ◌∷◌, []}
use Rattle.std.specs.Char.{is_ascii_digit}
use Rattle.std.specs.List.{list_all}
use Rattle.std.proofs.lemmas.Bool.Decides.{nat_tests}
use Rattle.std.proofs.lemmas.List.{take_more}
use Rattle.std.proofs.lemmas.List.Folds.{list_all_at}
use Rattle.coord_text.specs.Numbers.{low_digits}
use Rattle.coord_text.proofs.Digits.{digit_value, digits_fit, low_digits-pass, one_more_digit}
use Rattle.coord_text.proofs.words.with_digits.Goals as goal
use Rattle.coord_text.proofs.words.with_digits.Goals.{After-from}

-- the new digit is one
digit : (c : After-from) → (c.from.result < 10) × (get_or c.args.digits.now c.loop-digit.digit-index 0 ≡ 48 + c.from.result)
digit c =
    let value = digit_value (get_or c.args.digits.now c.loop-digit.digit-index 0) cc in
    (omega (arith, value.0, value.1, c.from.ensures), omega (arith, value.0, value.1, c.from.ensures))

pub returns-then-not-is_ascii_digit-clause-no_such : goal.returns-then-not-is_ascii_digit-clause-no_such
returns-then-not-is_ascii_digit-clause-no_such c none n is =
    let digits = c.args.digits.now in
    let fails : is_ascii_digit (get_or digits c.loop-digit.digit-index 0) ≡ false = cc in
    let some_fails : list_all is_ascii_digit digits ≡ false = list_all_at is_ascii_digit digits c.loop-digit.digit-index 0 (omega arith) fails in
    let all_pass : list_all is_ascii_digit (low_digits (length digits) n) ≡ true =
    low_digits-pass is_ascii_digit (λ b small. grind (arith, nat_tests)) (length digits) n in
    cc (some_fails, all_pass, is)

pub overflow_mul-n : goal.overflow_mul-n
overflow_mul-n c = omega (arith, digits_fit c.loop-digit.digit-index c.args.front c.loop-digit.n (omega arith) (omega arith) c.loop-digit.invariant.front)

pub overflow_add-n : goal.overflow_add-n
overflow_add-n c = omega (arith, (digit c).0, digits_fit c.loop-digit.digit-index c.args.front c.loop-digit.n (omega arith) (omega arith) c.loop-digit.invariant.front)

pub loop-digit-preserved : goal.loop-digit-preserved
loop-digit-preserved c =
    let i = c.loop-digit.digit-index in
    let more = one_more_digit i c.loop-digit.n c.from.result (digit c).0 in
    let read = take_more c.args.digits.now i 0 (omega arith) in
    record {
      front = more.0 ∙ c.loop-digit.invariant.front;
      digits = read ∙ ap (λ b. take i c.args.digits.now ++ b ∷ []) (digit c).1 ∙ ap (λ w. w ++ (48 + c.from.result) ∷ []) c.loop-digit.invariant.digits ∙ sym more.1;
    }
