use Rattle.std.proofs.Common.{◌≡◌, ◌/◌, ◌^◌, take}
use Rattle.coord_text.specs.Numbers.{low_digits}
use Rattle.coord_text.proofs.words.with_digits.Given as goal

abbrev pub invariant-loop-digit : goal.invariant-loop-digit
invariant-loop-digit l = record {
  front : l.n / 10 ^ l.digit-index ≡ l.front;
  digits : take l.digit-index l.digits ≡ low_digits l.digit-index l.n;
}
