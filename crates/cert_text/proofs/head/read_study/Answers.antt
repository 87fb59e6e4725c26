use Rattle.std.proofs.Common.{◌≡◌, ℕ, ◌^◌, ◌<◌, List, ◌∷◌, ◌++◌, refl, arith}
use Rattle.std.specs.Fmt.{decimal}
use Rattle.std.specs.Prelude.{codes}
use Rattle.coord_model.specs.declared.cert.StudyHead.{StudyHead}
use Rattle.cert_text.specs.CertText.{study_line}
use Rattle.cert_text.specs.Numbers.{StopsDigits}
use Rattle.cert_text.proofs.Cuts.{same_number}
use Rattle.cert_text.proofs.head.read_study.Goals as goal

-- the first number of a line of the study
first_same : (line rest : List ℕ) (n : ℕ) (study : StudyHead) → n < 2 ^ 64 → study.format < 2 ^ 64 → StopsDigits rest
    → line ≡ codes "study " ++ (decimal n ++ rest) → line ≡ study_line study → (n ≡ study.format) × (rest ≡ 32 ∷ (decimal study.relays ++ 32 ∷ decimal study.rows))
first_same line rest n study of_n of_format stops said is =
    let behind : decimal n ++ rest ≡ decimal study.format ++ 32 ∷ (decimal study.relays ++ 32 ∷ decimal study.rows) = cc (said, is) in
    same_number n study.format rest (32 ∷ (decimal study.relays ++ 32 ∷ decimal study.rows)) of_n of_format stops refl behind

-- and the second
second_same : (rest left : List ℕ) (n relays rows : ℕ) → n < 2 ^ 64 → relays < 2 ^ 64 → StopsDigits left
    → rest ≡ 32 ∷ (decimal n ++ left) → rest ≡ 32 ∷ (decimal relays ++ 32 ∷ decimal rows) → (n ≡ relays) × (left ≡ 32 ∷ decimal rows)
second_same rest left n relays rows of_n of_relays stops said is =
    let behind : decimal n ++ left ≡ decimal relays ++ 32 ∷ decimal rows = cc (said, is) in
    same_number n relays left (32 ∷ decimal rows) of_n of_relays stops refl behind

pub returns-in_err-format-clause-no_such : goal.returns-in_err-format-clause-no_such
returns-in_err-format-clause-no_such c none study are is =
    c.in_err-format.ensures.no_such refl study.format (32 ∷ (decimal study.relays ++ 32 ∷ decimal study.rows)) are.format.1 refl is

pub returns-in_err-relays-clause-no_such : goal.returns-in_err-relays-clause-no_such
returns-in_err-relays-clause-no_such c none study are is =
    let read = c.in_ok-format in
    let first = first_same c.args.line.now read.rest.now read.format study (omega (arith, read.ensures.within)) (omega (arith, are.format.1)) read.ensures.stops read.ensures.said is in
    c.in_err-relays.ensures.no_such refl study.relays (32 ∷ decimal study.rows) are.relays.1 refl first.1

pub returns-in_err-rows-clause-no_such : goal.returns-in_err-rows-clause-no_such
returns-in_err-rows-clause-no_such c none study are is =
    let read = c.in_ok-format in
    let more = c.in_ok-relays in
    let first = first_same c.args.line.now read.rest.now read.format study (omega (arith, read.ensures.within)) (omega (arith, are.format.1)) read.ensures.stops read.ensures.said is in
    let second = second_same read.rest.now more.rest.now more.relays study.relays study.rows (omega (arith, more.ensures.within)) (omega (arith, are.relays.1)) more.ensures.stops more.ensures.said first.1 in
    c.in_err-rows.ensures.no_such refl study.rows are.rows second.1

pub returns-then-format-eq0-clause-no_such : goal.returns-then-format-eq0-clause-no_such
returns-then-format-eq0-clause-no_such c none study are is =
    let read = c.in_ok-format in
    let first = first_same c.args.line.now read.rest.now read.format study (omega (arith, read.ensures.within)) (omega (arith, are.format.1)) read.ensures.stops read.ensures.said is in
    omega (arith, first.0, are.format.0, c.if-format-eq0.true)

pub returns-then-relays-eq0-clause-no_such : goal.returns-then-relays-eq0-clause-no_such
returns-then-relays-eq0-clause-no_such c none study are is =
    let read = c.in_ok-format in
    let more = c.in_ok-relays in
    let first = first_same c.args.line.now read.rest.now read.format study (omega (arith, read.ensures.within)) (omega (arith, are.format.1)) read.ensures.stops read.ensures.said is in
    let second = second_same read.rest.now more.rest.now more.relays study.relays study.rows (omega (arith, more.ensures.within)) (omega (arith, are.relays.1)) more.ensures.stops more.ensures.said first.1 in
    omega (arith, second.0, are.relays.0, c.if-relays-eq0.true)
