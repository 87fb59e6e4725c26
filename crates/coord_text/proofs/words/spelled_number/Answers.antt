use Rattle.std.proofs.Common.{sym, subst}
use Rattle.std.specs.Str.{IsAscii}
use Rattle.std.proofs.lemmas.Fmt.{IsAscii-decimal}
use Rattle.std.proofs.lemmas.Str.{IsUtf8-from_ascii}
use Rattle.coord_text.proofs.words.spelled_number.Goals as goal

pub returns-in-Err-clause-no_such : goal.returns-in-Err-clause-no_such
returns-in-Err-clause-no_such c none n small is =
    let ascii : IsAscii c.args.word.now = subst IsAscii (sym is) (IsAscii-decimal n small) in
    c.in-Err.ensures.cases.0 (IsUtf8-from_ascii c.args.word.now ascii)
