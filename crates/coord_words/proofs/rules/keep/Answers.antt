use Rattle.clap.specs.Simple.{app_of}
use Rattle.coord_words.proofs.KeptWords.{refused, taken}
use Rattle.coord_words.proofs.rules.keep.Goals as goal

pub returns-in_err-try_get_matches_from : goal.returns-in_err-try_get_matches_from
returns-in_err-try_get_matches_from c =
    refused c.args.words.now (app_of c.in_ok-word_rules.field-0) c.in_ok-word_rules.ensures c.in_err-try_get_matches_from.field-0.0
    c.from_residual-in_err-try_get_matches_from.result c.in_err-try_get_matches_from.ensures.kinds c.from_residual-in_err-try_get_matches_from.ensures.1

pub returns : goal.returns
returns c =
    taken c.args.words.now (app_of c.in_ok-word_rules.field-0) c.in_ok-word_rules.ensures c.in_ok-try_get_matches_from.field-0
    c.in_ok-try_get_matches_from.ensures.kinds c.in_ok-try_get_matches_from.ensures.matches
