use Rattle.std.proofs.Common.{is_some, ap, refl, sym, subst}
use Rattle.cert_text.specs.CertData.{IsCert}
use Rattle.cert_text.proofs.ReadingSteps.{cert_is, finished}
use Rattle.cert_text.proofs.reading.Reading.finish.Goals as goal

pub unwrap-requires : goal.unwrap-requires
unwrap-requires c = ap is_some (finished c.requires.0 c.args.self c.requires.1).tree.is

pub returns-clause-is : goal.returns-clause-is
returns-clause-is c =
    let done = finished c.requires.0 c.args.self c.requires.1 in
    subst IsCert (sym (cert_is c.requires.0 c.args.self done _ refl c.choice_with.ensures c.unwrap.ensures)) done.is
