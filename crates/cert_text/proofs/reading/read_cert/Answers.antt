use Rattle.std.proofs.Common.{◌≡◌, ℕ, List, Result, Ok, Err, refl, sym, ◌∙◌}
use Rattle.std.specs.Prelude.{IfErr, IfOk, MatchResult}
use Rattle.coord_model.specs.declared.cert.Cert.{Cert}
use Rattle.cert_text.specs.CertData.{CertData, IsCert, cert_data}
use Rattle.cert_text.specs.CertText.{cert_text}
use Rattle.cert_text.specs.Stops.{IsRefusalOf}
use Rattle.cert_text.specs.declared.refusal.CertRefusal.{CertRefusal}
use Rattle.cert_text.specs.declared.refusal.CertRefusal.TheVariants.{Fault, NoMemory}
use Rattle.cert_text.proofs.SameCerts.{same_cert}
use Rattle.cert_text.proofs.reading.read_cert.Goals as goal

-- where the bytes are a certificate's text, that certificate is read, or memory ran out
read_or_none : (bytes : List ℕ) (r : Result Cert CertRefusal) (cert : CertData) → IsCert cert → bytes ≡ cert_text cert
    → IfOk r (λ read. IsCert (cert_data read)) → IfOk r (λ read. bytes ≡ cert_text (cert_data read)) → IfErr r (IsRefusalOf bytes)
    → MatchResult r (λ read. cert_data read ≡ cert) (λ refusal. refusal ≡ NoMemory)
read_or_none bytes (Ok read) cert is text of_read said stops = same_cert (cert_data read) cert of_read is (sym said ∙ text)
read_or_none bytes (Err (Fault line kind)) cert is text of_read said stops = absurd (stops.no_cert cert is text)
read_or_none bytes (Err NoMemory) cert is text of_read said stops = refl

pub returns-clause-read : goal.returns-clause-read
returns-clause-read c cert is text =
    read_or_none c.args.bytes.now c.cert_in.result cert is text c.cert_in.ensures.is c.cert_in.ensures.said c.cert_in.ensures.stops
