use Rattle.cert_text.specs.CertData.{cert_data}
use Rattle.cert_text.proofs.CertLengths.{text_fits}
use Rattle.cert_text.proofs.SameCerts.{only_text}
use Rattle.cert_text.proofs.text.cert_bytes.Goals as goal

pub returns-clause-only : goal.returns-clause-only
returns-clause-only c = only_text c.whole_text.result (λ bytes. bytes.items) (cert_data c.args.cert.now) c.requires c.whole_text.ensures

pub returns-clause-fits : goal.returns-clause-fits
returns-clause-fits c = text_fits c.whole_text.result (λ bytes. bytes.items) (cert_data c.args.cert.now) c.requires c.whole_text.ensures
