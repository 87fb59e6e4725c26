use Rattle.cert_text.proofs.CertLengths.{texts_fit}
use Rattle.cert_text.proofs.text.each_text_fits.Goals as goal

pub returns : goal.returns
returns c = texts_fit
