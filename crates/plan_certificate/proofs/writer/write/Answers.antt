use Rattle.std.proofs.lemmas.Str.{IsUtf8-string_bytes}
use Rattle.plan_certificate.specs.Certificate.{certificate_of}
use Rattle.plan_certificate.specs.Text.{certificate_data, text_of}
use Rattle.plan_certificate.proofs.NoFloat.{no_float, shallow}
use Rattle.plan_certificate.proofs.CertificateData.{written}
use Rattle.plan_certificate.proofs.writer.write.Goals as goal

pub returns-clause-text : goal.returns-clause-text
unfolding text_of
returns-clause-text c =
    let value = c.in_ok-value.ensures in
    let text = c.in_ok-text.ensures.text (rw value (no_float (certificate_of c.args.certificate.now))) in
    let again = rw value at text in
    rw c.into_bytes.ensures.value again

pub returns-clause-spells : goal.returns-clause-spells
returns-clause-spells c = λ groups range.
    let certificate = certificate_of c.args.certificate.now in
    let value = c.in_ok-value.ensures in
    let read = c.in_ok-text.ensures.reads_back (rw value (shallow certificate)) in
    let again = rw value at read in
    record {
      value = certificate_data certificate;
      json = record { utf8 = rw c.into_bytes.ensures.value (IsUtf8-string_bytes c.in_ok-text.text); value = rw c.into_bytes.ensures.value again };
      certificate = written groups certificate range;
    }
