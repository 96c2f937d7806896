use Rattle.certificates.proofs.TextLaws.{reads_as}
use Rattle.certificates.proofs.reading.read_certificate.Goals as goal

pub returns-clause-only : goal.returns-clause-only
returns-clause-only c all is short e =
    reads_as c.args.ranges c.read_lines.result c.args.bytes.now all c.read_lines.ensures.certificate c.read_lines.ensures.found c.read_lines.ensures.end is short e
