use Rattle.certificates.proofs.TextLaws.{none_bad, one_bad, one_certificate}
use Rattle.certificates.proofs.laws.one_bad_line.Goals as goal

pub returns-clause-first : goal.returns-clause-first
returns-clause-first c = one_bad

pub returns-clause-none : goal.returns-clause-none
returns-clause-none c = none_bad

pub returns-clause-one_certificate : goal.returns-clause-one_certificate
returns-clause-one_certificate c = one_certificate
