use Rattle.std.proofs.Common.{subst, arith}
use Rattle.byte_reader.specs.Reading.{Tells}
use Rattle.classfile_reader.proofs.Classes.{class_of_again, is_found}
use Rattle.classfile_reader.proofs.class.spelled_class.Goals as goal

pub returns-clause-found : goal.returns-clause-found
returns-clause-found c = is_found c.args.bytes.now c.whole.result (λ i. omega (arith, c.type_inv.bytes i)) c.whole.ensures

pub returns-clause-only : goal.returns-clause-only
returns-clause-only c = λ class h. subst (λ r. Tells c.whole.result r) (class_of_again c.args.bytes.now class h) c.whole.ensures
