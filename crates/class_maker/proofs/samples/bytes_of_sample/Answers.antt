use Rattle.std.proofs.Common.{◌≡◌, IfOk, sym, subst}
use Rattle.jvm_model.specs.Spelling.{spell}
use Rattle.class_maker.specs.Counts.{IsCountedClass}
use Rattle.class_maker.proofs.Counted.{counted_sample}
use Rattle.class_maker.proofs.samples.bytes_of_sample.Goals as goal

pub make_class-requires : goal.make_class-requires
make_class-requires c = subst IsCountedClass (sym c.in_ok-class.ensures) (counted_sample c.args.count c.requires)

pub returns : goal.returns
returns c = subst (λ class. IfOk c.make_class.result (λ bytes. bytes.items ≡ spell class)) c.in_ok-class.ensures c.make_class.ensures
