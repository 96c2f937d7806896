use Rattle.std.proofs.Common.{length, refl}
use Rattle.std.proofs.lemmas.Option.{slice_get_read}
use Rattle.certificate_ground.proofs.GivenMethods.{one_more_number}
use Rattle.certificate_ground.proofs.reached.numbers_of.Goals as goal

pub loop-method-preserved : goal.loop-method-preserved
loop-method-preserved c =
    let methods = c.args.methods.now in
    let at = slice_get_read methods (length methods) c.loop-method.method-index c.method-item.result refl c.loop-method-test.true c.method-item.is in
    record {
      numbers = one_more_number methods c.requires c.loop-method.method-index c.method-item.result at c.loop-method.numbers.keys c.insert.new.self.keys
          c.loop-method.invariant.numbers c.in_ok-insert.ensures.keys;
    }
