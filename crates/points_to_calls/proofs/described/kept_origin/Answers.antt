use Rattle.std.proofs.Common.{◌∙◌, sym, ap}
use Rattle.jvm_model.specs.Stubs.{result_class}
use Rattle.points_to_calls.proofs.Stubs.{kept_given}
use Rattle.points_to_calls.proofs.described.kept_origin.Goals as goal

pub returns : goal.returns
returns c = λ site r at.
    let e = c.in_ok-class.ensures in
    record {
      grows = e.grows;
      calls = e.calls;
      is = kept_given c.args.tables.now c.class_name.new.self c.args.description.now.receiver r c.args.description.now.stub.now site c.in_ok-class.class c.in-Some.class.now
          (sym c.is_some.ensures ∙ c.if-is_some.false) at (ap result_class (sym c.as_slice.ensures) ∙ sym c.in-Some.ensures) e.stands;
    }
