use Rattle.std.proofs.Common.{length, take, List, ap, arith}
use Rattle.std.specs.List.{flat_map}
use Rattle.jvm_model.specs.declared.class_file.Member.{Member}
use Rattle.jvm_model.specs.Spelling.{member}
use Rattle.jvm_model.proofs.Lengths.{one_fits, one_more, at_end}
use Rattle.code_reader.proofs.MethodPlaces.{front_fits}
use Rattle.code_reader.proofs.place.method_offset.Goals as goal

pub member_length-offset-requires : goal.member_length-offset-requires
member_length-offset-requires c =
    let fits = front_fits c.args.class.now c.args.method in
    let same = ap (λ (ms : List Member). length (flat_map member (take c.args.method ms))) c.as_slice.ensures in
    omega (arith, fits, same, c.requires.size, one_fits member (take c.args.method c.as_slice.result.now) c.loop-earlier.earlier-index c.earlier-item.result c.loop-earlier-test.true c.earlier-item.is)

pub overflow_add-offset : goal.overflow_add-offset
overflow_add-offset c =
    let fits = front_fits c.args.class.now c.args.method in
    let same = ap (λ (ms : List Member). length (flat_map member (take c.args.method ms))) c.as_slice.ensures in
    omega (arith, fits, same, c.requires.size, one_fits member (take c.args.method c.as_slice.result.now) c.loop-earlier.earlier-index c.earlier-item.result c.loop-earlier-test.true c.earlier-item.is)

pub loop-earlier-preserved : goal.loop-earlier-preserved
loop-earlier-preserved c =
    omega (arith, one_more member (take c.args.method c.as_slice.result.now) c.loop-earlier.earlier-index c.earlier-item.result c.loop-earlier-test.true c.earlier-item.is)

pub returns : goal.returns
returns c =
    let same = ap (λ (ms : List Member). length (flat_map member (take c.args.method ms))) c.as_slice.ensures in
    omega (arith, same, at_end member (take c.args.method c.as_slice.result.now) c.loop-earlier.earlier-index c.loop-earlier-test.false)
