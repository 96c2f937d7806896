use Rattle.std.proofs.Common.{List, ◌++◌, map, drop, refl}
use Rattle.std.proofs.lemmas.Result.{err_from_is_err_and}
use Rattle.jvm_model.specs.declared.stub.StubClass.{StubClass}
use Rattle.jvm_model.specs.Linking.{own_classes}
use Rattle.program_index.specs.Limits.{AreTooMany}
use Rattle.program_linking.specs.Claims.{stub_name, stub_kind, own_name, own_kind}
use Rattle.program_linking.proofs.Building.{build_on, build_done}
use Rattle.program_linking.proofs.NewNames.{new_head, new_next, own_names_split, own_kinds_split}
use Rattle.program_linking.proofs.LargeInputs.{error_more, many_more}
use Rattle.program_linking.proofs.known.add_stubs.Goals as goal

pub add_stub-requires : goal.add_stub-requires
add_stub-requires c =
    let xs = c.args.stubs.now in
    let names = λ (ys : List StubClass). map stub_name (own_classes ys) in
    let kinds = λ (ys : List StubClass). map stub_kind (own_classes ys) in
    new_head names own_name own_names_split xs c.loop-c.c-index c.c-item.result c.loop-c-test.true c.c-item.is c.loop-c.names c.loop-c.invariant.new

pub loop-c-init : goal.loop-c-init
loop-c-init c = record { new = c.requires; names = refl; kinds = refl }

pub loop-c-preserved : goal.loop-c-preserved
loop-c-preserved c =
    let xs = c.args.stubs.now in
    let names = λ (ys : List StubClass). map stub_name (own_classes ys) in
    let kinds = λ (ys : List StubClass). map stub_kind (own_classes ys) in
    record {
      new = new_next names own_name own_names_split xs c.loop-c.c-index c.c-item.result c.loop-c-test.true c.c-item.is c.loop-c.names c.loop-c.invariant.new c.add_stub.new.names c.in_ok-add_stub.ensures.names;
      names = build_on names (c.args.names.now ++ names xs) own_name own_names_split xs c.loop-c.c-index c.c-item.result c.loop-c-test.true c.c-item.is c.loop-c.names c.add_stub.new.names c.in_ok-add_stub.ensures.names c.loop-c.invariant.names;
      kinds = build_on kinds (c.args.interfaces.now.items ++ kinds xs) own_kind own_kinds_split xs c.loop-c.c-index c.c-item.result c.loop-c-test.true c.c-item.is c.loop-c.interfaces.items c.add_stub.new.interfaces.items c.in_ok-add_stub.ensures.kinds c.loop-c.invariant.kinds;
    }

pub returns-clause-names : goal.returns-clause-names
returns-clause-names c =
    let xs = c.args.stubs.now in
    let names = λ (ys : List StubClass). map stub_name (own_classes ys) in
    let kinds = λ (ys : List StubClass). map stub_kind (own_classes ys) in
    build_done names (c.args.names.now ++ names xs) refl xs c.loop-c.c-index c.loop-c-test.false c.loop-c.names c.loop-c.invariant.names

pub returns-clause-kinds : goal.returns-clause-kinds
returns-clause-kinds c =
    let xs = c.args.stubs.now in
    let names = λ (ys : List StubClass). map stub_name (own_classes ys) in
    let kinds = λ (ys : List StubClass). map stub_kind (own_classes ys) in
    build_done kinds (c.args.interfaces.now.items ++ kinds xs) refl xs c.loop-c.c-index c.loop-c-test.false c.loop-c.interfaces.items c.loop-c.invariant.kinds

pub returns-in_err-add_stub-clause-too_many : goal.returns-in_err-add_stub-clause-too_many
returns-in_err-add_stub-clause-too_many c =
    let q = err_from_is_err_and c.from_residual.result c.from_residual.ensures.1 in
    let xs = c.args.stubs.now in
    let names = c.loop-c.names in
    let whole = c.args.names.now ++ map stub_name (own_classes xs) in
    rw (q.1, q.2)
    (error_more (AreTooMany names) (AreTooMany whole) c.in_err-add_stub.field-0.0 (many_more names (map stub_name (own_classes (drop c.loop-c.c-index xs))) whole c.loop-c.invariant.names) c.in_err-add_stub.ensures.too_many)
