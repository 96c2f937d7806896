use Rattle.std.proofs.Common.{Err}
use Rattle.std.specs.Prelude.{option_map}
use Rattle.jvm_model.specs.declared.reason.Reason.TheVariants as reasons
use Rattle.program_model.specs.Numbers.{field_number, method_number}
use Rattle.lowering_reasons.specs.Judgements.{judged}
use Rattle.lowering_reasons.specs.Reasons.{of_class, of_array_field, of_array_method, of_field, of_method, LooksUpField, LooksUpMethod}
use Rattle.lowering_reasons.proofs.Only.{failed, only_test, proved}
use Rattle.lowering_reasons.proofs.Undescribed.{stub_last}
use Rattle.lowering_reasons.proofs.stubs.lacks_stub.Goals as goal

pub returns-then-names_missing : goal.returns-then-names_missing
returns-then-names_missing c =
    let such = c.names_missing.ensures.0 c.if-names_missing.true in
    proved (of_class such.one such.first such.second)

pub returns-then-accesses_array : goal.returns-then-accesses_array
returns-then-accesses_array c =
    let such = c.accesses_array.ensures.0 c.if-accesses_array.true in
    proved (of_array_field such.one such.first such.second)

pub returns-then-calls_array : goal.returns-then-calls_array
returns-then-calls_array c =
    let such = c.calls_array.ensures.0 c.if-calls_array.true in
    proved (of_array_method such.one such.first such.second)

pub returns-then-field_fails : goal.returns-then-field_fails
returns-then-field_fails c =
    let j = judged c.args.instruction in
    let test = only_test (LooksUpField j) (Err reasons.NoStub) (option_map field_number c.args.lookups.field) c.field_fails.result c.requires.field c.field_fails.ensures in
    proved (of_field (test.0 c.if-field_fails.true))

pub returns-then-method_fails : goal.returns-then-method_fails
returns-then-method_fails c =
    let j = judged c.args.instruction in
    let test = only_test (LooksUpMethod j) (Err reasons.NoStub) (option_map method_number c.args.lookups.method) c.method_fails.result c.requires.method c.method_fails.ensures in
    proved (of_method (test.0 c.if-method_fails.true))

pub returns : goal.returns
returns c =
    let j = judged c.args.instruction in
    let field = only_test (LooksUpField j) (Err reasons.NoStub) (option_map field_number c.args.lookups.field) c.field_fails.result c.requires.field c.field_fails.ensures in
    let method = only_test (LooksUpMethod j) (Err reasons.NoStub) (option_map method_number c.args.lookups.method) c.method_fails.result c.requires.method c.method_fails.ensures in
    stub_last j c.goes_undescribed.result (failed c.names_missing.result c.names_missing.ensures c.if-names_missing.false)
    (failed c.accesses_array.result c.accesses_array.ensures c.if-accesses_array.false) (failed c.calls_array.result c.calls_array.ensures c.if-calls_array.false)
    (failed c.field_fails.result field c.if-field_fails.false) (failed c.method_fails.result method c.if-method_fails.false) c.goes_undescribed.ensures
