use Rattle.std.proofs.Common.{inl, inr, Err, refl}
use Rattle.std.specs.Prelude.{option_map}
use Rattle.jvm_model.specs.declared.reason.Reason.TheVariants as reasons
use Rattle.program_model.specs.Numbers.{field_number, method_number}
use Rattle.lowering_reasons.specs.Judgements.{judged}
use Rattle.lowering_reasons.specs.Reasons.{LooksUpField, LooksUpMethod, no_stub, missing_field, missing_method, kind_mismatch, no_implementation, finalizer}
use Rattle.lowering_reasons.proofs.FirstReasons.{without}
use Rattle.lowering_reasons.proofs.Only.{only_test}
use Rattle.lowering_reasons.proofs.judgement.first_of_members.Goals as goal

pub returns-then-lacks_stub : goal.returns-then-lacks_stub
returns-then-lacks_stub c =
    let j = judged c.args.instruction in
    inl (no_stub refl (c.lacks_stub.ensures.0 c.if-lacks_stub.true), refl)

pub returns-then-field_fails : goal.returns-then-field_fails
returns-then-field_fails c =
    let j = judged c.args.instruction in
    let field = only_test (LooksUpField j) (Err reasons.MissingField) (option_map field_number c.args.lookups.field) c.field_fails.result c.requires.field c.field_fails.ensures in
    inr (without j reasons.NoStub c.lacks_stub.result c.lacks_stub.ensures c.if-lacks_stub.false, inl (missing_field refl (field.0 c.if-field_fails.true), refl))

pub returns-then-method_fails : goal.returns-then-method_fails
returns-then-method_fails c =
    let j = judged c.args.instruction in
    let field = only_test (LooksUpField j) (Err reasons.MissingField) (option_map field_number c.args.lookups.field) c.field_fails.result c.requires.field c.field_fails.ensures in
    let method = only_test (LooksUpMethod j) (Err reasons.MissingMethod) (option_map method_number c.args.lookups.method) c.method_fails.result c.requires.method c.method_fails.ensures in
    inr (without j reasons.NoStub c.lacks_stub.result c.lacks_stub.ensures c.if-lacks_stub.false, inr (without j reasons.MissingField c.field_fails.result field c.if-field_fails.false, inl (missing_method refl (method.0 c.if-method_fails.true), refl)))

pub returns-then-lookups : goal.returns-then-lookups
returns-then-lookups c =
    let j = judged c.args.instruction in
    let field = only_test (LooksUpField j) (Err reasons.MissingField) (option_map field_number c.args.lookups.field) c.field_fails.result c.requires.field c.field_fails.ensures in
    let method = only_test (LooksUpMethod j) (Err reasons.MissingMethod) (option_map method_number c.args.lookups.method) c.method_fails.result c.requires.method c.method_fails.ensures in
    inr (without j reasons.NoStub c.lacks_stub.result c.lacks_stub.ensures c.if-lacks_stub.false, inr (without j reasons.MissingField c.field_fails.result field c.if-field_fails.false, inr (without j reasons.MissingMethod c.method_fails.result method c.if-method_fails.false, inl (kind_mismatch refl (c.requires.mismatched.0 c.if-lookups.true), refl))))

pub returns-then-lacks_target : goal.returns-then-lacks_target
returns-then-lacks_target c =
    let j = judged c.args.instruction in
    let field = only_test (LooksUpField j) (Err reasons.MissingField) (option_map field_number c.args.lookups.field) c.field_fails.result c.requires.field c.field_fails.ensures in
    let method = only_test (LooksUpMethod j) (Err reasons.MissingMethod) (option_map method_number c.args.lookups.method) c.method_fails.result c.requires.method c.method_fails.ensures in
    inr (without j reasons.NoStub c.lacks_stub.result c.lacks_stub.ensures c.if-lacks_stub.false, inr (without j reasons.MissingField c.field_fails.result field c.if-field_fails.false, inr (without j reasons.MissingMethod c.method_fails.result method c.if-method_fails.false, inr (without j reasons.KindMismatch c.args.lookups.mismatched c.requires.mismatched c.if-lookups.false, inl (no_implementation refl (c.lacks_target.ensures.0 c.if-lacks_target.true), refl)))))

pub returns-then-makes_finalized : goal.returns-then-makes_finalized
returns-then-makes_finalized c =
    let j = judged c.args.instruction in
    let field = only_test (LooksUpField j) (Err reasons.MissingField) (option_map field_number c.args.lookups.field) c.field_fails.result c.requires.field c.field_fails.ensures in
    let method = only_test (LooksUpMethod j) (Err reasons.MissingMethod) (option_map method_number c.args.lookups.method) c.method_fails.result c.requires.method c.method_fails.ensures in
    inr (without j reasons.NoStub c.lacks_stub.result c.lacks_stub.ensures c.if-lacks_stub.false, inr (without j reasons.MissingField c.field_fails.result field c.if-field_fails.false, inr (without j reasons.MissingMethod c.method_fails.result method c.if-method_fails.false, inr (without j reasons.KindMismatch c.args.lookups.mismatched c.requires.mismatched c.if-lookups.false, inr (without j reasons.NoImplementation c.lacks_target.result c.lacks_target.ensures c.if-lacks_target.false, inl (finalizer refl (c.makes_finalized.ensures.0 c.if-makes_finalized.true), refl))))))

pub returns : goal.returns
returns c =
    let j = judged c.args.instruction in
    let field = only_test (LooksUpField j) (Err reasons.MissingField) (option_map field_number c.args.lookups.field) c.field_fails.result c.requires.field c.field_fails.ensures in
    let method = only_test (LooksUpMethod j) (Err reasons.MissingMethod) (option_map method_number c.args.lookups.method) c.method_fails.result c.requires.method c.method_fails.ensures in
    inr (without j reasons.NoStub c.lacks_stub.result c.lacks_stub.ensures c.if-lacks_stub.false, inr (without j reasons.MissingField c.field_fails.result field c.if-field_fails.false, inr (without j reasons.MissingMethod c.method_fails.result method c.if-method_fails.false, inr (without j reasons.KindMismatch c.args.lookups.mismatched c.requires.mismatched c.if-lookups.false, inr (without j reasons.NoImplementation c.lacks_target.result c.lacks_target.ensures c.if-lacks_target.false, inr (without j reasons.Finalizer c.makes_finalized.result c.makes_finalized.ensures c.if-makes_finalized.false, refl))))))
