use Rattle.std.proofs.Common.{List, map, refl, subst}
use Rattle.std.specs.List.{flat_map}
use Rattle.std.proofs.lemmas.Result.{err_from_is_err_and}
use Rattle.jvm_model.specs.Linking.{AreMet}
use Rattle.jvm_model.specs.Linking.{mention_claim}
use Rattle.jvm_model.specs.declared.stub.StubField.{StubField}
use Rattle.jvm_model.specs.Stubs.{field_names}
use Rattle.program_linking.specs.Claims.{TellsEnd}
use Rattle.program_linking.proofs.ClaimSteps.{left_all, next_item, stop_item, last_item, map_flat_split}
use Rattle.program_linking.proofs.mentions.check_fields.Goals as goal

pub returns-in_err-check_field : goal.returns-in_err-check_field
returns-in_err-check_field c =
    let p = err_from_is_err_and c.from_residual.result c.from_residual.ensures.1 in
    let known = c.args.known.now in
    let end = c.in_err-check_field.field-0.0 in
    let claims = λ (xs : List StubField). map (mention_claim c.args.c.now.file) (flat_map field_names xs) in
    let one = λ (x : StubField). map (mention_claim c.args.c.now.file) (field_names x) in
    let whole = stop_item known claims one (λ x xs. map_flat_split (mention_claim c.args.c.now.file) field_names x xs) c.as_slice-field-items.result.now c.loop-field.field-index c.field-item.result c.loop-field-test.true c.field-item.is c.loop-field.invariant end c.in_err-check_field.ensures in
    rw (p.1, p.2) (subst (λ (xs : List StubField). TellsEnd known (claims xs) end) c.as_slice-field-items.ensures whole)

pub loop-field-preserved : goal.loop-field-preserved
loop-field-preserved c =
    let claims = λ (xs : List StubField). map (mention_claim c.args.c.now.file) (flat_map field_names xs) in
    let one = λ (x : StubField). map (mention_claim c.args.c.now.file) (field_names x) in
    next_item c.args.known.now claims one (λ x xs. map_flat_split (mention_claim c.args.c.now.file) field_names x xs) c.as_slice-field-items.result.now c.loop-field.field-index c.field-item.result c.loop-field-test.true c.field-item.is c.loop-field.invariant c.in_ok-check_field.ensures

pub loop-field-init : goal.loop-field-init
loop-field-init c = left_all _ _

pub returns : goal.returns
returns c =
    let claims = λ (xs : List StubField). map (mention_claim c.args.c.now.file) (flat_map field_names xs) in
    let whole = last_item c.args.known.now claims refl c.as_slice-field-items.result.now c.loop-field.field-index c.loop-field-test.false c.loop-field.invariant in
    subst (λ (xs : List StubField). AreMet c.args.known.now (claims xs)) c.as_slice-field-items.ensures whole
