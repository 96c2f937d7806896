use Rattle.std.proofs.Common.{◌≡◌, ◌+◌, length, take, List, ap, subst, arith}
use Rattle.std.specs.List.{flat_map}
use Rattle.jvm_model.specs.declared.class_file.Member.{Member}
use Rattle.jvm_model.specs.declared.class_file.Attribute.{Attribute}
use Rattle.jvm_model.specs.declared.pool.PoolEntry.{PoolEntry}
use Rattle.jvm_model.specs.Layout.{IsBeforeCode, IsCodePlace}
use Rattle.jvm_model.specs.Spelling.{attribute, member}
use Rattle.jvm_model.proofs.CodePlaces.{method_below, methods_fit, before_fits, attributes_read, place_is, place_fits}
use Rattle.jvm_model.proofs.layout.code_place.Goals as goal

pub bounds-methods-method : goal.bounds-methods-method
bounds-methods-method c = omega (arith, method_below c.args.class.now c.args.method c.requires.code, ap length c.as_slice-methods.ensures)

pub offset_bounds-methods-method : goal.offset_bounds-methods-method
offset_bounds-methods-method c = omega (arith, method_below c.args.class.now c.args.method c.requires.code, methods_fit c.args.class.now)

pub members_length-earlier_methods-requires : goal.members_length-earlier_methods-requires
members_length-earlier_methods-requires c =
    let code = c.requires.code in
    omega (arith, before_fits c.args.class.now c.args.method code.owner code.there, ap (λ (ms : List Member). length (flat_map member (take c.args.method ms))) c.as_slice-methods.ensures)

-- the attributes that are read are those of the method
attributes_are : (c : goal.After-as_slice) → c.as_slice-attributes.result.now ≡ c.requires.code.owner.attributes
attributes_are c = attributes_read c.args.class.now c.args.method c.requires.code.owner c.as_slice-methods.result.now c.index-methods-method.result c.as_slice-attributes.result.now c.requires.code.there c.as_slice-methods.ensures c.as_slice-attributes.ensures

pub length_before_code-earlier_attributes-requires-clause-size : goal.length_before_code-earlier_attributes-requires-clause-size
length_before_code-earlier_attributes-requires-clause-size c =
    let code = c.requires.code in
    omega (arith, before_fits c.args.class.now c.args.method code.owner code.there, ap (λ (all : List Attribute). length (flat_map attribute all)) (attributes_are c))

pub length_before_code-earlier_attributes-requires-clause-code : goal.length_before_code-earlier_attributes-requires-clause-code
length_before_code-earlier_attributes-requires-clause-code c = rw (c.as_slice.ensures, attributes_are c) c.requires.code.has_code

place : (c : goal.After-methods_offset) → IsCodePlace c.args.class.now c.args.method (c.methods_offset.result + c.members_length-earlier_methods.result + 8 + c.length_before_code-earlier_attributes.result + 6)
place c =
    let class = c.args.class.now in
    let code = c.requires.code in
    let bytes = c.length_before_code-earlier_attributes.result in
    let are = attributes_read class c.args.method code.owner c.as_slice-methods.result.now c.index-methods-method.result c.as_slice-attributes.result.now code.there c.as_slice-methods.ensures c.as_slice-attributes.ensures in
    let of_owner : IsBeforeCode c.as_slice.result.now code.owner.attributes bytes = subst (λ (all : List Attribute). IsBeforeCode c.as_slice.result.now all bytes) are c.length_before_code-earlier_attributes.ensures in
    let before : IsBeforeCode class.pool code.owner.attributes bytes = subst (λ (entries : List PoolEntry). IsBeforeCode entries code.owner.attributes bytes) c.as_slice.ensures of_owner in
    place_is class c.args.method code.owner _ bytes code.there before
    (omega (arith, ap (λ (ms : List Member). length (flat_map member (take c.args.method ms))) c.as_slice-methods.ensures))

pub overflow_add-result : goal.overflow_add-result
overflow_add-result c = omega (arith, place_fits _ _ _ (place c))

pub overflow_add-result-2 : goal.overflow_add-result-2
overflow_add-result-2 c = omega (arith, place_fits _ _ _ (place c))

pub overflow_add-result-3 : goal.overflow_add-result-3
overflow_add-result-3 c = omega (arith, place_fits _ _ _ (place c))

pub overflow_add-result-4 : goal.overflow_add-result-4
overflow_add-result-4 c = omega (arith, place_fits _ _ _ (place c))

pub returns : goal.returns
returns c = place c
