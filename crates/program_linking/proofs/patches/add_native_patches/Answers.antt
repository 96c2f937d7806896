use Rattle.std.proofs.Common.{◌≡◌, ◌⊎◌, map, filter, subst, inl, inr, Bor, OnOk}
use Rattle.std.specs.List.{flat_map}
use Rattle.std.proofs.lemmas.Result.{err_from_is_err_and}
use Rattle.jvm_model.specs.declared.class_file.ClassFile.{ClassFile}
use Rattle.jvm_model.specs.declared.stub.StubClass.{StubClass}
use Rattle.jvm_model.specs.Linking.{descriptions, with_descriptions}
use Rattle.program_model.specs.MemberLists.{AreTooManyKeys}
use Rattle.program_linking.specs.Patching.{native_keys, is_native_in}
use Rattle.program_linking.specs.TooLarge.{AreTooManyDescriptions}
use Rattle.program_linking.proofs.LargeInputs.{error_more, errors_more}
use Rattle.program_linking.proofs.patches.add_native_patches.Goals as goal

pub returns-clause-added : goal.returns-clause-added
returns-clause-added c =
    let said = flat_map descriptions (map (λ (s : Bor StubClass). s.now) c.args.found.now) in
    subst (λ (k : ClassFile). OnOk c.add_patches.result (c.add_patches.new.all ≡ with_descriptions c.args.all.now (filter (is_native_in k) said)))
    c.in_ok-natives.ensures.natives c.add_patches.ensures.added

pub returns-clause-too_many : goal.returns-clause-too_many
returns-clause-too_many c =
    let class = c.args.class.now in
    let said = flat_map descriptions (map (λ (s : Bor StubClass). s.now) c.args.found.now) in
    let many = λ (k : ClassFile). AreTooManyDescriptions (with_descriptions c.args.all.now (filter (is_native_in k) said)) in
    errors_more (many c.in_ok-natives.natives) (AreTooManyKeys (native_keys class.pool class.methods) ⊎ many class) c.add_patches.result (λ here. inr (subst many c.in_ok-natives.ensures.natives here)) c.add_patches.ensures.too_many

pub returns-in_err-natives-clause-too_many : goal.returns-in_err-natives-clause-too_many
returns-in_err-natives-clause-too_many c =
    let q = err_from_is_err_and c.from_residual.result c.from_residual.ensures.1 in
    let class = c.args.class.now in
    let said = flat_map descriptions (map (λ (s : Bor StubClass). s.now) c.args.found.now) in
    let keys = AreTooManyKeys (native_keys class.pool class.methods) in
    rw (q.1, q.2) (error_more keys (keys ⊎ AreTooManyDescriptions (with_descriptions c.args.all.now (filter (is_native_in class) said))) c.in_err-natives.field-0.0 (λ many. inl many) c.in_err-natives.ensures.too_many)
