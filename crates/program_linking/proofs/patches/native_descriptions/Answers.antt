use Rattle.std.proofs.Common.{◌≡◌, ◌⊎◌, List, map, filter, ◌∙◌, ap, subst, inl, inr, Bor}
use Rattle.std.specs.List.{flat_map}
use Rattle.std.proofs.lemmas.Result.{err_from_is_err_and}
use Rattle.jvm_model.specs.declared.pool.PoolEntry.{PoolEntry}
use Rattle.jvm_model.specs.declared.stub.StubClass.{StubClass}
use Rattle.jvm_model.specs.Linking.{descriptions, native_descriptions, with_descriptions}
use Rattle.jvm_model.specs.Programs.{name_of, class_or_none}
use Rattle.program_model.specs.MemberLists.{AreTooManyKeys}
use Rattle.program_linking.specs.Patching.{native_keys, patches_for, is_native_in}
use Rattle.program_linking.specs.TooLarge.{AreTooManyDescriptions, AreTooManyNatives}
use Rattle.program_linking.proofs.LargeInputs.{error_more}
use Rattle.program_linking.proofs.patches.native_descriptions.Goals as goal

pub returns-clause-all : goal.returns-clause-all
returns-clause-all c =
    let class = c.args.class.now in
    let name : c.class_text-name.result.now ≡ name_of class = c.class_text-name.ensures ∙ ap (λ (pool : List PoolEntry). class_or_none pool class.this_class) c.as_slice.ensures in
    let found : map (λ (s : Bor StubClass). s.now) c.of.result.now ≡ patches_for (name_of class) c.args.patches.now =
    c.of.ensures ∙ ap (λ text. patches_for text c.args.patches.now) name in
    c.in_ok-add_native_patches.ensures.added
    ∙ (λ i. with_descriptions (c.new-all.ensures i) (filter (is_native_in class) (flat_map descriptions (found i))))

pub returns-in_err-add_native_patches-clause-too_many : goal.returns-in_err-add_native_patches-clause-too_many
returns-in_err-add_native_patches-clause-too_many c =
    let q = err_from_is_err_and c.from_residual.result c.from_residual.ensures.1 in
    let class = c.args.class.now in
    let stubs = c.args.patches.now in
    let f = λ (ps : List StubClass). flat_map descriptions ps in
    let name : c.class_text-name.result.now ≡ name_of class = c.class_text-name.ensures ∙ ap (λ (pool : List PoolEntry). class_or_none pool class.this_class) c.as_slice.ensures in
    let found : map (λ (s : Bor StubClass). s.now) c.of.result.now ≡ patches_for (name_of class) stubs =
    c.of.ensures ∙ ap (λ text. patches_for text stubs) name in
    let here = with_descriptions c.new-all.result (filter (is_native_in class) (f (map (λ (s : Bor StubClass). s.now) c.of.result.now))) in
    let is : here ≡ native_descriptions stubs class = (λ i. with_descriptions (c.new-all.ensures i) (filter (is_native_in class) (f (found i)))) in
    let keys = AreTooManyKeys (native_keys class.pool class.methods) in
    rw (q.1, q.2)
    (error_more (keys ⊎ AreTooManyDescriptions here) (AreTooManyNatives stubs class) c.in_err-add_native_patches.field-0.0
    (λ many. elim many [
      | inl natives ↦ inl natives
      | inr said ↦ inr (subst AreTooManyDescriptions is said)
    ]) c.in_err-add_native_patches.ensures.too_many)
