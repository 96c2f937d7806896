use Rattle.std.proofs.Common.{◌≡◌, ℕ, Contains, List, [], ◌∷◌, ◌++◌, ◌∙◌, ap, subst}
use Rattle.std.proofs.lemmas.List.Elements.{Contains-append_right}
use Rattle.std.proofs.lemmas.Result.{on_ok_weaker}
use Rattle.jvm_model.specs.declared.pool.PoolEntry.{PoolEntry}
use Rattle.jvm_model.specs.declared.reason.Reason.TheVariants.{DuplicateClass}
use Rattle.jvm_model.specs.Linking.{claim, differs}
use Rattle.jvm_model.specs.Programs.{class_or_none}
use Rattle.jvm_model.specs.Soundness.{this_class_offset}
use Rattle.program_index.specs.Limits.{AreTooMany}
use Rattle.program_linking.specs.Claims.{TellsClaimsOrLarge, file_name}
use Rattle.program_model.specs.LinkFailures.{IsLinkRefusal}
use Rattle.program_linking.proofs.ClaimSteps.{one_unmet}
use Rattle.program_linking.proofs.ClassNames.{names_told}
use Rattle.program_linking.proofs.KnownClasses.{nowhere_not}
use Rattle.program_index.proofs.OrderPlaces.{contains_at}
use Rattle.program_linking.proofs.class_names.check_file_name.Goals as goal

pub returns-in-Some-clause-told : goal.returns-in-Some-clause-told
returns-in-Some-clause-told c = λ p names has.
    let f = c.args.f.now in
    let name : c.class_text-name.result.now ≡ file_name f = c.class_text-name.ensures ∙ ap (λ (pool : List PoolEntry). class_or_none pool f.class.this_class) c.as_slice.ensures in
    let found = subst (λ (text : List ℕ). Contains names text) name (has.some c.class_text-name.result.now (contains_at c.args.others.now c.in-Some.field-0 c.class_text-name.result.now c.in-Some.ensures.found)) in
    let told = subst (λ (n : ℕ). IsLinkRefusal f.file n DuplicateClass c.refused.result) c.this_class_offset-offset.ensures c.refused.ensures in
    one_unmet (AreTooMany c.args.earlier.now) p (claim f.file (this_class_offset f.class) (differs (c.args.earlier.now ++ names) (file_name f))) c.refused.result (λ meets. meets (Contains-append_right c.args.earlier.now names (file_name f) found)) told

pub returns-in-None-clause-added : goal.returns-in-None-clause-added
returns-in-None-clause-added c =
    let name : c.class_text-name.result.now ≡ file_name c.args.f.now = c.class_text-name.ensures ∙ ap (λ (pool : List PoolEntry). class_or_none pool c.args.f.now.class.this_class) c.as_slice.ensures in
    on_ok_weaker c.add_name.result (λ e. e ∙ ap (λ (text : List ℕ). c.args.earlier.now ++ text ∷ []) name) c.add_name.ensures.added

pub returns-in-None-clause-told : goal.returns-in-None-clause-told
returns-in-None-clause-told c = λ p names has.
    let f = c.args.f.now in
    let earlier = c.args.earlier.now in
    let text = c.class_text-name.result.now in
    let name : text ≡ file_name f = c.class_text-name.ensures ∙ ap (λ (pool : List PoolEntry). class_or_none pool f.class.this_class) c.as_slice.ensures in
    let absent = has.none text (nowhere_not c.args.others.now text c.in-None.ensures.none) in
    let told = names_told (AreTooMany earlier) p f.file _ earlier names text c.add_name.result absent (c.add_name.ensures.told p) in
    subst (λ (n : List ℕ). TellsClaimsOrLarge (AreTooMany earlier) p (claim f.file (this_class_offset f.class) (differs (earlier ++ names) n) ∷ []) c.add_name.result) name
    (subst (λ (n : ℕ). TellsClaimsOrLarge (AreTooMany earlier) p (claim f.file n (differs (earlier ++ names) text) ∷ []) c.add_name.result) c.this_class_offset-offset.ensures told)
