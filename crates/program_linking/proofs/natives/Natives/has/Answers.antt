use Rattle.std.proofs.Common.{List, Some, subst, sym, ap, ◌∙◌}
use Rattle.std.specs.List.{slice_get}
use Rattle.jvm_model.specs.declared.class_file.ClassFile.{ClassFile}
use Rattle.program_index.specs.FirstPlaces.{StandsNowhere}
use Rattle.program_index.specs.MemberKeys.{Key}
use Rattle.program_linking.specs.Patching.{native_keys, described_key}
use Rattle.program_linking.proofs.Building.{none_described, some_described, nowhere_described}
use Rattle.program_linking.proofs.natives.Natives.has.Goals as goal

pub returns-then-method : goal.returns-then-method
returns-then-method c = sym (none_described c.args.self.now.pool c.args.method.now c.if-method.true c.args.self.now.methods)

pub returns-in-Some : goal.returns-in-Some
returns-in-Some c =
    let class = c.args.self.now in
    let keys = c.self.invariant ∙ ap (λ (f : ClassFile). native_keys f.pool f.methods) c.self.view_is in
    let stands = ap (λ (ks : List Key). slice_get ks c.in-Some.field-0) (sym keys) ∙ c.in-Some.ensures.found.stands ∙ ap (λ (k : Key). Some k) c.key_of_described.ensures in
    sym (some_described class.pool c.args.method.now c.if-method.false class.methods c.in-Some.field-0 stands)

pub returns-in-None : goal.returns-in-None
returns-in-None c =
    let class = c.args.self.now in
    let keys = c.self.invariant ∙ ap (λ (f : ClassFile). native_keys f.pool f.methods) c.self.view_is in
    let none = subst (λ (ks : List Key). StandsNowhere ks (described_key c.args.method.now)) keys (subst (λ (k : Key). StandsNowhere c.self.inside.index k) c.key_of_described.ensures c.in-None.ensures.none) in
    sym (nowhere_described class.pool c.args.method.now class.methods none)
