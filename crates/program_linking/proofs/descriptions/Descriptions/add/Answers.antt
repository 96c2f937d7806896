use Rattle.std.proofs.Common.{◌≡◌, List, map, IfErr, Some, sym, ◌∙◌, ap, subst}
use Rattle.std.specs.List.{slice_get}
use Rattle.std.proofs.lemmas.List.{map-set}
use Rattle.std.proofs.lemmas.Result.{on_ok_weaker}
use Rattle.jvm_model.specs.Linking.{Description, with_description}
use Rattle.program_index.specs.FirstPlaces.{IsFirstPlace, StandsNowhere}
use Rattle.program_index.specs.MemberKeys.{Key, key_of}
use Rattle.program_linking.specs.Patching.{description_of, method_key}
use Rattle.program_linking.specs.TooLarge.{AreTooManyDescriptions, TellsTooMany}
use Rattle.program_linking.proofs.Building.{replaced, added, keys_kept}
use Rattle.program_linking.proofs.descriptions.Descriptions.add.Goals as goal

pub invariant_of-self : goal.invariant_of-self
invariant_of-self c =
    let d = description_of c.args.described in
    let key : key_of c.key_of_method.result ≡ method_key d = c.key_of_method.ensures in
    let held = map description_of c.self.inside.items.items in
    let place = c.in-Some.place in
    let stands : slice_get (map method_key held) place ≡ Some (method_key d) =
    ap (λ (ks : List Key). slice_get ks place) (sym c.self.invariant) ∙ c.in-Some.ensures.found.stands ∙ ap (λ (k : Key). Some k) key in
    c.self.invariant ∙ sym (keys_kept held d place stands) ∙ ap (map method_key) (sym (map-set description_of c.self.inside.items.items place c.args.described))

pub returns-in-None-clause-added : goal.returns-in-None-clause-added
returns-in-None-clause-added c =
    let d = description_of c.args.described in
    let key : key_of c.key_of_method.result ≡ method_key d = c.key_of_method.ensures in
    let keys : c.self.inside.index ≡ map method_key c.args.self.now = c.self.invariant ∙ ap (map method_key) c.self.view_is in
    let none = subst (λ (ks : List Key). StandsNowhere ks (method_key d)) keys (subst (λ (k : Key). StandsNowhere c.self.inside.index k) key c.in-None.ensures.none) in
    on_ok_weaker c.push.result (λ pushed. pushed ∙ sym (added c.args.self.now d none)) c.push.ensures.pushed

pub returns-in-Some-clause-added : goal.returns-in-Some-clause-added
returns-in-Some-clause-added c =
    let d = description_of c.args.described in
    let key : key_of c.key_of_method.result ≡ method_key d = c.key_of_method.ensures in
    let held = map description_of c.self.inside.items.items in
    let place = c.in-Some.place in
    let first = subst (λ (ks : List Key). IsFirstPlace ks (method_key d) place) c.self.invariant (subst (λ (k : Key). IsFirstPlace c.self.inside.index k place) key c.in-Some.ensures.found) in
    map-set description_of c.self.inside.items.items place c.args.described
    ∙ sym (replaced held d place first)
    ∙ ap (λ (ds : List Description). with_description ds d) c.self.view_is

pub returns-in-None-clause-too_many : goal.returns-in-None-clause-too_many
returns-in-None-clause-too_many c =
    let d = description_of c.args.described in
    let key : key_of c.key_of_method.result ≡ method_key d = c.key_of_method.ensures in
    let keys : c.self.inside.index ≡ map method_key c.args.self.now = c.self.invariant ∙ ap (map method_key) c.self.view_is in
    let none = subst (λ (ks : List Key). StandsNowhere ks (method_key d)) keys (subst (λ (k : Key). StandsNowhere c.self.inside.index k) key c.in-None.ensures.none) in
    subst (λ (ds : List Description). IfErr c.push.result (TellsTooMany (AreTooManyDescriptions ds))) (sym (added c.args.self.now d none)) c.push.ensures.too_many
