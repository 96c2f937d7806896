use Rattle.std.proofs.Common.{ℕ, Option, Result, subst}
use Rattle.std.proofs.lemmas.Result.{on_ok_weaker}
use Rattle.jvm_model.specs.declared.reason.Refusal.{Refusal}
use Rattle.op_model.specs.declared.lowered.LoweredMethod.{LoweredMethod}
use Rattle.ground.proofs.ExactKeys.{same_methods, tells_methods}
use Rattle.ground.proofs.KeySets.{inserted_adds}
use Rattle.certificate_ground.specs.Reached.{IsGivenAs}
use Rattle.certificate_ground.proofs.GivenMethods.{given_again, given_more, given_none, old_key, new_key}
use Rattle.certificate_ground.proofs.reached.add_method.Goals as goal

pub list_method-requires : goal.list_method-requires
list_method-requires g c =
    let gives : ℕ → Result LoweredMethod Refusal → Type 0 = g.S.Supply.gives c.args.supply.now in
    let given = subst (λ (o : Option LoweredMethod). IsGivenAs gives c.args.method o) c.in-Some.is c.in_ok-nodes.ensures.given in
    (c.requires.supply.methods c.args.method.0 c.in-Some.lowered given.0).reached

pub returns-then-not-is_new-clause-given : goal.returns-then-not-is_new-clause-given
returns-then-not-is_new-clause-given g c =
    let gives : ℕ → Result LoweredMethod Refusal → Type 0 = g.S.Supply.gives c.args.supply.now in
    let old = c.args.reached.now.running.keys in
    let new = c.insert.new.self.keys in
    given_again gives old new c.args.method c.args.reached.now.methods.items c.requires.given (inserted_adds same_methods tells_methods old new c.args.method c.in_ok-is_new.ensures.keys)
    (old_key old c.args.method c.in_ok-is_new.is_new c.in_ok-is_new.ensures.added c.if-not-is_new.true)

pub returns-in-None-clause-given : goal.returns-in-None-clause-given
returns-in-None-clause-given g c =
    let gives : ℕ → Result LoweredMethod Refusal → Type 0 = g.S.Supply.gives c.args.supply.now in
    let old = c.args.reached.now.running.keys in
    let new = c.insert.new.self.keys in
    given_none gives old new c.args.method c.args.reached.now.methods.items c.requires.given (inserted_adds same_methods tells_methods old new c.args.method c.in_ok-is_new.ensures.keys)
    (subst (λ (o : Option LoweredMethod). IsGivenAs gives c.args.method o) c.in-None.is c.in_ok-nodes.ensures.given)

pub returns-in-Some-clause-given : goal.returns-in-Some-clause-given
returns-in-Some-clause-given g c =
    let gives : ℕ → Result LoweredMethod Refusal → Type 0 = g.S.Supply.gives c.args.supply.now in
    let old = c.args.reached.now.running.keys in
    let new = c.insert.new.self.keys in
    let given = subst (λ (o : Option LoweredMethod). IsGivenAs gives c.args.method o) c.in-Some.is c.in_ok-nodes.ensures.given in
    on_ok_weaker c.list_method.result
    (λ last. given_more gives old new c.args.method c.args.reached.now.methods.items c.requires.given
    (inserted_adds same_methods tells_methods old new c.args.method c.in_ok-is_new.ensures.keys)
    (new_key old c.args.method c.in_ok-is_new.is_new c.in_ok-is_new.ensures.added c.if-not-is_new.false) c.in-Some.lowered given
    (c.requires.supply.methods c.args.method.0 c.in-Some.lowered given.0).number_is c.list_method.new.methods.items last)
    c.list_method.ensures

pub returns-then-not-is_new-clause-running : goal.returns-then-not-is_new-clause-running
returns-then-not-is_new-clause-running g c =
    inserted_adds same_methods tells_methods c.args.reached.now.running.keys c.insert.new.self.keys c.args.method c.in_ok-is_new.ensures.keys

pub returns-in-None-clause-running : goal.returns-in-None-clause-running
returns-in-None-clause-running g c =
    inserted_adds same_methods tells_methods c.args.reached.now.running.keys c.insert.new.self.keys c.args.method c.in_ok-is_new.ensures.keys

pub returns-in-Some-clause-running : goal.returns-in-Some-clause-running
returns-in-Some-clause-running g c =
    on_ok_weaker c.list_method.result
    (λ last. inserted_adds same_methods tells_methods c.args.reached.now.running.keys c.insert.new.self.keys c.args.method c.in_ok-is_new.ensures.keys)
    c.list_method.ensures
