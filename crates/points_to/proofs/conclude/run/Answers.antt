use Rattle.std.proofs.Common.{ℕ, inl, inr, Ok, Err, Result, refl}
use Rattle.jvm_model.specs.declared.reason.Refusal.{Refusal}
use Rattle.op_model.specs.declared.lowered.LoweredMethod.{LoweredMethod}
use Rattle.points_to_calls.proofs.RightAnswers.{grown_right}
use Rattle.points_to_constraints.specs.ItemRules.{MethodItem}
use Rattle.points_to_numbers.proofs.Adding.{adds_none, adds_same}
use Rattle.points_to.specs.Concluding.{IsGivenItem, IsRefusedAs}
use Rattle.points_to.proofs.GivenMethods.{given_items, given_unrefused, refused_ungiven, one_refusal}
use Rattle.points_to.proofs.Noting.{methods_none, methods_one}
use Rattle.points_to.proofs.conclude.run.Goals as goal

pub returns-then-not-is_coded-clause-adds : goal.returns-then-not-is_coded-clause-adds
returns-then-not-is_coded-clause-adds g c =
    let gives : ℕ → Result LoweredMethod Refusal → Type 0 = g.S.Supply.gives c.args.supply.now in
    adds_none c.args.found.now.work.tables (IsGivenItem c.args.program.now gives c.args.method.0) c.args.found.now.work.steps.items
    (λ x h. let coded = c.is_coded.ensures.1 (c.requires.supply.coded c.args.method.0 (Ok h.method) h.given) in let not = c.if-not-is_coded.true in cc)

pub returns-then-not-is_coded-clause-refused : goal.returns-then-not-is_coded-clause-refused
returns-then-not-is_coded-clause-refused g c =
    let gives : ℕ → Result LoweredMethod Refusal → Type 0 = g.S.Supply.gives c.args.supply.now in
    methods_none (IsRefusedAs gives c.args.method) c.args.found.now.refusals.method
    (λ r h. let coded = c.is_coded.ensures.1 (c.requires.supply.coded c.args.method.0 (Err r.refusal) h.refused) in let not = c.if-not-is_coded.true in cc)

pub returns-in_ok-push-in-Ok-clause-adds : goal.returns-in_ok-push-in-Ok-clause-adds
returns-in_ok-push-in-Ok-clause-adds g c =
    let p = c.args.program.now in
    let gives : ℕ → Result LoweredMethod Refusal → Type 0 = g.S.Supply.gives c.args.supply.now in
    adds_same c.method_items.new.work.tables (MethodItem p c.in-Ok.lowered) (IsGivenItem p gives c.args.method.0) c.args.found.now.work.steps.items c.method_items.new.work.steps.items
    (given_items gives (g.met.S.Supply.one_answer c.args.supply.now) c.args.method p c.in-Ok.lowered c.in-Ok.ensures.found)
    c.in_ok-names-in-Ok.ensures.adds

pub returns-in_ok-push-in-Ok-clause-refused : goal.returns-in_ok-push-in-Ok-clause-refused
returns-in_ok-push-in-Ok-clause-refused g c =
    let gives : ℕ → Result LoweredMethod Refusal → Type 0 = g.S.Supply.gives c.args.supply.now in
    methods_none (IsRefusedAs gives c.args.method) c.args.found.now.refusals.method
    (given_unrefused gives (g.met.S.Supply.one_answer c.args.supply.now) c.args.method c.in-Ok.lowered c.in-Ok.ensures.found)

pub returns-in-Err-Cause-clause-adds : goal.returns-in-Err-Cause-clause-adds
returns-in-Err-Cause-clause-adds g c =
    let gives : ℕ → Result LoweredMethod Refusal → Type 0 = g.S.Supply.gives c.args.supply.now in
    let refused : gives c.args.method.0 (Err c.in-Err-Cause.refusal) = rw c.in-Err-Cause.field-0-is at c.in-Err-Cause.ensures.failed in
    adds_none c.args.found.now.work.tables (IsGivenItem c.args.program.now gives c.args.method.0) c.args.found.now.work.steps.items
    (refused_ungiven gives (g.met.S.Supply.one_answer c.args.supply.now) c.args.method c.args.program.now c.in-Err-Cause.refusal refused)

pub returns-in-Err-Cause-clause-refused : goal.returns-in-Err-Cause-clause-refused
returns-in-Err-Cause-clause-refused g c =
    let gives : ℕ → Result LoweredMethod Refusal → Type 0 = g.S.Supply.gives c.args.supply.now in
    let refused : gives c.args.method.0 (Err c.in-Err-Cause.refusal) = rw c.in-Err-Cause.field-0-is at c.in-Err-Cause.ensures.failed in
    methods_one (IsRefusedAs gives c.args.method) c.args.found.now.refusals.method c.note_method.new.self.method (record { method = c.args.method; refusal = c.in-Err-Cause.refusal })
    (record { is = refl; refused = refused }) (one_refusal gives (g.met.S.Supply.one_answer c.args.supply.now) c.args.method c.in-Err-Cause.refusal refused) (rw c.in-Err-Cause.refusal-is at c.note_method.ensures.method)

-- ---- the method that is listed

pub returns-then-not-is_coded-clause-methods : goal.returns-then-not-is_coded-clause-methods
returns-then-not-is_coded-clause-methods g c =
    let gives : ℕ → Result LoweredMethod Refusal → Type 0 = g.S.Supply.gives c.args.supply.now in
    inr ((λ l given. let coded = c.is_coded.ensures.1 (c.requires.supply.coded c.args.method.0 (Ok l) given) in let not = c.if-not-is_coded.true in cc), refl)

pub returns-in_ok-push-in-Ok-clause-methods : goal.returns-in_ok-push-in-Ok-clause-methods
returns-in_ok-push-in-Ok-clause-methods g c =
    let names = c.in_ok-names-in-Ok.ensures.names in
    inl (record { method = c.in-Ok.lowered; names = c.in_ok-names-in-Ok.names }, record { given = c.in-Ok.ensures.found; named = names }, c.in_ok-push-in-Ok.ensures.items)

pub returns-in-Err-Cause-clause-methods : goal.returns-in-Err-Cause-clause-methods
returns-in-Err-Cause-clause-methods g c =
    let gives : ℕ → Result LoweredMethod Refusal → Type 0 = g.S.Supply.gives c.args.supply.now in
    let refused : gives c.args.method.0 (Err c.in-Err-Cause.refusal) = rw c.in-Err-Cause.field-0-is at c.in-Err-Cause.ensures.failed in
    inr ((λ l given. let both = g.met.S.Supply.one_answer c.args.supply.now c.args.method.0 (Ok l) (Err c.in-Err-Cause.refusal) given refused in cc), refl)

-- ---- the kept answers

pub returns-in_ok-push-in-Ok-clause-answers : goal.returns-in_ok-push-in-Ok-clause-answers
returns-in_ok-push-in-Ok-clause-answers g c =
    grown_right c.args.program.now c.args.found.now.work.tables c.method_items.new.work.tables c.args.found.now.answers
    c.in_ok-names-in-Ok.ensures.grows c.requires.answers
