use Rattle.std.proofs.Common.{◌≡◌, ◌+◌, ◌<◌, length, sym, ◌∙◌, subst, rules}
use Rattle.std.proofs.lemmas.Option.{same_Some}
use Rattle.list_laws.proofs.Places.{contains_at}
use Rattle.op_model.specs.declared.lowered.LoweredMethod.{LoweredMethod as RuleMethod}
use Rattle.stage_slots.proofs.slots_at.SlotsAt.of.Goals as goal

pub invariant_of-result : goal.invariant_of-result
invariant_of-result c =
    let l = c.method-method.result.now in
    let stands = c.method-method.ensures in
    let same : c.requires.lowered ≡ l = same_Some c.requires.lowered l (sym c.requires.stands ∙ stands) in
    let sum : c.in_ok-slots.slots ≡ l.slots + l.stack = search rules in (
      record {
        stands = stands;
        within = subst (λ (m : RuleMethod). c.args.at.node < length m.nodes) same c.requires.within;
        reached = (c.well_formed-2.ensures.methods l (contains_at c.args.ground.now.methods c.args.at.method l stands)).reached;
      },
      sum,
    )
