use Rattle.std.proofs.Common.{◌≡◌, Some, sym, ap, ◌∙◌}
use Rattle.std.proofs.lemmas.Option.{none-some, same_Some}
use Rattle.std.proofs.lemmas.Result.{on_ok_weaker}
use Rattle.jvm_model.specs.declared.number.MethodNo.{MethodNo}
use Rattle.op_model.specs.declared.node.NodeRef.{NodeRef}
use Rattle.certificate_ground.specs.Pairs.{IsJust}
use Rattle.certificate_ground.proofs.PairTables.{pairs_as, pairs_none}
use Rattle.certificate_ground.proofs.targets.add_chosen.Goals as goal

pub returns-in-Some : goal.returns-in-Some
returns-in-Some c =
    let old = c.args.targets.now in
    let new = c.add_target.new.targets in
    on_ok_weaker c.add_target.result
    (λ added. pairs_as (IsJust c.args.at c.in-Some.target) (λ (call : NodeRef) (t : MethodNo). (call ≡ c.args.at) × (c.args.chosen ≡ Some t)) old.calls.keys old.targets.groups.items
    new.calls.keys new.targets.groups.items
    (λ call t (same_call, same). (same_call, c.in-Some.is ∙ ap (λ (m : MethodNo). Some m) (sym same)))
    (λ call t (same_call, same). (same_call, same_Some t c.in-Some.target (sym same ∙ c.in-Some.is)))
    added)
    c.add_target.ensures

pub returns-in-None : goal.returns-in-None
returns-in-None c =
    let old = c.args.targets.now in
    pairs_none (λ (call : NodeRef) (t : MethodNo). (call ≡ c.args.at) × (c.args.chosen ≡ Some t)) old.calls.keys old.targets.groups.items
    (λ call t (same_call, same). none-some t (sym c.in-None.is ∙ same))
