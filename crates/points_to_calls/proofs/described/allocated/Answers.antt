use Rattle.std.proofs.Common.{◌∙◌, refl, ap}
use Rattle.op_model.specs.declared.node.NodeRef.{NodeRef}
use Rattle.points_to_constraints.specs.CallItems.{call_allocates}
use Rattle.points_to_numbers.proofs.Growing.{grows_on}
use Rattle.points_to_calls.proofs.Stubs.{if_ok_three}
use Rattle.points_to_calls.proofs.described.allocated.Goals as goal

pub returns : goal.returns
returns c =
    if_ok_three c.site.result _ _ c.site.ensures.grows c.site.ensures.calls c.site.ensures.stands
    (λ number grows calls stands site at.
    let name = c.in_ok-name.ensures in
    let is = c.call_of.ensures site (name.grows.calls c.args.call.0 site at) in
    record {
      grows = grows_on c.args.tables.now c.class_name.new.self c.site.new.self name.grows grows;
      calls = calls ∙ name.calls;
      stands = stands (call_allocates c.args.kind site c.args.class.now) (record {
        class = name.stands;
        kind = refl;
        method = ap (λ (a : NodeRef). a.method) is.at;
        offset = ap (λ (a : NodeRef). a.offset) is.at;
      });
    })
