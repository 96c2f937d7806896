use Rattle.std.proofs.Common.{ap}
use Rattle.jvm_model.specs.RowViews.{action_view}
use Rattle.lowering.specs.Bodies.{judged_step}
use Rattle.lowering.proofs.MemberOwners.{member_number}
use Rattle.lowering.proofs.MadeClasses.{object_trigger}
use Rattle.lowering.proofs.StaticOwners.{is_static, static_trigger}
use Rattle.lowering.proofs.node.trigger_of.Goals as goal

pub owner_of-requires : goal.owner_of-requires
owner_of-requires c = member_number (judged_step c.args.body c.args.judged) c.args.judged.member c.requires.judged.1.member

pub returns-in-MakeObject-clause-trigger : goal.returns-in-MakeObject-clause-trigger
returns-in-MakeObject-clause-trigger c =
    object_trigger c.args.body c.requires.body c.args.judged c.requires.judged.0 c.requires.judged.1 (ap action_view c.in-MakeObject.is) c.made_class.result c.made_class.ensures.made

pub returns-in-GetStatic-clause-trigger : goal.returns-in-GetStatic-clause-trigger
returns-in-GetStatic-clause-trigger c =
    static_trigger c.args.body c.args.judged (is_static c.args.judged.row.now.action c.in-GetStatic.is) c.owner_of.result c.requires.judged.1.member c.owner_of.ensures.owner
