use Rattle.std.proofs.Common.{Some, None}
use Rattle.lowering_reasons.specs.Judgements.{judged}
use Rattle.lowering_reasons.specs.Looked.{member_reasons, unfollowed_reasons}
use Rattle.lowering_reasons.proofs.FirstReasons.{in_front, behind}
use Rattle.lowering_reasons.proofs.judgement.judge.Goals as goal

pub returns-in-Some-clause-refused : goal.returns-in-Some-clause-refused
returns-in-Some-clause-refused c = in_front (judged c.args.instruction) unfollowed_reasons member_reasons c.in-Some.reason c.in-Some.ensures

pub returns-in-Some-first_of_members-clause-refused : goal.returns-in-Some-first_of_members-clause-refused
returns-in-Some-first_of_members-clause-refused c =
    behind (judged c.args.instruction) unfollowed_reasons member_reasons (Some c.in-Some-first_of_members.reason) c.in_default.ensures c.in-Some-first_of_members.ensures

pub named_member-requires-clause-free : goal.named_member-requires-clause-free
named_member-requires-clause-free c =
    behind (judged c.args.instruction) unfollowed_reasons member_reasons None c.in_default.ensures c.in_default-first_of_members.ensures

pub returns-clause-free : goal.returns-clause-free
returns-clause-free c = behind (judged c.args.instruction) unfollowed_reasons member_reasons None c.in_default.ensures c.in_default-first_of_members.ensures
