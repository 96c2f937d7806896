use Rattle.std.proofs.Common.{arith}
use Rattle.jvm_model.specs.Spelling.{member}
use Rattle.jvm_model.proofs.Lengths.{one_fits}
use Rattle.jvm_model.proofs.layout.members_length.Goals as goal

pub member_length-bytes-requires : goal.member_length-bytes-requires
member_length-bytes-requires c = omega (arith, one_fits member c.args.members.now c.loop-member.member-index c.member-item.result c.loop-member-test.true c.member-item.is)

pub overflow_add-bytes : goal.overflow_add-bytes
overflow_add-bytes c = omega (arith, one_fits member c.args.members.now c.loop-member.member-index c.member-item.result c.loop-member-test.true c.member-item.is)
