use Rattle.stub_file.proofs.OneAnswer.{not_both, one_reason, IsStubFile-unique}
use Rattle.stub_file.proofs.laws.one_answer.Goals as goal

pub returns : goal.returns
returns c = record { file = IsStubFile-unique; reason = one_reason; not_both = not_both }
