use Rattle.code_reader.proofs.EachCode.{each_code_is_told}
use Rattle.code_reader.proofs.laws.each_code_is_told.Goals as goal

pub returns : goal.returns
returns c = each_code_is_told
