use Rattle.code_reader.proofs.OneReading.{one_reading}
use Rattle.code_reader.proofs.laws.one_code_reading.Goals as goal

pub returns : goal.returns
returns c = one_reading
