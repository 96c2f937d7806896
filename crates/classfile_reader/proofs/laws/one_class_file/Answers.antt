use Rattle.classfile_reader.proofs.OneSpelling.{one_spelling}
use Rattle.classfile_reader.proofs.laws.one_class_file.Goals as goal

pub returns : goal.returns
returns c = one_spelling
