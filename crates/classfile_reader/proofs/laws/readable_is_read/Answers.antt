use Rattle.classfile_reader.proofs.Classes.{class_of_again}
use Rattle.classfile_reader.proofs.laws.readable_is_read.Goals as goal

pub returns : goal.returns
returns c = class_of_again
