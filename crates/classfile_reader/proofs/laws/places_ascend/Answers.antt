use Rattle.std.proofs.Common.{refl}
use Rattle.classfile_reader.proofs.Ascending.{all_ascend}
use Rattle.classfile_reader.proofs.laws.places_ascend.Goals as goal

pub returns : goal.returns
returns c = all_ascend _ (record { two_indices = refl; two_texts = refl; index_text = refl; index_code = refl })
