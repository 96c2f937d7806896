use Rattle.std.proofs.Common.{refl}
use Rattle.jvm_model.specs.Soundness.{places_of}
use Rattle.classfile_reader.proofs.Ascending.{all_ascend, first_is_least}
use Rattle.classfile_reader.proofs.laws.first_breach_is_least.Goals as goal

pub returns : goal.returns
returns c = λ class offset reason first.
    first_is_least _ (record { index = refl; bytes = refl; text = refl; missing = refl; unexpected = refl }) class.pool (places_of class) offset reason
    (all_ascend _ (record { two_indices = refl; two_texts = refl; index_text = refl; index_code = refl }) class) first
