use Rattle.std.proofs.Common.{refl}
use Rattle.stub_file.specs.BaseStubs.{base_classes}
use Rattle.stub_file.proofs.BaseChecks.{classes_sound}
use Rattle.stub_file.proofs.laws.base_stubs_are_closed.Goals as goal

pub returns : goal.returns
returns c = record { sound = classes_sound base_classes refl; names_differ = refl; closed = refl }
