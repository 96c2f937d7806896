use Rattle.std.proofs.Common.{◌≡◌, false, take}
use Rattle.std.specs.List.{list_any}
use Rattle.jvm_model.specs.Soundness.{is_code}
use Rattle.jvm_model.proofs.sound.first_code.Given as goal

abbrev pub invariant-loop-attribute : goal.invariant-loop-attribute
invariant-loop-attribute l = list_any (is_code l.pool) (take l.attribute-index l.attributes) ≡ false
