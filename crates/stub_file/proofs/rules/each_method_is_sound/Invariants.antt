use Rattle.std.proofs.Common.{All, take}
use Rattle.jvm_model.specs.StubRules.{IsSoundMethod}
use Rattle.stub_file.proofs.rules.each_method_is_sound.Given as goal

-- each one so far keeps the rules
abbrev pub invariant-loop-method : goal.invariant-loop-method
invariant-loop-method l = All IsSoundMethod (take l.method-index l.methods)
