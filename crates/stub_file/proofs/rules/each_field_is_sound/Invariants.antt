use Rattle.std.proofs.Common.{All, take}
use Rattle.jvm_model.specs.StubRules.{IsSoundField}
use Rattle.stub_file.proofs.rules.each_field_is_sound.Given as goal

-- each one so far keeps the rules
abbrev pub invariant-loop-field : goal.invariant-loop-field
invariant-loop-field l = All IsSoundField (take l.field-index l.fields)
