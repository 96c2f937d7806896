use Rattle.std.proofs.lemmas.List.Elements.{All-same}
use Rattle.jvm_model.specs.StubRules.{IsSoundStub}
use Rattle.cases_files.proofs.stubs.base.Goals as goal

pub returns : goal.returns
returns c = All-same IsSoundStub _ _ c.in_ok-stubs.ensures.table c.base_stubs_are_closed.ensures.sound
