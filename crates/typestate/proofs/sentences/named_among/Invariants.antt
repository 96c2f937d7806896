use Rattle.std.proofs.Common.{◌≢◌, All, take}
use Rattle.jvm_model.specs.Words.{word_of}
use Rattle.typestate.proofs.sentences.named_among.Given as goal

abbrev pub invariant-loop-reason : goal.invariant-loop-reason
invariant-loop-reason l = All (λ reason. word_of reason ≢ l.word) (take l.reason-index l.reasons)
