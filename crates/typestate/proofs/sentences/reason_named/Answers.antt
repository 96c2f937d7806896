use Rattle.std.proofs.Common.{◌≢◌}
use Rattle.jvm_model.specs.Words.{word_of}
use Rattle.typestate.proofs.AllReasons.{none_of_each}
use Rattle.typestate.proofs.sentences.reason_named.Goals as goal

-- src/sentences.rt:57:1
pub returns-clause-none : goal.returns-clause-none
returns-clause-none c = none_of_each c.named_among.result (λ reason. word_of reason ≢ c.args.word.now) c.named_among.ensures.none
