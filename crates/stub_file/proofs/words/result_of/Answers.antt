use Rattle.stub_file.proofs.OneWord.{no_result}
use Rattle.stub_file.proofs.words.result_of.Goals as goal

pub returns-in-None : goal.returns-in-None
returns-in-None c =
    no_result c.args.text.now c.in_default.ensures c.in_default-argument_of.ensures c.in-None.ensures.cases
