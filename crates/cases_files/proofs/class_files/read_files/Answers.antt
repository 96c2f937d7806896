use Rattle.std.proofs.lemmas.List.Elements.{All-push, All-same}
use Rattle.program_linking.specs.LinkAnswers.{IsSoundFile}
use Rattle.cases_files.proofs.class_files.read_files.Goals as goal

pub loop-name-preserved : goal.loop-name-preserved
loop-name-preserved g c =
    All-same IsSoundFile _ _ c.in_ok-push.ensures.items
    (All-push IsSoundFile c.loop-name.files.items c.in_ok-read_file.field-0 c.loop-name.invariant c.in_ok-read_file.ensures)
