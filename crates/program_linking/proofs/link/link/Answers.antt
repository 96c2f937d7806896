use Rattle.std.proofs.lemmas.List.Sorted.{All-permutation}
use Rattle.program_linking.specs.LinkAnswers.{IsSoundFile}
use Rattle.program_linking.proofs.LinkSteps.{told_in_order}
use Rattle.program_linking.proofs.link.link.Goals as goal

pub link_in_order-requires-clause-files : goal.link_in_order-requires-clause-files
link_in_order-requires-clause-files c =
    All-permutation IsSoundFile c.args.classes.items c.put_files_in_order.new.files.items c.put_files_in_order.ensures.same c.requires.files

pub returns-clause-tells : goal.returns-clause-tells
returns-clause-tells c =
    told_in_order c.args.classes.items c.put_files_in_order.new.files.items c.args.stubs.items c.put_files_in_order.ensures c.link_in_order.result c.link_in_order.ensures.tells
