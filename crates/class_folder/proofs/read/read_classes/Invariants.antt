use Rattle.class_folder.proofs.Asking.{HasAsked}
use Rattle.class_folder.proofs.Walk.{HasRead}
use Rattle.class_folder.proofs.read.read_classes.Given as goal

abbrev pub invariant-loop-name : goal.invariant-loop-name
invariant-loop-name g l = HasRead (g.T.Tree.files l.fn.tree) (g.T.Tree.files l.tree) (g.T.Tree.faults l.fn.tree)
    (g.T.Tree.faults l.tree) l.yielded l.reading.classes.items l.reading.size
    × HasAsked (g.T.Tree.called l.fn.tree) (g.T.Tree.called l.tree) l.yielded l.reading.classes.items
