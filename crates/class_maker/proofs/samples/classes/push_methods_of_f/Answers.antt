use Rattle.std.proofs.lemmas.List.{append_assoc}
use Rattle.class_maker.proofs.samples.classes.push_methods_of_f.Goals as goal

pub returns : goal.returns
returns c =
    rw (c.in_ok-push_method-4.ensures, c.in_ok-push_method-3.ensures, c.in_ok-push_method-2.ensures, c.in_ok-push_method.ensures)
    (simp append_assoc)
