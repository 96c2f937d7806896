use Rattle.class_maker.proofs.Fitting.{fitting_class}
use Rattle.class_maker.proofs.laws.fitting_classes_are_counted.Goals as goal

pub returns : goal.returns
returns c = fitting_class
