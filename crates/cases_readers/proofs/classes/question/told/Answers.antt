use Rattle.class_maker.proofs.Fitting.{fitting_class}
use Rattle.cases_readers.proofs.classes.question.told.Goals as goal

pub is_made_again-requires : goal.is_made_again-requires
is_made_again-requires c = fitting_class c.in_ok-class.class c.in_ok-class.ensures.found.spelling.fits
