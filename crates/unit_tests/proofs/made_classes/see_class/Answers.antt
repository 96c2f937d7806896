use Rattle.class_maker.proofs.Fitting.{fitting_class}
use Rattle.unit_tests.proofs.made_classes.see_class.Goals as goal

pub make_class-requires : goal.make_class-requires
make_class-requires g c = fitting_class c.in_ok-class.class c.in_ok-class.ensures.found.spelling.fits
