use Rattle.std.proofs.Common.{Some, ap, refl, ◌∙◌}
use Rattle.points_to_numbers.proofs.Growing.{grows_on}
use Rattle.points_to_methods.proofs.makes.number_site.Goals as goal

pub site-requires : goal.site-requires
site-requires c = (c.args.site.now.class, c.in_ok-class.ensures.stands ∙ ap Some c.as_slice.ensures)

pub returns-clause-grows : goal.returns-clause-grows
returns-clause-grows c = grows_on c.args.tables.now c.class_name.new.self c.site.new.self c.in_ok-class.ensures.grows c.in_ok-number.ensures.grows

pub returns-clause-stands : goal.returns-clause-stands
returns-clause-stands c = c.in_ok-number.ensures.stands c.args.site.now (record { class = c.in_ok-class.ensures.stands ∙ ap Some c.as_slice.ensures; kind = refl; method = refl; offset = refl })
