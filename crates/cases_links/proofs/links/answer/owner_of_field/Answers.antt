use Rattle.cases_links.proofs.Views.{class_of_field}
use Rattle.cases_links.proofs.links.answer.owner_of_field.Goals as goal

pub class_name-class-requires : goal.class_name-class-requires
class_name-class-requires c = class_of_field c.args.program.now c.args.field.0 c.field.result c.requires c.field.ensures
