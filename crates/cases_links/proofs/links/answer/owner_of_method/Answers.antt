use Rattle.cases_links.proofs.Views.{class_of_method}
use Rattle.cases_links.proofs.links.answer.owner_of_method.Goals as goal

pub class_name-class-requires : goal.class_name-class-requires
class_name-class-requires c = class_of_method c.args.program.now c.args.method.0 c.method.result c.requires c.method.ensures
