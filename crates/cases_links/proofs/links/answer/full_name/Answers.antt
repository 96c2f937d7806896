use Rattle.cases_links.proofs.Views.{class_of_method}
use Rattle.cases_links.proofs.links.answer.full_name.Goals as goal

pub class_name-requires : goal.class_name-requires
class_name-requires c = class_of_method c.args.program.now c.args.method.0 c.method-view.result c.requires c.method-view.ensures
