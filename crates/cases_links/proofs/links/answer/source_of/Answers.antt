use Rattle.cases_links.proofs.Views.{class_of_method}
use Rattle.cases_links.proofs.links.answer.source_of.Goals as goal

pub file_name-requires : goal.file_name-requires
file_name-requires c = class_of_method c.args.program.now c.args.method.0 c.method.result c.requires c.method.ensures
