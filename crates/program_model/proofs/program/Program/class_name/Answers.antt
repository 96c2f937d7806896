use Rattle.std.proofs.Common.{◌∙◌}
use Rattle.std.proofs.lemmas.Option.{get_or_from_slice_get}
use Rattle.program_model.specs.Numbers.{name_at}
use Rattle.program_model.proofs.Accessing.{stands_in}
use Rattle.program_model.proofs.program.Program.class_name.Goals as goal

pub returns : goal.returns
returns c =
    c.as_slice.ensures ∙ c.index.ensures
    ∙ get_or_from_slice_get c.self.inside.names.items c.args.class.0 (name_at c.args.self.now c.args.class.0) c.index.result.now (stands_in c.self.inside c.self.invariant c.args.self.now c.self.view_is c.args.class.0 c.requires)
