use Rattle.std.proofs.Common.{◌∙◌}
use Rattle.jvm_model.specs.Lookups.{lent_signature}
use Rattle.program_model.specs.Numbers.{name_at}
use Rattle.hierarchy.proofs.ClassPlaces.{class_of_method}
use Rattle.hierarchy.proofs.Declaring.{object_declares}
use Rattle.hierarchy.proofs.search.of_object.Goals as goal

pub returns-in_err-object : goal.returns-in_err-object
returns-in_err-object c =
    rw c.from_residual.ensures (λ n d.
    let class = class_of_method c.args.program.now c.well_formed-2.ensures.program n d.method d.stands in
    c.in_err-object.ensures.none class.0 class.1 (class.2 ∙ d.of_class))

pub returns : goal.returns
returns c =
    let p = c.args.program.now in
    object_declares p (lent_signature c.args.signature) (name_at p c.in_ok-object.object.0) c.declared.result c.in_ok-object.ensures.found.1 c.declared.ensures
