use Rattle.jvm_model.specs.Lookups.{lent_signature}
use Rattle.jvm_model.specs.Selection.{upward}
use Rattle.program_model.specs.Numbers.{name_at}
use Rattle.hierarchy.proofs.ClassPlaces.{class_of_number}
use Rattle.hierarchy.proofs.Resolving.{instance_default}
use Rattle.hierarchy.proofs.special.selected_from.Goals as goal

pub returns-in-Some : goal.returns-in-Some
returns-in-Some c =
    let class = class_of_number c.args.program.now c.well_formed-2.ensures.program c.args.start.0 c.requires in
    record { class = class.0; named = class.1.named; chosen = upward (c.in-Some.ensures class.0 class.1.stands) }

pub returns : goal.returns
returns c =
    let p = c.args.program.now in
    let class = class_of_number p c.well_formed-2.ensures.program c.args.start.0 c.requires in
    instance_default p (name_at p c.args.start.0) (lent_signature c.args.signature) class.0 c.only_default.result class.1.named (c.in_default.ensures class.0 class.1.stands) c.only_default.ensures
