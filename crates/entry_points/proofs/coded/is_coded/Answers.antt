use Rattle.entry_points.proofs.CodedMethods.{shown_code, shown_description}
use Rattle.entry_points.proofs.coded.is_coded.Goals as goal

pub returns-in-InFile : goal.returns-in-InFile
returns-in-InFile c =
    shown_code c.args.program.now c.well_formed-2.ensures.program c.args.method.0 c.requires c.in-InFile.file c.in-InFile.number c.in-InFile.ensures c.has_code.result c.has_code.ensures.of_member

pub returns-in-Described : goal.returns-in-Described
returns-in-Described c =
    (λ t. absurd cc, λ coded. absurd (shown_description c.args.program.now c.well_formed-2.ensures.program c.args.method.0 c.requires c.in-Described.field-0 c.in-Described.ensures coded))
