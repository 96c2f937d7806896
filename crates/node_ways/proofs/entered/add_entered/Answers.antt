use Rattle.std.proofs.Common.{sym, subst}
use Rattle.jvm_model.specs.Programs.{Program}
use Rattle.program_model.specs.Numbers.{IsMethodNumber}
use Rattle.points_to_rules.specs.Calls.{IsOfFile}
use Rattle.node_ways.specs.Parts.{IsEnteredAs}
use Rattle.node_ways.proofs.Entering.{shown_of_file, shown_described}
use Rattle.node_ways.proofs.Found.{nothing_more}
use Rattle.node_ways.proofs.entered.add_entered.Goals as goal

pub method_body-requires : goal.method_body-requires
method_body-requires c = subst (λ (p : Program). IsMethodNumber p c.args.target.0) (sym c.program.ensures) c.requires

pub push_entered-requires : goal.push_entered-requires
push_entered-requires c = shown_of_file c.args.ground.now.program c.program.result.now c.program.ensures c.args.target c.requires c.in-InFile.file c.in-InFile.number c.in-InFile.ensures

pub returns-in-Described : goal.returns-in-Described
returns-in-Described c =
    nothing_more (IsEnteredAs c.args.ground.now c.args.node.now c.args.target) (IsOfFile c.args.ground.now.program c.args.target) c.args.entered.now.items
    (shown_described c.args.ground.now.program c.program.result.now c.program.ensures c.args.target c.requires c.in-Described.field-0 c.in-Described.ensures)
