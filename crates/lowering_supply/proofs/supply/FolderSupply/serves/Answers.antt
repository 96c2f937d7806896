use Rattle.std.proofs.Common.{◌↔◌, ◌<◌, IsTrue, length, sym, subst}
use Rattle.jvm_model.specs.Programs.{Program}
use Rattle.op_model.specs.Supplies.{IsCodedMethod}
use Rattle.lowering_supply.proofs.CodedMethods.{shown_code, shown_description}
use Rattle.lowering_supply.proofs.supply.FolderSupply.serves.Goals as goal

pub returns-in-InFile : goal.returns-in-InFile
returns-in-InFile c =
    let p = c.self.inside.program.now in
    let within = subst (λ (q : Program). c.args.method.0 < length q.methods) (sym c.self.view_is) c.requires in
    let is = shown_code p c.well_formed-2.ensures.program c.args.method.0 within c.in-InFile.file c.in-InFile.number c.in-InFile.ensures c.has_code.result c.has_code.ensures.of_member in
    subst (λ (q : Program). IsTrue c.has_code.result ↔ IsCodedMethod q c.args.method.0) c.self.view_is is

pub returns-in-Described : goal.returns-in-Described
returns-in-Described c =
    let p = c.self.inside.program.now in
    let within = subst (λ (q : Program). c.args.method.0 < length q.methods) (sym c.self.view_is) c.requires in
    let none = shown_description p c.well_formed-2.ensures.program c.args.method.0 within c.in-Described.field-0 c.in-Described.ensures in
    (λ t. absurd cc, λ coded. absurd (none (subst (λ (q : Program). IsCodedMethod q c.args.method.0) (sym c.self.view_is) coded)))
