use Rattle.std.proofs.Common.{subst}
use Rattle.jvm_model.specs.declared.number.MethodNo.{MethodNo}
use Rattle.jvm_model.specs.Programs.{Program}
use Rattle.lowering_supply.specs.Methods.{TellsSupplied}
use Rattle.lowering_supply.proofs.Shown.{failed, found}
use Rattle.lowering_supply.proofs.supply.FolderSupplySupply.lowered.Goals as goal

pub returns-clause-found : goal.returns-clause-found
returns-clause-found c =
    let told = subst (λ (p : Program). TellsSupplied p c.coded_method-method.result.number.0 c.lower_at.result) c.self.view_is c.lower_at.ensures in
    found c.args.self.now c.args.method.0 c.lower_at.result (subst (λ (n : MethodNo). TellsSupplied c.args.self.now n.0 c.lower_at.result) c.coded_method-method.ensures.same told)

pub returns-clause-failed : goal.returns-clause-failed
returns-clause-failed c =
    let told = subst (λ (p : Program). TellsSupplied p c.coded_method-method.result.number.0 c.lower_at.result) c.self.view_is c.lower_at.ensures in
    failed c.args.self.now c.args.method.0 c.lower_at.result (subst (λ (n : MethodNo). TellsSupplied c.args.self.now n.0 c.lower_at.result) c.coded_method-method.ensures.same told)
