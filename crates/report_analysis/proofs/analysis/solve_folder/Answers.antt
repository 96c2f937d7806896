use Rattle.std.proofs.Common.{sym, subst}
use Rattle.jvm_model.specs.Programs.{Program}
use Rattle.lowering_supply.specs.Supplied.{IsSupplied}
use Rattle.points_to_rules.specs.Solutions.{IsSupplyOf}
use Rattle.report_analysis.proofs.analysis.solve_folder.Goals as goal

pub solve-requires-clause-supply : goal.solve-requires-clause-supply
solve-requires-clause-supply c =
    let p = c.args.program.now in
    let supplied : IsSupplyOf p (IsSupplied p) = record {
      serves = λ number coded. c.each_answer.ensures p number c.well_formed-2.ensures.program coded;
      coded = λ number answer given. given.coded;
      methods = λ number l given. c.supplied_methods_are_whole.ensures p number l given;
    } in
    subst (λ (q : Program). IsSupplyOf p (IsSupplied q)) (sym c.new-supply.ensures) supplied
