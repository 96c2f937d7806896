-- An analysis of a program is one of the program of its ground.
use Rattle.std.proofs.Common.{ℕ, sym, subst}
use Rattle.jvm_model.specs.declared.number.MethodNo.{MethodNo}
use Rattle.jvm_model.specs.Programs.{Program}
use Rattle.lowering_supply.specs.Supplied.{IsSupplied}
use Rattle.ground.specs.Findings.{Findings}
use Rattle.report_analysis.specs.Analyses.{IsAnalysis}

pub of_own_program : (p : Program) (entry : MethodNo) (limit : ℕ) (g : Findings) → IsAnalysis p (IsSupplied p) entry limit g
    → IsAnalysis g.program (IsSupplied g.program) entry limit g
of_own_program p entry limit g analysis = subst (λ (q : Program). IsAnalysis q (IsSupplied q) entry limit g) (sym analysis.program) analysis
