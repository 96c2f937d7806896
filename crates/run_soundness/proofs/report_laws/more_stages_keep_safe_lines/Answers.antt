use Rattle.std.proofs.Common.{Contains}
use Rattle.lowering_supply.specs.Supplied.{IsSupplied}
use Rattle.run_soundness.proofs.MoreStages.{safe_lines_kept}
use Rattle.run_soundness.proofs.report_laws.more_stages_keep_safe_lines.Goals as goal

pub returns : goal.returns
returns c = λ x facts w trace other more lines others all_safe all_of_others le r q.
    safe_lines_kept x (IsSupplied x.program) (Contains facts) w more le trace other lines others all_safe all_of_others r q
