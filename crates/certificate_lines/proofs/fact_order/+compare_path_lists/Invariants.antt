use Rattle.std.proofs.Common.{length}
use Rattle.certificate_lines.proofs.fact_order.+compare_path_lists.Given as goal

abbrev pub decreases-compare_path_lists : goal.decreases-compare_path_lists
decreases-compare_path_lists f = length f.one.now
