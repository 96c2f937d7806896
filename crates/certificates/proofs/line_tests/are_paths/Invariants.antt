use Rattle.std.proofs.Common.{◌≡◌, drop}
use Rattle.std.specs.List.{list_all}
use Rattle.certificates.specs.Format.{is_path}
use Rattle.certificates.proofs.line_tests.are_paths.Given as goal

abbrev pub invariant-loop-path : goal.invariant-loop-path
invariant-loop-path l = list_all (is_path l.ranges) (drop l.path-index l.paths) ≡ list_all (is_path l.ranges) l.paths
