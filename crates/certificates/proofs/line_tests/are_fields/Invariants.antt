use Rattle.std.proofs.Common.{◌≡◌, length}
use Rattle.std.specs.List.{list_all}
use Rattle.access_paths.specs.Followed.{listed}
use Rattle.certificates.specs.Format.{is_field}
use Rattle.certificates.proofs.line_tests.are_fields.Given as goal

abbrev pub invariant-loop-field : goal.invariant-loop-field
invariant-loop-field l = list_all (is_field l.ranges) (listed l.left) ≡ list_all (is_field l.ranges) (listed l.fn.fields)

abbrev pub decreases-loop-field : goal.decreases-loop-field
decreases-loop-field l = length (listed l.left)
