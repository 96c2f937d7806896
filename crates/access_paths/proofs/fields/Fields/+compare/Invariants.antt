use Rattle.std.proofs.Common.{length}
use Rattle.access_paths.specs.Followed.{listed}
use Rattle.access_paths.proofs.fields.Fields.+compare.Given as goal

abbrev pub decreases-compare : goal.decreases-compare
decreases-compare l = length (listed l.self)
