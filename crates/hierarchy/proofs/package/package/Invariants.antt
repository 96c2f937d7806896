use Rattle.std.proofs.Common.{◌≡◌, ◌≤◌, length, take}
use Rattle.jvm_model.specs.Selection.{package_of}
use Rattle.hierarchy.proofs.package.package.Given as goal

abbrev pub invariant-loop-end : goal.invariant-loop-end
invariant-loop-end l = record {
  within : l.end ≤ length l.name;
  same : package_of (take l.end l.name) ≡ package_of l.name;
}

abbrev pub decreases-loop-end : goal.decreases-loop-end
decreases-loop-end l = l.end
