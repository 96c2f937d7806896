-- Public contracts rest on this module.
-- What it leads to that an initialiser is started.
use Rattle.std.specs.Prelude.{◌≡◌, ◌⊎◌}
use Rattle.jvm_model.specs.declared.number.MethodNo.{MethodNo}
use Rattle.points_to_rules.specs.Facts.{kept_objects, thrown_by, may_run}
use Rattle.points_to_constraints.specs.Items.{copy_to, Item as RuleItem, known, constrained}

-- It runs, and what it throws is kept.
abbrev pub IsInitiated : MethodNo → RuleItem → Type 0
IsInitiated i x = (x ≡ known (may_run i)) ⊎ (x ≡ constrained (thrown_by i) (copy_to kept_objects))
