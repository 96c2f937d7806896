use Rattle.std.proofs.Common.{◌≡◌, Some, take}
use Rattle.std.specs.List.{slice_get}
use Rattle.jvm_model.specs.declared.site.Site.{Site}
use Rattle.points_to_constraints.specs.Items.{known}
use Rattle.points_to_rules.specs.Facts.{may_hold}
use Rattle.points_to_numbers.proofs.Adding.{OfOne}
use Rattle.points_to_numbers.specs.Steps.{Makes}
use Rattle.points_to_methods.specs.Known.{names_at}
use Rattle.points_to_methods.specs.Slots.{MadeAt}
use Rattle.points_to_methods.proofs.accesses.hold_after.Given as goal

abbrev pub invariant-loop-offset : goal.invariant-loop-offset
invariant-loop-offset l =
    (s : Site) → slice_get l.fn.work.tables.sites l.site.0 ≡ Some s
    → Makes l.fn.work.tables l.work.tables (OfOne (MadeAt l.at.method.now (names_at l.at) (λ to. known (may_hold to s)) l.target) (take l.offset-index l.offset-items)) l.fn.work.steps.items l.work.steps.items
