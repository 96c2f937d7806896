-- Public contracts rest on this module.
-- Whether a constraint that selects the target of a call has none for an object.
use Rattle.std.specs.Prelude.{◌≡◌, Option, Some, None}
use Rattle.jvm_model.specs.declared.reason.Reason.{Reason}
use Rattle.jvm_model.specs.declared.site.Site.{Site}
use Rattle.jvm_model.specs.Programs.{Program}
use Rattle.points_to_rules.specs.Refusals.{LacksTarget}
use Rattle.points_to_constraints.specs.Items.{CallSite, Constraint, copy_to, filter_to, load_field, store_field, load_elements, store_elements, throw_to, rethrow_to, dispatch}

-- Why the call has no target for an object of the site, if it has none.
abbrev pub CallLacks : Program → CallSite → Site → Option Reason → Type 0
CallLacks p site s None = (reason : Reason) → LacksTarget p site.kind site.resolved s reason → ⊥
CallLacks p site s (Some reason) = LacksTarget p site.kind site.resolved s reason

-- The same of a constraint; one that selects no target lacks none.
abbrev pub ConstraintLacks : Program → Constraint → Site → Option Reason → Type 0
ConstraintLacks p (copy_to to) s lacks = lacks ≡ None
ConstraintLacks p (filter_to class to) s lacks = lacks ≡ None
ConstraintLacks p (load_field field to) s lacks = lacks ≡ None
ConstraintLacks p (store_field field from) s lacks = lacks ≡ None
ConstraintLacks p (load_elements to) s lacks = lacks ≡ None
ConstraintLacks p (store_elements from) s lacks = lacks ≡ None
ConstraintLacks p (throw_to catch_chain) s lacks = lacks ≡ None
ConstraintLacks p (rethrow_to catch_chain) s lacks = lacks ≡ None
ConstraintLacks p (dispatch site) s lacks = CallLacks p site s lacks
