-- Public contracts rest on this module.
-- What an object that selects the target of a call leads to, by what it selects.
use Rattle.std.specs.Prelude.{◌≡◌, ◌⊎◌, Some}
use Rattle.jvm_model.specs.declared.number.MethodNo.{MethodNo}
use Rattle.jvm_model.specs.declared.site.Site.{Site}
use Rattle.jvm_model.specs.declared.stub.StubMethod.{StubMethod}
use Rattle.jvm_model.specs.Programs.{Program}
use Rattle.slot_names.specs.declared.variable.Variable.TheVariants.{Parameter}
use Rattle.points_to_rules.specs.Calls.{IsDescribedBy}
use Rattle.points_to_rules.specs.Facts.{variable, may_hold, may_call}
use Rattle.points_to_constraints.specs.Items.{CallSite, Item as RuleItem, known}
use Rattle.points_to_calls.specs.Parts.{KeptItem, GotItem}

-- What a target that a stub describes keeps and gives of the object.
abbrev pub DescribedItem : Program → CallSite → Site → MethodNo → RuleItem → Type 0
DescribedItem p site s target x =
    (stub : StubMethod) × IsDescribedBy p target stub × (KeptItem p site stub (Some s) x ⊎ GotItem p site stub (Some s) x)

-- What the object leads to by its target: the call goes there, the first parameter holds the object, and what is kept and given of it.
abbrev pub TargetItem : Program → CallSite → Site → MethodNo → RuleItem → Type 0
TargetItem p site s target x =
    ((x ≡ known (may_call site.at target)) ⊎ (x ≡ known (may_hold (variable (Parameter target 0)) s))) ⊎ DescribedItem p site s target x
