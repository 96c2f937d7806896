-- This crate's own proofs alone rest on this module.
-- The origins of described methods, by the tables.
use Rattle.std.specs.Prelude.{◌≡◌, ◌⊎◌, zero, suc, length, false, ℕ, Option, Some, None, slice_get}
use Rattle.jvm_model.specs.declared.number.SiteNo.{SiteNo}
use Rattle.jvm_model.specs.declared.site.Site.{Site}
use Rattle.jvm_model.specs.declared.stub.StubMethod.{StubMethod}
use Rattle.jvm_model.specs.Programs.{Program}
use Rattle.jvm_model.specs.declared.number.MethodNo.{MethodNo}
use Rattle.points_to_rules.specs.Calls.{IsOfFile, IsDescribedBy}
use Rattle.points_to_constraints.specs.Items.{CallSite, Item as RuleItem}
use Rattle.points_to_numbers.specs.Numbered.{Numbered, Grows}
use Rattle.points_to_calls.specs.declared.origin.Origin.{Origin}
use Rattle.points_to_calls.specs.declared.origin.Origin.TheVariants.{Unit as OfUnit, Made}
use Rattle.points_to_calls.specs.Parts.{RuleOrigin, IsOriginAt, FileItem, KeptItem, GotItem, ThrownItem}

-- The object that selects the target, if it is looked at alone.
abbrev pub IsReceiverAt : Numbered → Option SiteNo → Option Site → Type 0
IsReceiverAt n None None = Unit {0}
IsReceiverAt n None (Some s) = ⊥
IsReceiverAt n (Some site) None = ⊥
IsReceiverAt n (Some site) (Some s) = slice_get n.sites site.0 ≡ Some s

-- What a unit of the arguments gives; of an object that is looked at alone, only the first one is it.
abbrev pub origin_of_unit : Option SiteNo → ℕ → Option Origin
origin_of_unit None unit = Some (OfUnit unit)
origin_of_unit (Some site) zero = Some (Made site)
origin_of_unit (Some site) (suc unit) = None

-- The origin stands for the only one of which the fact holds; or it holds of none.
abbrev pub IsOriginFor : Numbered → (RuleOrigin → Type 0) → Option Origin → Type 0
IsOriginFor n Q None = (g : RuleOrigin) → Q g → ⊥
IsOriginFor n Q (Some origin) = (g : RuleOrigin) × IsOriginAt n origin g × Q g × ((k : RuleOrigin) → Q k → k ≡ g)

-- The tables grow by no call, and the origin is found.
pub record MakesOrigin (n m : Numbered) (Q : RuleOrigin → Type 0) (origin : Option Origin) : Type 0 where
  pub grows : Grows n m
  pub calls : length m.calls ≡ length n.calls
  pub is : IsOriginFor m Q origin

-- The tables grow by no call, and the site is numbered.
pub record MakesSite (n m : Numbered) (s : Site) (site : SiteNo) : Type 0 where
  pub grows : Grows n m
  pub calls : length m.calls ≡ length n.calls
  pub stands : slice_get m.sites site.0 ≡ Some s

-- What a described method keeps, gives and throws; an abstract one has nothing.
abbrev pub StubPart : Program → CallSite → StubMethod → RuleItem → Type 0
StubPart p site stub x = (KeptItem p site stub None x ⊎ GotItem p site stub None x) ⊎ ThrownItem p site stub x

abbrev pub StubItem : Program → CallSite → StubMethod → RuleItem → Type 0
StubItem p site stub x = (stub.is_abstract ≡ false) × StubPart p site stub x

-- What it keeps and gives of an object that selects it.
abbrev pub ReceiverItem : Program → CallSite → StubMethod → Site → RuleItem → Type 0
ReceiverItem p site stub s x = (stub.is_abstract ≡ false) × (KeptItem p site stub (Some s) x ⊎ GotItem p site stub (Some s) x)

-- What a target gives, keeps and throws: a method of a class file, or a described one.
abbrev pub BodyItem : Program → CallSite → MethodNo → RuleItem → Type 0
BodyItem p site target x = (IsOfFile p target × FileItem site target x) ⊎ ((stub : StubMethod) × IsDescribedBy p target stub × StubPart p site stub x)
