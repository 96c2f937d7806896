-- Public contracts rest on this module.
-- Refusals in a set of facts: a method that may run and is refused; and a call that selects by its object and has no target for an object that
-- it may be made on, or goes to a native method that no stub describes.
use Rattle.std.specs.Prelude.{◌≡◌, ℕ, ◌+◌, ◌<◌, ◌≤◌, List, [], ◌∷◌, Some, Ok, Err, slice_get}
use Rattle.jvm_model.specs.declared.class_file.ClassFile.{ClassFile}
use Rattle.jvm_model.specs.declared.class_file.Member.{Member}
use Rattle.jvm_model.specs.declared.number.MethodNo.{MethodNo}
use Rattle.jvm_model.specs.declared.reason.Reason.{Reason}
use Rattle.jvm_model.specs.declared.reason.Reason.TheVariants.{NoStub, NoImplementation, ClashingDefaults, PackageOverride}
use Rattle.jvm_model.specs.declared.reason.Refusal.{Refusal}
use Rattle.jvm_model.specs.declared.site.Site.{Site}
use Rattle.jvm_model.specs.Layout.{IsCodePlace}
use Rattle.jvm_model.specs.Programs.{Program, Class, Method, in_file, IsUndescribed}
use Rattle.jvm_model.specs.Subtypes.{class_named}
use Rattle.op_model.specs.declared.lowered.LoweredMethod.{LoweredMethod}
use Rattle.op_model.specs.declared.node.Node.{Node}
use Rattle.op_model.specs.declared.op.Call.{Call as NodeCall}
use Rattle.op_model.specs.declared.op.CallKind.{CallKind}
use Rattle.op_model.specs.declared.op.Op.TheVariants.{Call}
use Rattle.op_model.specs.Supplies.{GivenAs}
use Rattle.points_to_rules.specs.Calls.{SelectsFor}
use Rattle.points_to_rules.specs.Facts.{Holder, Fact, may_hold, may_run}
use Rattle.points_to_rules.specs.Rules.{IsNodeOf, IsSlot}

-- A call of a resolved method that selects by its object has no target for an object of the site, for this reason; or its target is a native
-- method that no stub describes.
pub data LacksTarget (p : Program) (kind : CallKind) (resolved : MethodNo) (s : Site) (reason : Reason) : Type 0 where
  not_selected : SelectsFor kind p resolved s (Err reason) → LacksTarget p kind resolved s reason
  not_described : (target : ℕ) → SelectsFor kind p resolved s (Ok target) → IsUndescribed p target → reason ≡ NoStub → LacksTarget p kind resolved s reason

-- A call of a method that may run may be made on an object for which it has no target.
pub record IsRefusedCall (p : Program) (gives : GivenAs) (S : Fact → Type 0) (m : MethodNo) (offset : ℕ) (reason : Reason) : Type 0 where
  pub runs : S (may_run m)
  pub method : LoweredMethod
  pub node : Node
  pub stands : IsNodeOf gives m method node
  pub at : node.offset ≡ offset
  pub call : NodeCall
  pub is_call : node.op ≡ Call call
  pub z : ℕ
  pub receiver : slice_get call.arguments 0 ≡ Some (Some z)
  pub holder : Holder
  pub slot : IsSlot method node z holder
  pub site : Site
  pub held : S (may_hold holder site)
  pub lacks : LacksTarget p call.kind call.resolved site reason

-- The file of the method's class, and the offset in it of the first byte of the method's code, which stands behind the limits of the stack and
-- of the local variables and the code's length (JVMS 4.7.3).
pub record IsCodeStart (p : Program) (m : MethodNo) (name : List ℕ) (start : ℕ) : Type 0 where
  pub method : Method
  pub stands : slice_get p.methods m.0 ≡ Some method
  pub class : Class
  pub of_class : class_named p method.class ≡ Some class
  pub in_class_file : name ≡ class.file
  pub file : ClassFile
  pub number : ℕ
  pub member : Member
  pub of_file : method.body ≡ in_file file number member
  pub place : ℕ
  pub is_place : IsCodePlace file number place
  pub is : start ≡ place + 8

-- A method that may run has a refusal: its own, or that of a call.
pub data IsRefusedIn (p : Program) (gives : GivenAs) (S : Fact → Type 0) (m : MethodNo) (r : Refusal) : Type 0 where
  of_method : S (may_run m) → gives m.0 (Err r) → IsRefusedIn p gives S m r
  of_call : (offset start : ℕ) (name : List ℕ) (reason : Reason) → IsRefusedCall p gives S m offset reason → IsCodeStart p m name start
      → r ≡ record { file = name; offset = start + offset; reason = reason } → IsRefusedIn p gives S m r

-- ---- the first refusal

-- Of several reasons at one call the first of these is named.
abbrev pub call_reasons : List Reason
call_reasons = NoStub ∷ NoImplementation ∷ ClashingDefaults ∷ PackageOverride ∷ []

-- The reason stands in the list, and not after the other one.
pub record IsNoLater (reason other : Reason) : Type 0 where
  pub place : ℕ
  pub stands : slice_get call_reasons place ≡ Some reason
  pub first : (later : ℕ) → slice_get call_reasons later ≡ Some other → place ≤ later

-- The refusal of the one method comes before that of the other, or is no other: by the numbers of the methods, by the offsets, and by the
-- reasons.
pub data ComesFirst (m : MethodNo) (r : Refusal) (k : MethodNo) (q : Refusal) : Type 0 where
  by_method : m.0 < k.0 → ComesFirst m r k q
  by_offset : m ≡ k → r.offset < q.offset → ComesFirst m r k q
  by_reason : m ≡ k → r.offset ≡ q.offset → IsNoLater r.reason q.reason → ComesFirst m r k q
  same : m ≡ k → r ≡ q → ComesFirst m r k q

pub record IsFirstRefusal (p : Program) (gives : GivenAs) (S : Fact → Type 0) (r : Refusal) : Type 0 where
  pub method : MethodNo
  pub refused : IsRefusedIn p gives S method r
  pub first : (k : MethodNo) (q : Refusal) → IsRefusedIn p gives S k q → ComesFirst method r k q

abbrev pub IsUnrefused : Program → GivenAs → (Fact → Type 0) → Type 0
IsUnrefused p gives S = (m : MethodNo) (r : Refusal) → IsRefusedIn p gives S m r → ⊥
