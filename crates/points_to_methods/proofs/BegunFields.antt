-- What a static field begins with, and what a load of it leads to.
use Rattle.std.proofs.Common.{◌≡◌, ◌↔◌, ◌⊎◌, ℕ, false, List, Some, None, sym, ◌∙◌, ap, subst, inl, inr}
use Rattle.std.specs.List.{slice_get}
use Rattle.std.proofs.lemmas.Bool.{false≢true}
use Rattle.std.proofs.lemmas.Option.{same_Some, none-some}
use Rattle.jvm_model.specs.declared.number.FieldNo.{FieldNo}
use Rattle.jvm_model.specs.LinkedPrograms.{IsProgram}
use Rattle.jvm_model.specs.Programs.{Class, Field, Program}
use Rattle.jvm_model.specs.Subtypes.{class_named}
use Rattle.machine_bytecode.specs.Start.{boot_site}
use Rattle.hierarchy.proofs.ClassPlaces.{class_of_number}
use Rattle.program_model.specs.Whole.{IsFieldView}
use Rattle.program_model.specs.declared.member_view.MemberView.{MemberView}
use Rattle.op_model.specs.declared.lowered.LoweredMethod.{LoweredMethod}
use Rattle.op_model.specs.declared.node.Node.{Node}
use Rattle.points_to_constraints.specs.Items.{Item, known, copy_to, constrained}
use Rattle.points_to_constraints.specs.NodeItems.{LoadStaticItem, begin, read}
use Rattle.points_to_rules.specs.Facts.{Holder, may_hold, static_field}
use Rattle.points_to_rules.specs.Rules.{BeginsWith, IsSlotAfter, constant, holding}

-- ---- the class that a field begins with

-- the class of a field, by its number
pub class_shown : (p : Program) → IsProgram p → (f : Field) (view : MemberView) → IsFieldView p f view → (c : Class) × (slice_get p.classes view.class.0 ≡ Some c) × (class_named p f.class ≡ Some c)
class_shown p program f view shown =
    let (c, at) = class_of_number p program view.class.0 shown.below in
    (c, at.stands, subst (λ (name : List ℕ). class_named p name ≡ Some c) (sym shown.class) at.named)

-- a field whose stub names no class, and whose class is none of the folder, begins with nothing
pub begins_nothing : (p : Program) (number : FieldNo) (f : Field) → slice_get p.fields number.0 ≡ Some f → f.holds ≡ None → (c : Class) → class_named p f.class ≡ Some c → c.is_folder ≡ false
    → (class : List ℕ) → BeginsWith p number class → ⊥
begins_nothing p number f stands bare c named outside class (holding g at held) =
    none-some class (sym bare ∙ ap (λ (h : Field). h.holds) (same_Some f g (sym stands ∙ at)) ∙ held)
begins_nothing p number f stands bare c named outside class (constant g d at none text there folder is) =
    let of_field = ap (λ (h : Field). class_named p h.class) (same_Some g f (sym at ∙ stands)) in
    let same : d ≡ c = same_Some d c (sym there ∙ of_field ∙ named) in
    false≢true (sym outside ∙ ap (λ (e : Class). e.is_folder) (sym same) ∙ folder)

-- ---- what a load leads to

module _ (p : Program) (l : LoweredMethod) (n : Node) (field : FieldNo) (target : ℕ) where
  abbrev Reads : Item → Type 0
  Reads x = (to : Holder) × IsSlotAfter l n target to × (x ≡ constrained (static_field field) (copy_to to))

  -- of a field that begins with nothing
  pub loaded_alone : ((class : List ℕ) → BeginsWith p field class → ⊥) → (x : Item) → Reads x ↔ LoadStaticItem p l n field target x
  loaded_alone none x = ((λ (to, after, is). read to after is), back x)
    where
      back : (y : Item) → LoadStaticItem p l n field target y → Reads y
      back y (read to after is) = (to, after, is)
      back y (begin class begins is) = absurd (none class begins)

  -- of one that begins with an object
  pub loaded_begun : (class : List ℕ) → BeginsWith p field class → ((other : List ℕ) → BeginsWith p field other → class ≡ other) → (x : Item)
      → (Reads x ⊎ (x ≡ known (may_hold (static_field field) (boot_site class)))) ↔ LoadStaticItem p l n field target x
  loaded_begun class begins one x = (
    (λ h. elim h [
      | inl (to, after, is) ↦ read to after is
      | inr is ↦ begin class begins is
    ]),
    back x,
  )
    where
      back : (y : Item) → LoadStaticItem p l n field target y → Reads y ⊎ (y ≡ known (may_hold (static_field field) (boot_site class)))
      back y (read to after is) = inl (to, after, is)
      back y (begin other also is) = inr (is ∙ ap (λ (name : List ℕ). known (may_hold (static_field field) (boot_site name))) (sym (one other also)))
