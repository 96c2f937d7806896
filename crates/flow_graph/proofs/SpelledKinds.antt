-- A method descriptor spells the kinds of its parameters and of its result (JVMS 4.3.3).
use Rattle.std.proofs.Common.{◌≡◌, ◌⊎◌, inl, inr, ℕ, zero, suc, ◌≤◌, List, [], ◌∷◌, ◌++◌, drop, replicate, codes, Option, Some, None, refl, sym, ap, subst, arith}
use Rattle.std.specs.List.{AllZip, AllByRecursion}
use Rattle.std.proofs.lemmas.List.Elements.{recursion_from_All}
use Rattle.jvm_model.specs.declared.descriptor.Kind.{Kind as TypeKind}
use Rattle.jvm_model.specs.declared.descriptor.Kind.TheVariants.{Prim, Class, Array}
use Rattle.jvm_model.specs.Descriptors.{IsFieldType, IsFieldDescriptor, IsMethodDescriptor}
use Rattle.jvm_model.specs.DescriptorValues.{is_wide, IsKind, IsOutcome, IsMethodOf}
use Rattle.jvm_model.proofs.Fields.{field-component}

bracketed : (d : ℕ) (text : List ℕ) → IsFieldType d text → text ≡ replicate d 91 ++ drop d text
bracketed zero text is = refl
bracketed (suc d) text is = subst (λ s. s ≡ replicate (suc d) 91 ++ drop (suc d) s) (sym is.1) (ap (λ s. 91 ∷ s) (bracketed d is.0 is.2))

record HasKind (text : List ℕ) : Type 0 where
  pub kind : TypeKind
  pub is : IsKind text kind

kind_by : (d : ℕ) (text : List ℕ) → d ≤ 255 → IsFieldType d text → HasKind text
kind_by zero text most (inl base) = record { kind = Prim (is_wide text); is = (base, refl) }
kind_by zero text most (inr object) = record { kind = Class object.0; is = (object.1, object.2) }
kind_by (suc d) text most is = record { kind = Array (suc d) (drop (suc d) text); is = (omega arith, most, field-component (suc d) text is, bracketed (suc d) text is) }

record HaveKinds (texts : List (List ℕ)) : Type 0 where
  pub kinds : List TypeKind
  pub are : AllZip IsKind texts kinds

all_kinds : (texts : List (List ℕ)) → AllByRecursion IsFieldDescriptor texts → HaveKinds texts
all_kinds [] all = record { kinds = []; are = tt }
all_kinds (t ∷ texts) all =
    let k = kind_by all.0.dimensions t all.0.limit all.0.type_is in
    let more = all_kinds texts all.1 in
    record { kinds = k.kind ∷ more.kinds; are = (k.is, more.are) }

record HasOutcome (text : List ℕ) : Type 0 where
  pub outcome : Option TypeKind
  pub is : IsOutcome text outcome

outcome_by : (text : List ℕ) → (text ≡ codes "V") ⊎ IsFieldDescriptor text → HasOutcome text
outcome_by text (inl void) = record { outcome = None; is = void }
outcome_by text (inr field) =
    let k = kind_by field.dimensions text field.limit field.type_is in
    record { outcome = Some k.kind; is = k.is }

-- The kinds that a method descriptor spells, each at its own part of the text.
pub record HasKinds (text : List ℕ) (d : IsMethodDescriptor text) : Type 0 where
  pub kinds : List TypeKind
  pub outcome : Option TypeKind
  pub each : AllZip IsKind d.parameters kinds
  pub outcome_is : IsOutcome d.outcome outcome
  pub is : IsMethodOf text kinds outcome

pub has_kinds : (text : List ℕ) (d : IsMethodDescriptor text) → HasKinds text d
has_kinds text d =
    let k = all_kinds d.parameters (recursion_from_All IsFieldDescriptor d.parameters d.each) in
    let o = outcome_by d.outcome d.outcome_is in
    record {
      kinds = k.kinds;
      outcome = o.outcome;
      each = k.are;
      outcome_is = o.is;
      is = record { parameters = d.parameters; outcome = d.outcome; spelled = d.spelled; each = k.are; units = d.units; outcome_is = o.is };
    }
