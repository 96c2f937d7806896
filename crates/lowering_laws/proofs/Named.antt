-- What an instruction names in a program is one.
use Rattle.std.proofs.Common.{◌≡◌, ℕ, Bool, false, List, [], ◌∷◌, Some, None, Ok, refl, sym, ap, ◌∙◌, subst}
use Rattle.std.specs.List.{slice_get}
use Rattle.std.proofs.lemmas.Option.{same_Some}
use Rattle.jvm_model.specs.declared.pool.PoolEntry.{PoolEntry}
use Rattle.jvm_model.specs.Instructions.{DecodedInstruction}
use Rattle.jvm_model.specs.LinkedPrograms.{IsProgram}
use Rattle.jvm_model.specs.Lookups.{MemberReference}
use Rattle.jvm_model.specs.Programs.{Class, Program}
use Rattle.jvm_model.specs.Resolution.{FindsField, Resolves, found}
use Rattle.jvm_model.specs.Subtypes.{array_of}
use Rattle.machine_bytecode.specs.Machine.{NamesArrays, NamesClass, NamesField, NamesMethod, nested, nested_arrays, of_primitives, of_references}
use Rattle.lowering_spec.specs.Operations.{LoadsConstantOf, Placed, of_class, of_string}
use Rattle.program_laws.proofs.FieldSearch.{one_search}
use Rattle.program_laws.proofs.Outcomes.{one_method_outcome}

-- ---- members

pub record SameField (p : Program) (pool : List PoolEntry) (operand : ℕ) (wants_static : Bool) (x y : NamesField p pool operand wants_static) : Type 0 where
  pub number : x.number ≡ y.number
  pub field : x.field ≡ y.field

pub same_field : (p : Program) (pool : List PoolEntry) (operand : ℕ) (wants_static : Bool) → IsProgram p → (x y : NamesField p pool operand wants_static) → SameField p pool operand wants_static x y
same_field p pool operand wants_static program x y =
    let named : x.named ≡ y.named = same_Some x.named y.named (sym x.is_named ∙ y.is_named) in
    let found = subst (λ (m : MemberReference). FindsField p m.signature m.class (Some x.number)) named x.found in
    let number : x.number ≡ y.number = same_Some x.number y.number (one_search p y.named.signature y.named.class (Some x.number) (Some y.number) program found y.found) in
    record {
      number = number;
      field = same_Some x.field y.field (sym x.stands ∙ ap (slice_get p.fields) number ∙ y.stands);
    }

-- a class of this name; what resolution says of a reference rests on no more of it
abbrev class_of_name : List ℕ → Class
class_of_name name = record { name = name; super_class = None; interfaces = []; is_interface = false; is_folder = false; file = [] }

one_resolution : (p : Program) (m : MemberReference) (i j : ℕ) → IsProgram p → Resolves p m i → Resolves p m j → i ≡ j
one_resolution p m i j program x y =
    let same = one_method_outcome p (class_of_name m.class) false m.signature (Ok i) (Ok j) program (found i x refl refl) (found j y refl refl) in cc same

pub record SameMethod (p : Program) (pool : List PoolEntry) (operand : ℕ) (x y : NamesMethod p pool operand) : Type 0 where
  pub called : x.called ≡ y.called
  pub resolved : x.resolved ≡ y.resolved
  pub method : x.method ≡ y.method

pub same_method : (p : Program) (pool : List PoolEntry) (operand : ℕ) → IsProgram p → (x y : NamesMethod p pool operand) → SameMethod p pool operand x y
same_method p pool operand program x y =
    let called : x.called ≡ y.called = same_Some x.called y.called (sym x.named ∙ y.named) in
    let resolves = subst (λ (m : MemberReference). Resolves p m x.resolved) called x.resolves in
    let resolved : x.resolved ≡ y.resolved = one_resolution p y.called x.resolved y.resolved program resolves y.resolves in
    record {
      called = called;
      resolved = resolved;
      method = same_Some x.method y.method (sym x.stands ∙ ap (slice_get p.methods) resolved ∙ y.stands);
    }

-- ---- classes

pub one_class : (pool : List PoolEntry) (operand : ℕ) (x y : NamesClass pool operand) → x.class ≡ y.class
one_class pool operand x y = same_Some x.class y.class (sym x.named ∙ y.named)

pub one_constant : (i : Placed) (a b : List ℕ) → LoadsConstantOf i a → LoadsConstantOf i b → a ≡ b
one_constant i a b (of_string text entry is) (of_string text2 entry2 is2) = is ∙ sym is2
one_constant i a b (of_string text entry is) (of_class name entry2 is2) = absurd (cc (entry, entry2))
one_constant i a b (of_class name entry is) (of_string text entry2 is2) = absurd (cc (entry, entry2))
one_constant i a b (of_class name entry is) (of_class name2 entry2 is2) = is ∙ sym is2

pub one_arrays : (pool : List PoolEntry) (i : DecodedInstruction) (a b : List (List ℕ)) → NamesArrays pool i a → NamesArrays pool i b → a ≡ b
one_arrays pool i a b (of_primitives o is) (of_primitives o2 is2) = is ∙ sym is2
one_arrays pool i a b (of_primitives o is) (of_references o2 n is2) = absurd (cc (o, o2))
one_arrays pool i a b (of_primitives o is) (nested o2 n is2) = absurd (cc (o, o2))
one_arrays pool i a b (of_references o n is) (of_primitives o2 is2) = absurd (cc (o, o2))
one_arrays pool i a b (of_references o n is) (of_references o2 n2 is2) = is ∙ ap (λ (c : List ℕ). array_of c ∷ []) (one_class pool i.operand n n2) ∙ sym is2
one_arrays pool i a b (of_references o n is) (nested o2 n2 is2) = absurd (cc (o, o2))
one_arrays pool i a b (nested o n is) (of_primitives o2 is2) = absurd (cc (o, o2))
one_arrays pool i a b (nested o n is) (of_references o2 n2 is2) = absurd (cc (o, o2))
one_arrays pool i a b (nested o n is) (nested o2 n2 is2) = is ∙ ap (nested_arrays i.dimensions) (one_class pool i.operand n n2) ∙ sym is2
