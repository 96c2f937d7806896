-- The descriptor of a method of a program, and the units of its parameters.
use Rattle.std.proofs.Common.{◌≡◌, ◌||◌, ℕ, ◌+◌, ◌≤◌, Bool, true, false, if◌then◌else◌, length, Option, Some, None, IfSome, IfNone, refl, sym, ap, ◌∙◌, subst, arith}
use Rattle.std.specs.List.{slice_get}
use Rattle.std.proofs.lemmas.List.Elements.{All-contains}
use Rattle.jvm_model.specs.declared.access.AccessFlag.TheVariants.{Static}
use Rattle.jvm_model.specs.declared.descriptor.Descriptor.{Descriptor}
use Rattle.jvm_model.specs.declared.descriptor.Descriptor.TheVariants.{Field, Method as OfMethod}
use Rattle.jvm_model.specs.declared.grammar.Grammar.TheVariants.{MethodDescriptor}
use Rattle.jvm_model.specs.Access.{has_flag}
use Rattle.jvm_model.specs.Descriptors.{IsFieldDescriptor, IsMethodDescriptor}
use Rattle.jvm_model.specs.DescriptorValues.{IsDescriptorOf}
use Rattle.jvm_model.specs.LinkedPrograms.{IsProgram, IsBodyOf}
use Rattle.jvm_model.specs.Lookups.{Signature}
use Rattle.jvm_model.specs.Programs.{Program, Method, Body, in_file, described, is_static, is_class_initialiser}
use Rattle.jvm_model.proofs.MethodKinds.{method_in_grammar}
use Rattle.code_reader.specs.Parameters.{HasUnits}
use Rattle.flow_graph.specs.Reading.{HasCounts, spelled_units}
use Rattle.flow_graph.proofs.DescriptorUnits.{counts_spelled}
use Rattle.program_model.proofs.MemberUses.{method_uses, text_in_grammar}
use Rattle.hierarchy.proofs.ClassPlaces.{contained}
use Rattle.lowering_spec.specs.LoweredMethods.{HasParameterUnits}

-- what stands for a method of a number is its own
pub body_of : (p : Program) → IsProgram p → (n : ℕ) (m : Method) → slice_get p.methods n ≡ Some m → IsBodyOf m m.body
body_of p program n m stands = All-contains (λ (k : Method). IsBodyOf k k.body) p.methods m program.bodies (contained p.methods n m stands)

by_body : (m : Method) (b : Body) → IsBodyOf m b → IsMethodDescriptor m.signature.descriptor
by_body m (in_file file place member) is =
    let uses = method_uses file is.checked.sound place member is.stands in
    subst (λ (s : Signature). IsMethodDescriptor s.descriptor) (sym is.same_call)
    (text_in_grammar file.pool MethodDescriptor member.descriptor uses.descriptor_leads uses.descriptor_in)
by_body m (described d) is =
    subst (λ (s : Signature). IsMethodDescriptor s.descriptor) (sym is.same_call) (method_in_grammar d.descriptor is.sound.parameters is.sound.outcome is.sound.descriptor)

pub method_descriptor : (p : Program) → IsProgram p → (n : ℕ) (m : Method) → slice_get p.methods n ≡ Some m → IsMethodDescriptor m.signature.descriptor
method_descriptor p program n m stands = by_body m m.body (body_of p program n m stands)

units_are : (o : Option Descriptor) (units : ℕ) → HasUnits o units → units ≡ (spelled_units o).parameters
units_are None units is = is
units_are (Some (Field kind)) units is = is
units_are (Some (OfMethod kinds outcome)) units is = is

-- the receiver, and the parameters that were read of its descriptor
pub parameters_counted : (m : Method) (flags : ℕ) (s : Signature) (o : Option Descriptor) (receiver units : ℕ) → m.flags ≡ flags → m.signature ≡ s → IsMethodDescriptor m.signature.descriptor
    → IfSome o (IsDescriptorOf s.descriptor) → IfNone o ((IsFieldDescriptor s.descriptor → ⊥) × (IsMethodDescriptor s.descriptor → ⊥))
    → receiver ≡ (if has_flag flags Static || is_class_initialiser s then 0 else 1) → HasUnits o units → HasParameterUnits m (receiver + units)
parameters_counted m flags s o receiver units same_flags same_signature is found none of_receiver has =
    let of_s = subst (λ (t : Signature). IsMethodDescriptor t.descriptor) same_signature is in
    let counts : HasCounts s.descriptor (spelled_units o) = counts_spelled s.descriptor o (spelled_units o) found none refl of_s in
    let of_m : HasCounts m.signature.descriptor (spelled_units o) = subst (λ (t : Signature). HasCounts t.descriptor (spelled_units o)) (sym same_signature) counts in
    let counted : receiver ≡ (if is_static m then 0 else 1) =
    of_receiver ∙ ap (λ (f : ℕ). if has_flag f Static || is_class_initialiser s then 0 else 1) (sym same_flags)
    ∙ ap (λ (t : Signature). if has_flag m.flags Static || is_class_initialiser t then 0 else 1) (sym same_signature) in
    let lengths : units ≡ length of_m.parameters = units_are o units has ∙ of_m.parameters_are in
    record {
      parameters = of_m.parameters;
      results = of_m.results;
      of_descriptor = of_m.units;
      is = λ i. counted i + lengths i;
    }

-- they are few
pub few_counted : (o : Option Descriptor) (limit units : ℕ) → HasUnits o units → (spelled_units o).parameters ≤ limit → units ≤ limit
few_counted o limit units has few = let e = units_are o units has in omega (arith, e, few)

pub receiver_few : (b : ℕ) (flags : ℕ) (s : Signature) → b ≡ (if has_flag flags Static || is_class_initialiser s then 0 else 1) → b ≤ 1
receiver_few b flags s is = by (has_flag flags Static || is_class_initialiser s) is
  where
    by : (t : Bool) → b ≡ (if t then 0 else 1) → b ≤ 1
    by true e = omega (arith, e)
    by false e = omega (arith, e)
