-- The local variables of a method that has nodes hold its receiver and its parameters.
use Rattle.std.proofs.Common.{◌≡◌, ℕ, ◌+◌, ◌≤◌, cond, ◌||◌, List, [], length, sum_by, Option, Some, sym, ap, ◌∙◌, subst, arith}
use Rattle.std.specs.Prelude.{unwrap_or}
use Rattle.std.proofs.lemmas.List.Elements.{All-contains}
use Rattle.std.proofs.lemmas.Option.{same_Some}
use Rattle.jvm_model.specs.declared.access.AccessFlag.TheVariants.{Static}
use Rattle.jvm_model.specs.declared.class_file.Member.{Member}
use Rattle.jvm_model.specs.declared.descriptor.Descriptor.TheVariants.{Method as OfMethod}
use Rattle.jvm_model.specs.Access.{has_flag}
use Rattle.jvm_model.specs.DescriptorValues.{kind_units}
use Rattle.jvm_model.specs.Instructions.{HasDescriptorUnits}
use Rattle.jvm_model.specs.LinkedPrograms.{IsBodyOf, IsMemberOf, IsProgram}
use Rattle.jvm_model.specs.Lookups.{Signature, text_at}
use Rattle.jvm_model.specs.Programs.{Body, Method, Program, is_class_initialiser, is_static}
use Rattle.jvm_model.specs.Table.{UnitKind}
use Rattle.jvm_model.proofs.MethodKinds.{one_value}
use Rattle.code_reader.specs.CodeReading.{TakesUnits, by_kinds, no_method, receiver_units}
use Rattle.code_reader.proofs.ToldCodes.{Contains-from_slice_get}
use Rattle.flow_graph.proofs.DescriptorUnits.{kinds_length}
use Rattle.flow_graph.proofs.SpelledKinds.{has_kinds}
use Rattle.op_model.specs.declared.lowered.LoweredMethod.{LoweredMethod}
use Rattle.simulation.proofs.Known.{LoweredCode}
use Rattle.simulation.proofs.Locals.{parameters_there}

-- the units of a descriptor are as many as were counted
units_counted : (text : List ℕ) (ps rs : List UnitKind) (units : ℕ) → HasDescriptorUnits text ps rs → TakesUnits text units → length ps ≡ units
units_counted text ps rs units u (by_kinds kinds outcome is are) =
    let k = has_kinds text u.is in
    let same = one_value text (OfMethod k.kinds k.outcome) (OfMethod kinds outcome) k.is is in
    let same_kinds : k.kinds ≡ kinds = cc same in
    ap (λ (ks : List UnitKind). length ks) u.parameters_are ∙ kinds_length u.is.parameters k.kinds k.each ∙ ap (sum_by kind_units) same_kinds ∙ sym are
units_counted text ps rs units u (no_method none are) = let k = has_kinds text u.is in absurd (none k.kinds k.outcome k.is)

-- a method with code is the member of its class file
pub member_of : (p : Program) → IsProgram p → (number : ℕ) (l : LoweredMethod) (lc : LoweredCode p number l) → IsMemberOf lc.method lc.file lc.place lc.member
member_of p program number l lc =
    let of = All-contains (λ (m : Method). IsBodyOf m m.body) p.methods lc.method program.bodies (Contains-from_slice_get p.methods number lc.method lc.stands) in
    subst (λ (b : Body). IsBodyOf lc.method b) lc.of_file of

pub parameters_fit : (p : Program) → IsProgram p → (number : ℕ) (l : LoweredMethod) (lc : LoweredCode p number l) (ps rs : List UnitKind) → HasDescriptorUnits lc.method.signature.descriptor ps rs
    → cond (is_static lc.method) 0 1 + length ps ≤ lc.code.max_locals
parameters_fit p program number l lc ps rs u =
    let is = member_of p program number l lc in
    let taken = lc.read.taken in
    let owner : lc.read.owner ≡ lc.member = same_Some lc.read.owner lc.member (sym lc.read.there ∙ is.stands) in
    let text_name : text_at lc.file.pool lc.member.name ≡ Some taken.name = ap (λ (m : Member). text_at lc.file.pool m.name) (sym owner) ∙ taken.named in
    let text_descriptor : text_at lc.file.pool lc.member.descriptor ≡ Some taken.descriptor = ap (λ (m : Member). text_at lc.file.pool m.descriptor) (sym owner) ∙ taken.described in
    let name : lc.method.signature.name ≡ taken.name = ap (λ (s : Signature). s.name) is.same_call ∙ ap (λ (o : Option (List ℕ)). unwrap_or o []) text_name in
    let descriptor : lc.method.signature.descriptor ≡ taken.descriptor = ap (λ (s : Signature). s.descriptor) is.same_call ∙ ap (λ (o : Option (List ℕ)). unwrap_or o []) text_descriptor in
    let counted : length ps ≡ taken.parameters = units_counted taken.descriptor ps rs taken.parameters (subst (λ (t : List ℕ). HasDescriptorUnits t ps rs) descriptor u) taken.taken in
    let flags : lc.read.owner.flags ≡ lc.method.flags = ap (λ (m : Member). m.flags) owner ∙ sym is.same_flags in
    let receiver : receiver_units lc.read.owner (record { name = taken.name; descriptor = taken.descriptor }) ≡ cond (is_static lc.method) 0 1 =
    ap (λ (n : ℕ). cond (has_flag n Static || is_class_initialiser (record { name = taken.name; descriptor = taken.descriptor })) 0 1) flags
    ∙ ap (λ (t : List ℕ). cond (has_flag lc.method.flags Static || is_class_initialiser (record { name = t; descriptor = taken.descriptor })) 0 1) (sym name)
    ∙ ap (λ (t : List ℕ). cond (has_flag lc.method.flags Static || is_class_initialiser (record { name = lc.method.signature.name; descriptor = t })) 0 1) (sym descriptor) in
    let begins = lc.same.begins in
    let fits = parameters_there lc.file lc.place lc.code lc.read begins.0 begins.1 begins.2 in
    let all = taken.units_are in
    omega (arith, counted, receiver, fits, all)
