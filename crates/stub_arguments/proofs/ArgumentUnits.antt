-- The units of the arguments that stubs name, by the kinds of the parameters.
use Rattle.std.proofs.Common.{◌≡◌, ℕ, zero, suc, ◌+◌, ◌-◌, ◌≤◌, Bool, cond, if◌then◌else◌, List, [], ◌∷◌, ◌++◌, take, drop, sum_by, Option, refl, sym, ap, ◌∙◌, arith, append_assoc}
use Rattle.std.specs.List.{AllZip, AllByRecursion}
use Rattle.std.proofs.lemmas.List.{append-nil}
use Rattle.std.proofs.lemmas.List.Sums.{sum_by-cons}
use Rattle.jvm_model.specs.declared.descriptor.Kind.{Kind}
use Rattle.jvm_model.specs.declared.descriptor.Kind.TheVariants.{Prim, Class, Array}
use Rattle.jvm_model.specs.declared.stub.StubArgument.{StubArgument}
use Rattle.jvm_model.specs.declared.stub.StubArgument.TheVariants.{This, Argument}
use Rattle.jvm_model.specs.declared.stub.StubMethod.{StubMethod}
use Rattle.jvm_model.specs.Descriptors.{units_of, IsFieldDescriptor, IsMethodDescriptor}
use Rattle.jvm_model.specs.DescriptorValues.{IsKind, IsMethodOf, kind_units}
use Rattle.jvm_model.specs.Fronts.{EndsParameters}
use Rattle.jvm_model.proofs.FieldKinds.{field_of_kind, no_field}
use Rattle.jvm_model.proofs.Fields.{not_closing}
use Rattle.jvm_model.proofs.MethodKinds.{method_in_grammar}
use Rattle.jvm_model.proofs.Parameters.{joined, rest_of_parameters, HasRead}
use Rattle.machine_bytecode.specs.Described.{argument_unit}
use Rattle.points_to_rules.specs.Calls.{IsUnitOf}
use Rattle.stub_arguments.specs.Units.{unit_by_kinds}

-- ---- units by kinds

units_of_kind : (text : List ℕ) (k : Kind) → IsKind text k → kind_units k ≡ units_of text
units_of_kind text (Prim wide) is = ap (λ (w : Bool). cond w 2 1) is.1
units_of_kind text (Class name) is = sym (ap units_of is.1)
units_of_kind text (Array zero element) is = absurd (omega (arith, is.0))
units_of_kind text (Array (suc n) element) is = sym (ap units_of is.3)

-- of the first parameters
units_before : (ps : List (List ℕ)) (kinds : List Kind) (k : ℕ) → AllZip IsKind ps kinds → sum_by kind_units (take k kinds) ≡ sum_by units_of (take k ps)
units_before ps kinds zero each = refl
units_before [] [] (suc k) each = refl
units_before [] (l ∷ kinds) (suc k) each = absurd each
units_before (p ∷ ps) [] (suc k) each = absurd each
units_before (p ∷ ps) (l ∷ kinds) (suc k) each =
    omega (arith, units_of_kind p l each.0, units_before ps kinds k each.1, sum_by-cons kind_units l (take k kinds), sum_by-cons units_of p (take k ps))

units_of_kinds : (ps : List (List ℕ)) (kinds : List Kind) → AllZip IsKind ps kinds → sum_by kind_units kinds ≡ sum_by units_of ps
units_of_kinds [] [] each = refl
units_of_kinds [] (l ∷ kinds) each = absurd each
units_of_kinds (p ∷ ps) [] each = absurd each
units_of_kinds (p ∷ ps) (l ∷ kinds) each =
    omega (arith, units_of_kind p l each.0, units_of_kinds ps kinds each.1, sum_by-cons kind_units l kinds, sum_by-cons units_of p ps)

-- they are at most 255
pub few_units : (text : List ℕ) (kinds : List Kind) (outcome : Option Kind) → IsMethodOf text kinds outcome → sum_by kind_units kinds ≤ 255
few_units text kinds outcome is = omega (arith, units_of_kinds is.parameters kinds is.each, is.units)

-- ---- the parameters of a descriptor

fields_of_kinds : (ps : List (List ℕ)) (kinds : List Kind) → AllZip IsKind ps kinds → AllByRecursion IsFieldDescriptor ps
fields_of_kinds [] kinds each = tt
fields_of_kinds (p ∷ ps) [] each = absurd each
fields_of_kinds (p ∷ ps) (k ∷ kinds) each = (field_of_kind p k each.0, fields_of_kinds ps kinds each.1)

none_more : (a b : List ℕ) (more : List (List ℕ)) → AllByRecursion IsFieldDescriptor more → 41 ∷ a ≡ joined more ++ 41 ∷ b → more ≡ []
none_more a b [] each e = refl
none_more a b (q ∷ more) each e = absurd (not_closing q (joined more ++ 41 ∷ b) a each.0 (sym (append_assoc q (joined more) (41 ∷ b)) ∙ sym e))

one_parameters : (text : List ℕ) (kinds : List Kind) (outcome : Option Kind) → (is : IsMethodOf text kinds outcome) → (d : IsMethodDescriptor text) → d.parameters ≡ is.parameters
one_parameters text kinds outcome is d =
    let tail = joined is.parameters ++ 41 ∷ is.outcome in
    let read : HasRead tail (41 ∷ is.outcome) (sum_by units_of is.parameters) = record {
      parameters = is.parameters;
      spelled = refl;
      each = fields_of_kinds is.parameters kinds is.each;
      counted = refl;
    } in
    let ends : EndsParameters tail d.outcome = record { parameters = d.parameters; spelled = ap (drop 1) (sym is.spelled ∙ d.spelled); each = d.each; units = d.units } in
    let more = rest_of_parameters tail (41 ∷ is.outcome) d.outcome (sum_by units_of is.parameters) read ends in
    more.all ∙ ap (λ (qs : List (List ℕ)). is.parameters ++ qs) (none_more is.outcome d.outcome more.more more.each more.spelled) ∙ append-nil is.parameters

-- ---- the unit of an argument

same_unit : (is_static : Bool) (ps : List (List ℕ)) (kinds : List Kind) (argument : StubArgument) → AllZip IsKind ps kinds → unit_by_kinds is_static kinds argument ≡ argument_unit is_static ps argument
same_unit is_static ps kinds This each = refl
same_unit is_static ps kinds (Argument number) each = ap (λ (k : ℕ). (if is_static then 0 else 1) + k) (units_before ps kinds (number - 1) each)

pub unit_by_descriptor : (stub : StubMethod) (argument : StubArgument) (kinds : List Kind) (outcome : Option Kind) → IsMethodOf stub.descriptor kinds outcome
    → IsUnitOf stub argument (unit_by_kinds stub.is_static kinds argument)
unit_by_descriptor stub argument kinds outcome is =
    let d = method_in_grammar stub.descriptor kinds outcome is in
    record {
      descriptor = d;
      is = same_unit stub.is_static is.parameters kinds argument is.each
          ∙ ap (λ (ps : List (List ℕ)). argument_unit stub.is_static ps argument) (sym (one_parameters stub.descriptor kinds outcome is d));
    }

pub one_unit : (stub : StubMethod) (argument : StubArgument) (kinds : List Kind) (outcome : Option Kind) (u : ℕ) → IsMethodOf stub.descriptor kinds outcome → IsUnitOf stub argument u
    → u ≡ unit_by_kinds stub.is_static kinds argument
one_unit stub argument kinds outcome u is of =
    of.is ∙ ap (λ (ps : List (List ℕ)). argument_unit stub.is_static ps argument) (one_parameters stub.descriptor kinds outcome is of.descriptor)
    ∙ sym (same_unit stub.is_static is.parameters kinds argument is.each)

-- the descriptor of a field gives no unit
pub no_unit_of_field : (stub : StubMethod) (argument : StubArgument) (kind : Kind) (u : ℕ) → IsKind stub.descriptor kind → IsUnitOf stub argument u → ⊥
no_unit_of_field stub argument kind u is of =
    no_field 40 stub.descriptor (joined of.descriptor.parameters ++ 41 ∷ of.descriptor.outcome) refl of.descriptor.spelled (field_of_kind stub.descriptor kind is)
